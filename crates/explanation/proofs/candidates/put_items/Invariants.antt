-- What is put so far, and the items that are left.
use Rattle.std.proofs.Common.{◌≡◌, ◌++◌, map, drop}
use Rattle.std.specs.Prelude.{flat_map}
use Rattle.acdf_filters.specs.Tuples.{listed_by}
use Rattle.acdf_filters.specs.weighing.Weighing.{tagged_of}
use Rattle.explanation.specs.Explained.{name_at}
use Rattle.explanation.specs.Candidates.{described_for, described_all}
use Rattle.explanation.proofs.candidates.put_items.Given as goal

abbrev pub invariant-loop-item : goal.invariant-loop-item
invariant-loop-item l =
    described_all l.question.tree.now l.out.items
    ++ map (described_for l.question) (flat_map (listed_by (name_at l.question.tree.now l.source.0)) (map tagged_of (drop l.item-index l.items)))
    ≡ described_all l.question.tree.now l.initial.out.items
    ++ map (described_for l.question) (flat_map (listed_by (name_at l.question.tree.now l.source.0)) (map tagged_of l.items))
