-- What is put so far, and the tuples that are left.
use Rattle.std.proofs.Common.{◌≡◌, ◌++◌, map, drop}
use Rattle.acdf_filters.specs.aci_item.item.Views.{tuple_of}
use Rattle.acdf_filters.specs.Tuples.{listed_by}
use Rattle.explanation.specs.Explained.{name_at}
use Rattle.explanation.specs.Candidates.{described_for, described_all}
use Rattle.explanation.proofs.candidates.put_tuples.Given as goal

abbrev pub invariant-loop-tuple : goal.invariant-loop-tuple
invariant-loop-tuple l =
    described_all l.question.tree.now l.out.items
    ++ map (described_for l.question) (listed_by (name_at l.question.tree.now l.source.0) (record { tag = l.tag; tuples = map tuple_of (drop l.tuple-index l.tuples) }))
    ≡ described_all l.question.tree.now l.initial.out.items
    ++ map (described_for l.question) (listed_by (name_at l.question.tree.now l.source.0) (record { tag = l.tag; tuples = map tuple_of l.tuples }))
