-- What is put so far, and the subentries that are left.
use Rattle.std.proofs.Common.{◌≡◌, ◌++◌, map, drop}
use Rattle.std.specs.Prelude.{flat_map}
use Rattle.acdf_filters.specs.Tuples.{prescriptive_aci}
use Rattle.explanation.specs.Candidates.{described_for, described_all, listed_at}
use Rattle.explanation.proofs.candidates.put_subentries.Given as goal

abbrev pub invariant-loop-source : goal.invariant-loop-source
invariant-loop-source l =
    described_all l.question.tree.now l.out.items
    ++ map (described_for l.question) (flat_map (λ no. listed_at l.question.tree.now prescriptive_aci no.0) (drop l.source-index l.numbers))
    ≡ described_all l.question.tree.now l.initial.out.items
    ++ map (described_for l.question) (flat_map (λ no. listed_at l.question.tree.now prescriptive_aci no.0) l.numbers)
