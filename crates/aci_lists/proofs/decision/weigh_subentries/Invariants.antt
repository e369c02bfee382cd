-- The subentries that are left make of the state so far what all make of the first.
use Rattle.std.proofs.Common.{◌≡◌, map, drop}
use Rattle.std.specs.Prelude.{fold}
use Rattle.acdf_filters.specs.weighing.Weighing.{weighed_for}
use Rattle.aci_lists.specs.kept.Lists.{tuples_at}
use Rattle.aci_lists.proofs.decision.weigh_subentries.Given as goal

abbrev pub invariant-loop-number : goal.invariant-loop-number
invariant-loop-number l =
    fold (weighed_for l.question) l.now (tuples_at l.kept (map (λ no. no.0) (drop l.number-index l.numbers)))
    ≡ fold (weighed_for l.question) l.initial.now (tuples_at l.kept (map (λ no. no.0) l.numbers))
