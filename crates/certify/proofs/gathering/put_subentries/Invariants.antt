-- What is put so far, and the subentries that are left.
use Rattle.std.proofs.Common.{◌≡◌, ◌++◌, map, drop}
use Rattle.std.specs.Prelude.{flat_map}
use Rattle.acdf_filters.specs.Tuples.{prescriptive_aci}
use Rattle.acdf_filters.specs.weighing.Weighing.{tagged_of}
use Rattle.certify.specs.Making.{items_at}
use Rattle.certify.proofs.gathering.put_subentries.Given as goal

abbrev pub invariant-loop-number : goal.invariant-loop-number
invariant-loop-number l =
    map tagged_of l.items.items ++ flat_map (items_at l.tree prescriptive_aci) (map (λ no. no.0) (drop l.number-index l.numbers))
    ≡ map tagged_of l.initial.items.items ++ flat_map (items_at l.tree prescriptive_aci) (map (λ no. no.0) l.numbers)
