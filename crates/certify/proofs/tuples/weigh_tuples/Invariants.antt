-- What is weighed so far, and the tuples that are left.
use Rattle.std.proofs.Common.{◌≡◌, map, drop}
use Rattle.std.specs.Prelude.{fold}
use Rattle.acdf_filters.specs.aci_item.item.Views.{tuple_of}
use Rattle.acdf_filters.specs.weighing.Weighing.{weighed_for}
use Rattle.certify.proofs.tuples.weigh_tuples.Given as goal

abbrev pub invariant-loop-tuple : goal.invariant-loop-tuple
invariant-loop-tuple l =
    fold (weighed_for l.question) l.seen (map tuple_of (drop l.tuple-index l.tuples))
    ≡ fold (weighed_for l.question) l.initial.seen (map tuple_of l.tuples)
