-- The tuples that are left make of the state so far what all make of the first, and are in order.
use Rattle.std.proofs.Common.{◌≡◌, map, drop}
use Rattle.std.specs.Prelude.{fold}
use Rattle.acdf_filters.specs.aci_item.item.Views.{tuple_of}
use Rattle.acdf_filters.specs.weighing.Weighing.{weighed_for}
use Rattle.aci_lists.specs.Order.{IsHighestFirst}
use Rattle.aci_lists.proofs.weighing.weigh_in_order.Given as goal

abbrev pub invariant-loop-tuple : goal.invariant-loop-tuple
invariant-loop-tuple l = record {
  made : fold (weighed_for l.question) l.now (map tuple_of (drop l.tuple-index l.tuples)) ≡ fold (weighed_for l.question) l.initial.now (map tuple_of l.tuples);
  ordered : IsHighestFirst (map tuple_of (drop l.tuple-index l.tuples));
}
