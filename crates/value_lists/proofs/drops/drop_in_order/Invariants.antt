-- The places are those of the values that are left, of which the same are to be taken out.
use Rattle.std.proofs.Common.{◌≡◌, not, filter, vec_len}
use Rattle.std.specs.Str.{bytes_eq}
use Rattle.value_lists.specs.Orders.{IsOrder}
use Rattle.value_lists.proofs.drops.drop_in_order.Given as goal

abbrev pub invariant-loop-place : goal.invariant-loop-place
invariant-loop-place l = record {
  order : IsOrder l.values.items l.places.items;
  left :
      filter (λ value. not (bytes_eq l.key value.key)) l.values.items
      ≡ filter (λ value. not (bytes_eq l.key value.key)) l.initial.values.items;
}

abbrev pub decreases-loop-place : goal.decreases-loop-place
decreases-loop-place l = vec_len l.values
