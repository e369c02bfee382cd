-- The restrictions so far allow the value, so those that are left decide.
use Rattle.std.proofs.Common.{◌≡◌, map, drop}
use Rattle.std.specs.List.{list_any}
use Rattle.aci_item.specs.item.Views.{restricted_value_of}
use Rattle.acdf_filters.specs.Limits.{is_outside}
use Rattle.acdf_filters.specs.weighing.Weighing.{left_with}
use Rattle.acdf_filters.proofs.limits.is_any_outside.Given as goal

abbrev pub invariant-loop-limit : goal.invariant-loop-limit
invariant-loop-limit l =
    list_any (is_outside l.kind.0 l.value (left_with l.question l.kind.0 l.value)) (map restricted_value_of (drop l.limit-index l.limits))
    ≡ list_any (is_outside l.kind.0 l.value (left_with l.question l.kind.0 l.value)) (map restricted_value_of l.limits)
