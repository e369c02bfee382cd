-- The limits so far allow as many, so those that are left decide.
use Rattle.std.proofs.Common.{◌≡◌, map, drop}
use Rattle.std.specs.List.{list_any}
use Rattle.aci_item.specs.item.Views.{max_value_count_of}
use Rattle.acdf_filters.specs.Limits.{is_past}
use Rattle.acdf_filters.specs.weighing.Weighing.{left_with}
use Rattle.acdf_filters.proofs.limits.is_any_past.Given as goal

abbrev pub invariant-loop-limit : goal.invariant-loop-limit
invariant-loop-limit l =
    list_any (is_past l.kind.0 (left_with l.question l.kind.0 l.value)) (map max_value_count_of (drop l.limit-index l.limits))
    ≡ list_any (is_past l.kind.0 (left_with l.question l.kind.0 l.value)) (map max_value_count_of l.limits)
