-- The items so far, and those of the values that are left.
use Rattle.std.proofs.Common.{◌≡◌, ◌++◌, map, drop}
use Rattle.std.specs.List.{filter_map}
use Rattle.std.specs.Option.{option_map}
use Rattle.aci_item.specs.AciText.{item_of}
use Rattle.acdf_filters.specs.Tuples.{tagged}
use Rattle.acdf_filters.specs.weighing.Weighing.{tagged_of}
use Rattle.acdf_filters.proofs.reading.read_items.Given as goal

abbrev pub invariant-loop-value : goal.invariant-loop-value
invariant-loop-value l =
    map tagged_of l.items.items ++ filter_map (λ value. option_map tagged (item_of value.octets)) (drop l.value-index l.value-items)
    ≡ filter_map (λ value. option_map tagged (item_of value.octets)) l.value-items
