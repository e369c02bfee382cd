-- Limits that are read are at most two deep.
use Rattle.std.proofs.Common.{ℕ, codes, arith}
use Rattle.std.specs.Prelude.{option_and_then}
use Rattle.dir_tree.specs.schema_tables.Attributes.{attr_of}
use Rattle.gser_tree.specs.Reading.{part}
use Rattle.gser_tree.proofs.Theorems.{Shallow, both_read, number_is_shallow}
use Rattle.subtree_spec.specs.Parts.{oid}
use Rattle.aci_item.specs.AciText.{sorted_set}
use Rattle.aci_item.specs.members.ItemParts.{kind}
use Rattle.aci_item.specs.members.Limits.{of_same_syntax, kind_alike, count, max_value_count, restricted_value}
use Rattle.aci_item.specs.ItemPrinted.{print_max_value_count, print_restricted_value}
use Rattle.aci_item.proofs.reading.NestedLemmas.{in_braces, next_bounds, end_bounds, required_leaves, set_is_shallow, oid_is_shallow, kind_is_shallow}

kind_alike_is_shallow : (number : ℕ) → Shallow 0 (kind_alike number)
unfolding kind_alike
kind_alike_is_shallow number shape bad found h =
    let read = both_read (oid shape) (λ word. part word.place 0 (option_and_then (of_same_syntax number) (attr_of word.text))) bad found h in
    oid_is_shallow shape bad read.0 read.1

count_is_shallow : Shallow 0 count
count_is_shallow shape = number_is_shallow 0 2147483647 shape

max_value_count_is_shallow : Shallow 1 max_value_count
unfolding max_value_count
max_value_count_is_shallow shape =
    in_braces 0 shape _
    (λ members. next_bounds 0 members _ _ (required_leaves 0 0 (codes "type") kind members kind_is_shallow (omega arith))
    (λ kind. next_bounds 0 kind.rest _ _ (required_leaves 0 0 (codes "maxCount") count kind.rest count_is_shallow (omega arith))
    (λ most. end_bounds 0 most.rest (record { kind = kind.value; max_count = most.value }))))

restricted_value_is_shallow : Shallow 1 restricted_value
unfolding restricted_value
restricted_value_is_shallow shape =
    in_braces 0 shape _
    (λ members. next_bounds 0 members _ _ (required_leaves 0 0 (codes "type") kind members kind_is_shallow (omega arith))
    (λ kind. next_bounds 0 kind.rest _ _ (required_leaves 0 0 (codes "valuesIn") (kind_alike kind.value) kind.rest (kind_alike_is_shallow kind.value) (omega arith))
    (λ other. end_bounds 0 other.rest (record { kind = kind.value; values_in = other.value }))))

pub max_value_counts_are_shallow : Shallow 2 (sorted_set print_max_value_count max_value_count)
max_value_counts_are_shallow shape = set_is_shallow 1 print_max_value_count max_value_count max_value_count_is_shallow shape

pub restricted_values_are_shallow : Shallow 2 (sorted_set print_restricted_value restricted_value)
restricted_values_are_shallow shape = set_is_shallow 1 print_restricted_value restricted_value restricted_value_is_shallow shape
