-- None of the attributes so far.
use Rattle.std.proofs.Common.{◌≡◌, false, take, ◌&&◌, nat_lt, length}
use Rattle.std.specs.List.{list_any}
use Rattle.dir_tree.specs.schema_tables.Attributes.{is_single}
use Rattle.schema_rules.proofs.values.has_two_values.Given as goal

abbrev pub invariant-loop-index : goal.invariant-loop-index
invariant-loop-index l = list_any (λ attribute. is_single attribute.kind && nat_lt 1 (length attribute.values)) (take l.index l.entry.attributes) ≡ false
