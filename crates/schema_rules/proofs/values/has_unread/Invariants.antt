-- None of the attributes so far.
use Rattle.std.proofs.Common.{◌≡◌, false, take}
use Rattle.std.specs.List.{list_any}
use Rattle.aci_item.specs.Rules.{has_unread_value}
use Rattle.schema_rules.proofs.values.has_unread.Given as goal

abbrev pub invariant-loop-index : goal.invariant-loop-index
invariant-loop-index l = list_any has_unread_value (take l.index l.entry.attributes) ≡ false
