-- None of the values so far.
use Rattle.std.proofs.Common.{◌≡◌, drop}
use Rattle.aci_item.specs.Rules.{has_unread_of}
use Rattle.schema_rules.proofs.values.has_unread_of.Given as goal

abbrev pub invariant-loop-value : goal.invariant-loop-value
invariant-loop-value l = has_unread_of (drop l.value-index l.values) l.syntax ≡ has_unread_of l.values l.syntax
