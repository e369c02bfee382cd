-- No value so far names a group within, so those that are left decide.
use Rattle.std.proofs.Common.{◌≡◌, drop}
use Rattle.std.specs.List.{list_any}
use Rattle.op_read.specs.twin_laws.Groups.{names_group}
use Rattle.hush_laws.proofs.groups.names_group_in.Given as goal

abbrev pub invariant-loop-value : goal.invariant-loop-value
invariant-loop-value l = list_any (names_group l.top) (drop l.value-index l.value-items) ≡ list_any (names_group l.top) l.value-items
