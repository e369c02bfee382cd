-- No entry so far lists a group within, so those that are left decide.
use Rattle.std.proofs.Common.{◌≡◌}
use Rattle.dir_tree.specs.tree.Numbered.{entries_of}
use Rattle.hush_laws.specs.TwinParts.{lists_group_outside}
use Rattle.hush_laws.proofs.groups.lists_group_outside.Given as goal

abbrev pub invariant-loop-entry : goal.invariant-loop-entry
invariant-loop-entry l = lists_group_outside l.top l.entry-iterator ≡ lists_group_outside l.top (entries_of l.tree)
