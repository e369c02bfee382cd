-- No entry so far governs, so those that are left decide.
use Rattle.std.proofs.Common.{◌≡◌}
use Rattle.dir_tree.specs.tree.Numbered.{entries_of}
use Rattle.hush_laws.specs.TwinParts.{governs_within}
use Rattle.hush_laws.proofs.within.governs_within.Given as goal

abbrev pub invariant-loop-entry : goal.invariant-loop-entry
invariant-loop-entry l = governs_within l.top l.entry-iterator ≡ governs_within l.top (entries_of l.tree)
