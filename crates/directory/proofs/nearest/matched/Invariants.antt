-- No entry above the name that has at least so many RDNs may be known of.
use Rattle.std.proofs.Common.{◌≤◌, length}
use Rattle.dir_tree.specs.tree.Numbered.{entries_of}
use Rattle.acdf_filters.specs.Granted.{is_disclosed}
use Rattle.directory.specs.Fronts.{NonePasses}
use Rattle.directory.proofs.nearest.matched.Given as goal

abbrev pub invariant-loop-len : goal.invariant-loop-len
invariant-loop-len g l = record {
  within : l.len ≤ length l.name;
  hidden : NonePasses (is_disclosed (entries_of (g.D.Dir.rows l.asking.dir.now)) l.asking.who.now) l.len l.name (entries_of (g.D.Dir.rows l.asking.dir.now));
}

abbrev pub decreases-loop-len : goal.decreases-loop-len
decreases-loop-len g l = l.len
