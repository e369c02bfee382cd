-- No name so far is within, so those that are left decide.
use Rattle.std.proofs.Common.{◌≡◌, drop}
use Rattle.std.specs.List.{list_any}
use Rattle.dir_tree.specs.dn_names.NameOrder.{is_prefix_of}
use Rattle.hush_laws.proofs.groups.has_within.Given as goal

abbrev pub invariant-loop-group : goal.invariant-loop-group
invariant-loop-group l = list_any (is_prefix_of l.top) (drop l.group-index l.groups) ≡ list_any (is_prefix_of l.top) l.groups
