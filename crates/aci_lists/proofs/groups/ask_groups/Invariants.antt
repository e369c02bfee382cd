-- What is known so far, of the requester, and the groups that are left.
use Rattle.std.proofs.Common.{◌≡◌, ◌++◌, Some, drop}
use Rattle.dir_tree.specs.tree.Numbered.{entries_of}
use Rattle.acdf_filters.specs.Memberships.{groups_of}
use Rattle.acdf_filters.specs.weighing.Weighing.{AreMemberships}
use Rattle.aci_lists.proofs.groups.ask_groups.Given as goal

abbrev pub invariant-loop-group : goal.invariant-loop-group
invariant-loop-group l = record {
  ok : AreMemberships (entries_of l.tree) (Some l.name) l.known.items;
  named : l.named ≡ l.name;
  groups : groups_of l.known.items ++ drop l.group-index l.groups ≡ l.groups;
}
