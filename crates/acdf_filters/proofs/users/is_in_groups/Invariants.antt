-- The name is in none of the groups so far, so those that are left decide.
use Rattle.std.proofs.Common.{◌≡◌, drop}
use Rattle.dir_tree.specs.tree.Numbered.{entries_of}
use Rattle.acdf_filters.specs.users.Users.{is_in_groups}
use Rattle.acdf_filters.proofs.users.is_in_groups.Given as goal

abbrev pub invariant-loop-group : goal.invariant-loop-group
invariant-loop-group l =
    is_in_groups (entries_of l.question.tree.now) l.name (drop l.group-index l.groups) ≡ is_in_groups (entries_of l.question.tree.now) l.name l.groups
