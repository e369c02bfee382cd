-- The members are those of the group's entry, if there is one.
use Rattle.std.proofs.Common.{Option, false, ap, ◌∙◌}
use Rattle.std.specs.Option.{option_map_or}
use Rattle.dir_tree.specs.Entry.{EntryInformation}
use Rattle.acdf_filters.specs.users.Users.{has_member, is_in_group}
use Rattle.acdf_filters.proofs.users.is_in_group.Goals as goal

pub returns-in-Some : goal.returns-in-Some
unfolding is_in_group
returns-in-Some c = record {
  exact =
      c.has_member.ensures.exact
      ∙ ap (λ (found : Option EntryInformation). option_map_or (has_member c.args.name.now) found false) c.in-Some.ensures.exact;
}

pub returns-in-None : goal.returns-in-None
unfolding is_in_group
returns-in-None c = record {
  exact = ap (λ (found : Option EntryInformation). option_map_or (has_member c.args.name.now) found false) c.in-None.ensures.exact;
}
