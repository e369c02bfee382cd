-- The members are those of the group's entry, if there is one.
use Rattle.std.proofs.Common.{◌≡◌, Bool, Option, false, ap, ◌∙◌}
use Rattle.std.specs.Option.{option_map_or}
use Rattle.std.proofs.lemmas.Result.{IfOk-weaker}
use Rattle.dir_tree.specs.Entry.{EntryInformation}
use Rattle.dir_tree.specs.tree.Numbered.{entries_of}
use Rattle.acdf_filters.specs.users.Users.{has_member, is_in_group}
use Rattle.acdf_filters.proofs.named.NamedRequester.is_in_group.Goals as goal

pub returns-in-Some : goal.returns-in-Some
unfolding is_in_group
returns-in-Some c = record {
  exact =
      IfOk-weaker c.is_member.result (λ (member : Bool). member ≡ has_member c.args.self.now c.in-Some.entry.now)
      (λ (member : Bool). member ≡ is_in_group (entries_of c.args.tree.now) c.args.self.now c.args.group.now)
      (λ member e.
      e
      ∙ ap (λ (found : Option EntryInformation). option_map_or (has_member c.args.self.now) found false) c.in-Some.ensures.exact)
      c.is_member.ensures.exact;
  kept = c.is_member.ensures.kept;
}

pub returns-in-None-clause-exact : goal.returns-in-None-clause-exact
unfolding is_in_group
returns-in-None-clause-exact c =
    ap (λ (found : Option EntryInformation). option_map_or (has_member c.args.self.now) found false) c.in-None.ensures.exact
