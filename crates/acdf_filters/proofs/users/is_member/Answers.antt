-- What is known is what the tree says.
use Rattle.std.proofs.Common.{sym}
use Rattle.dir_tree.specs.tree.Numbered.{entries_of}
use Rattle.acdf_filters.proofs.users.UserLemmas.{known_member-is}
use Rattle.acdf_filters.proofs.users.is_member.Goals as goal

pub returns-in-Some : goal.returns-in-Some
returns-in-Some c = record {
  exact =
      known_member-is (entries_of c.args.question.now.tree.now) c.args.name.now c.args.group.now c.in-Some.member
      c.args.question.now.known.now c.requires (sym c.in-Some.ensures.exact);
}
