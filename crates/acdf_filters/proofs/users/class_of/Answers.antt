-- An anonymous requester is in allUsers alone.
use Rattle.std.proofs.Common.{Option, ap, sym, ◌∙◌}
use Rattle.dir_tree.specs.dn_names.name.Names.{RdnSequence}
use Rattle.dir_tree.specs.tree.Numbered.{entries_of}
use Rattle.aci_item.specs.item.Views.{classes_of}
use Rattle.acdf_filters.specs.users.Users.{ranks_of}
use Rattle.acdf_filters.specs.weighing.Weighing.{least_class}
use Rattle.acdf_filters.proofs.users.UserLemmas.{least_class-all}
use Rattle.acdf_filters.proofs.users.class_of.Goals as goal

pub returns-in-None : goal.returns-in-None
unfolding ranks_of
returns-in-None c = record {
  exact =
      let question = c.args.question.now in
      c.all_users.ensures.exact
      ∙ sym (least_class-all c.args.classes.now.all)
      ∙ ap (λ (name : Option RdnSequence). least_class (ranks_of (entries_of question.tree.now) question.entry.now (classes_of c.args.classes.now) name)) (sym c.in-None.is);
}
