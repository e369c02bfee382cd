-- An empty slot counts as one without a name.
use Rattle.std.proofs.Common.{sym, ap, ◌∙◌, Option}
use Rattle.dir_tree.specs.Entry.{EntryInformation}
use Rattle.dir_tree.specs.tree.Trees.{is_before}
use Rattle.dir_tree.specs.slots.Slots.{entry_in}
use Rattle.dir_tree.proofs.tree.NameLemmas.{empty_before}
use Rattle.dir_tree.proofs.subentries.comes_before.Goals as goal

pub returns-in-None : goal.returns-in-None
returns-in-None c = record {
  exact = rw c.len.ensures.exact (sym (ap (λ (slot : Option EntryInformation). is_before (entry_in slot).name c.args.name.now) (sym c.in-None.ensures.exact)
      ∙ empty_before c.args.name.now));
}
