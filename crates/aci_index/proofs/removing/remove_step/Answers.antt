-- A subentry is forgotten, and of another entry the own lists go.
use Rattle.std.proofs.Common.{List, inl, inr, sym, subst}
use Rattle.std.proofs.lemmas.Bool.{cases_Bool}
use Rattle.dir_tree.specs.Points.{is_access_subentry}
use Rattle.dir_tree.specs.tree.Numbered.{Numbered, IsNumberedTree}
use Rattle.aci_lists.specs.kept.Holdings.{IsHeld}
use Rattle.aci_index.proofs.inserting.LeafLemmas.{held-taken, held-forgotten}
use Rattle.aci_index.proofs.removing.remove_step.Goals as goal

pub returns-clause-held : goal.returns-clause-held
returns-clause-held c =
    let number = c.args.number.0 in
    let rows = c.args.tree.now in
    let entry = c.in_ok-entry.entry in
    let done = c.in_ok-entry.ensures in
    let made = c.drop_kept.new.held in
    let tree = c.entries_form_a_tree.ensures.exact in
    let also = subst IsNumberedTree done.exact.0.left c.entries_form_a_tree-2.ensures.exact in
    subst (λ (left : List Numbered). IsHeld made left) (sym done.exact.0.left)
    (elim (cases_Bool (is_access_subentry entry)) [
      | inl e ↦ held-forgotten number entry rows c.args.held.now made tree done.exact.0.found done.exact.1 c.requires.held (c.drop_kept.ensures.subentry e)
      | inr e ↦ held-taken number entry rows c.args.held.now made tree also done.exact.0.found done.exact.1 e c.requires.held (c.drop_kept.ensures.ordinary e)
    ])
