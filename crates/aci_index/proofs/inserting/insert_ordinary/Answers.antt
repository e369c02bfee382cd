-- The subtrees stay those of the subentries, all other lists stay right, and what was put in can be taken out again.
use Rattle.std.proofs.Common.{◌≡◌, List, None, Some, inl, refl, ap, sym, subst, ◌∙◌}
use Rattle.dir_tree.specs.tree.Numbered.{Numbered, IsNumberedTree, put_entry, without}
use Rattle.dir_tree.specs.Refusals.{remove_refusal}
use Rattle.dir_tree.proofs.TreeTheorems.{without-put_row}
use Rattle.acdf_filters.specs.admin_scope.Finding.{AreSubtrees}
use Rattle.aci_index.proofs.laws.RowLemmas.{change-put}
use Rattle.aci_lists.specs.kept.Holdings.{IsHeld}
use Rattle.dir_tree.proofs.TreeTheorems.{new_removable}
use Rattle.aci_index.specs.Steps.{IsKeptOf}
use Rattle.aci_index.proofs.inserting.SubtreeLemmas.{subtrees-stay}
use Rattle.aci_index.proofs.inserting.HeldLemmas.{held-unused}
use Rattle.aci_index.proofs.inserting.LeafLemmas.{held-put}
use Rattle.aci_index.proofs.inserting.insert_ordinary.Goals as goal

pub keep_anew-requires : goal.keep_anew-requires
keep_anew-requires c =
    let number = c.in_ok-number.number.0 in
    let rows = c.args.tree.now in
    let done = c.in_ok-number.ensures in
    let also = subst IsNumberedTree done.exact.0.left c.entries_form_a_tree-2.ensures.exact in
    record {
      subtrees =
          subst (λ (new : List Numbered). AreSubtrees c.args.held.now.subtrees.items new) (sym done.exact.0.left)
          (subtrees-stay number rows (put_entry number c.args.entry rows) None (Some c.args.entry) c.args.held.now.subtrees.items
          c.entries_form_a_tree.ensures.exact also (change-put number c.args.entry rows done.exact.0.free) tt c.requires.ordinary c.requires.held.subtrees);
    }

pub take_back-requires : goal.take_back-requires
take_back-requires c =
    let number = c.in_ok-number.number.0 in
    let done = c.in_ok-number.ensures in
    ap (remove_refusal number) done.exact.0.left
    ∙ new_removable number c.args.entry c.args.tree.now c.entries_form_a_tree.ensures.exact done.exact.0.free done.exact.1

pub returns-in-Ok-clause-held : goal.returns-in-Ok-clause-held
returns-in-Ok-clause-held c =
    let number = c.in_ok-number.number.0 in
    let rows = c.args.tree.now in
    let done = c.in_ok-number.ensures in
    let made = c.keep_anew.new.held in
    let also = subst IsNumberedTree done.exact.0.left c.entries_form_a_tree-2.ensures.exact in
    subst (λ (new : List Numbered). IsHeld made new) (sym done.exact.0.left)
    (held-put number c.args.entry rows c.args.held.now made c.entries_form_a_tree.ensures.exact also done.exact.0.free done.exact.1 c.requires.ordinary c.requires.held
    c.in-Ok.ensures.others (subst (λ (new : List Numbered). IsKeptOf number made new) done.exact.0.left c.in-Ok.ensures.own))

pub returns-in-Err-clause-exact : goal.returns-in-Err-clause-exact
returns-in-Err-clause-exact c =
    let number = c.in_ok-number.number.0 in
    let done = c.in_ok-number.ensures in
    (inl refl, c.take_back.ensures ∙ ap (without number) done.exact.0.left ∙ without-put_row number c.args.entry c.args.tree.now done.exact.0.free)

pub returns-in-Err-clause-held : goal.returns-in-Err-clause-held
returns-in-Err-clause-held c =
    let number = c.in_ok-number.number.0 in
    let rows = c.args.tree.now in
    let done = c.in_ok-number.ensures in
    let made = c.keep_anew.new.held in
    let back : c.take_back.new.tree ≡ rows = c.take_back.ensures ∙ ap (without number) done.exact.0.left ∙ without-put_row number c.args.entry rows done.exact.0.free in
    subst (λ (left : List Numbered). IsHeld made left) (sym back)
    (held-unused number rows c.args.held.now made done.exact.0.free c.requires.held c.in-Err.ensures.others)
