-- What was made is that of the tree, all else stands aside, and what was put in can be taken out again.
use Rattle.std.proofs.Common.{◌≡◌, List, None, Some, inl, refl, ap, sym, subst, ◌∙◌}
use Rattle.dir_tree.specs.tree.Numbered.{Numbered, IsNumberedTree, put_entry, without}
use Rattle.dir_tree.specs.Refusals.{remove_refusal}
use Rattle.dir_tree.proofs.TreeTheorems.{without-put_row}
use Rattle.aci_index.proofs.laws.RowLemmas.{change-put}
use Rattle.aci_lists.specs.kept.Holdings.{IsHeld}
use Rattle.dir_tree.proofs.TreeTheorems.{new_removable}
use Rattle.aci_index.specs.Reach.{IsAnew, top_of}
use Rattle.aci_index.specs.declared.anew.Reach.TheVariants.{Around}
use Rattle.aci_index.proofs.inserting.HeldLemmas.{held-same}
use Rattle.aci_index.proofs.anew.AnewLemmas.{held-anew}
use Rattle.aci_index.proofs.inserting.StandLemmas.{stand-put}
use Rattle.aci_index.proofs.inserting.insert_around.Goals as goal

pub take_back-requires : goal.take_back-requires
take_back-requires c =
    let number = c.in_ok-number.number.0 in
    let done = c.in_ok-number.ensures in
    ap (remove_refusal number) done.exact.0.left
    ∙ new_removable number c.args.entry c.args.tree.now c.entries_form_a_tree.ensures.exact done.exact.0.free done.exact.1

pub returns-in-Ok-clause-held : goal.returns-in-Ok-clause-held
returns-in-Ok-clause-held c =
    let number = c.in_ok-number.number.0 in
    let rows = c.args.tree.now in
    let entry = c.args.entry in
    let done = c.in_ok-number.ensures in
    let anew = c.in-Ok.anew in
    let above = c.top-above.result.0 in
    let new = put_entry number entry rows in
    let top : c.top-above.result.0 ≡ top_of Around number (put_entry number entry rows) = c.top-above.ensures.exact ∙ ap (top_of Around number) done.exact.0.left in
    let also = subst IsNumberedTree done.exact.0.left c.entries_form_a_tree-2.ensures.exact in
    let before = held-same rows c.args.held.now c.make_anew_with_room.new.held c.requires.held c.in-Ok.ensures.stay in
    subst (λ (new : List Numbered). IsHeld c.put_anew.new.held new) (sym done.exact.0.left)
    (held-anew above above number rows new None (Some entry) c.make_anew_with_room.new.held c.put_anew.new.held anew
    c.entries_form_a_tree.ensures.exact also (change-put number entry rows done.exact.0.free) (stand-put number above entry rows also done.exact.0.free c.requires.named top)
    before (subst (IsAnew above above anew) done.exact.0.left c.in-Ok.ensures.ok) c.in-Ok.ensures.room c.put_anew.ensures.exact)

pub returns-in-Err-clause-exact : goal.returns-in-Err-clause-exact
returns-in-Err-clause-exact c =
    let number = c.in_ok-number.number.0 in
    let done = c.in_ok-number.ensures in
    (inl refl, c.take_back.ensures ∙ ap (without number) done.exact.0.left ∙ without-put_row number c.args.entry c.args.tree.now done.exact.0.free)

pub returns-in-Err-clause-held : goal.returns-in-Err-clause-held
returns-in-Err-clause-held c =
    let number = c.in_ok-number.number.0 in
    let rows = c.args.tree.now in
    let done = c.in_ok-number.ensures in
    let back : c.take_back.new.tree ≡ rows = c.take_back.ensures ∙ ap (without number) done.exact.0.left ∙ without-put_row number c.args.entry rows done.exact.0.free in
    subst (λ (left : List Numbered). IsHeld c.make_anew_with_room.new.held left) (sym back)
    (held-same rows c.args.held.now c.make_anew_with_room.new.held c.requires.held c.in-Err.ensures.stay)
