-- What was put in is posted, or is taken out again.
use Rattle.std.proofs.Common.{List, [], inl, refl, ap, sym, subst, ◌∙◌}
use Rattle.dir_tree.specs.tree.Numbered.{Numbered, without}
use Rattle.dir_tree.specs.Refusals.{remove_refusal}
use Rattle.dir_tree.proofs.TreeTheorems.{new_removable, without-put_row}
use Rattle.value_index.specs.Postings.{IsIndexed}
use Rattle.aci_index.proofs.posting.PostedLemmas.{put-indexed, unused-indexed}
use Rattle.aci_index.proofs.posting.insert_posted.Goals as goal

pub returns-in-Ok-add-clause-kept : goal.returns-in-Ok-add-clause-kept
returns-in-Ok-add-clause-kept c =
    let done = c.in_ok-number.ensures in
    record {
      held = done.held;
      indexed =
          subst (λ (rows : List Numbered). IsIndexed c.add.new.self rows) (sym done.exact.0.left)
          (put-indexed c.in_ok-number.number.0 c.args.entry c.args.tree.now c.deref.result.now c.args.index.now c.add.new.self
          (c.deref.ensures.value ∙ c.in-Ok.ensures.ok) c.requires.kept.indexed c.in-Ok-add.ensures.ok);
    }

pub take_out_again-requires-clause-removable : goal.take_out_again-requires-clause-removable
take_out_again-requires-clause-removable c =
    let number = c.in_ok-number.number.0 in
    let done = c.in_ok-number.ensures in
    ap (remove_refusal number) done.exact.0.left
    ∙ new_removable number c.args.entry c.args.tree.now c.entries_form_a_tree.ensures.exact done.exact.0.free done.exact.1

pub returns-clause-exact : goal.returns-clause-exact
returns-clause-exact c =
    let number = c.in_ok-number.number.0 in
    let done = c.in_ok-number.ensures in
    (inl refl, c.take_out_again.ensures.taken ∙ ap (without number) done.exact.0.left ∙ without-put_row number c.args.entry c.args.tree.now done.exact.0.free)

pub returns-clause-kept : goal.returns-clause-kept
returns-clause-kept c =
    let number = c.in_ok-number.number.0 in
    let done = c.in_ok-number.ensures in
    let back = c.take_out_again.ensures.taken ∙ ap (without number) done.exact.0.left ∙ without-put_row number c.args.entry c.args.tree.now done.exact.0.free in
    record {
      held = c.take_out_again.ensures.held;
      indexed =
          subst (λ (rows : List Numbered). IsIndexed c.drop_but.new.self rows) (sym back)
          (unused-indexed number c.args.tree.now c.deref-in-Err.result.now [] c.args.index.now c.add.new.self c.drop_but.new.self
          done.exact.0.free c.requires.kept.indexed c.add.ensures.others c.drop_but.ensures.exact);
    }
