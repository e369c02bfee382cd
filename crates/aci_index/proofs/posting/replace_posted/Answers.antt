-- The one that came is posted alone.
use Rattle.std.proofs.Common.{ℕ, List, sym, subst, ◌∙◌}
use Rattle.dir_tree.specs.tree.Numbered.{Numbered}
use Rattle.value_index.specs.Postings.{IsAdded, IsIndexed}
use Rattle.aci_index.proofs.posting.PostedLemmas.{more-indexed, replaced-indexed}
use Rattle.aci_index.proofs.posting.replace_posted.Goals as goal

pub returns-in-Ok-replace_step-clause-kept : goal.returns-in-Ok-replace_step-clause-kept
returns-in-Ok-replace_step-clause-kept c =
    let number = c.args.successor.number.0 in
    let rows = c.args.tree.now in
    let done = c.in-Ok-replace_step.ensures in
    let after = c.deref-in-Ok-replace_step-2 in
    record {
      held = done.held;
      indexed =
          subst (λ (left : List Numbered). IsIndexed c.drop_but.new.self left) (sym done.exact.0.left)
          (replaced-indexed number c.args.successor.entry rows c.deref-in-Ok-replace_step.result.now after.result.now
          c.args.index.now c.add.new.self c.drop_but.new.self
          (after.ensures.value ∙ c.in-Ok-hashes_of.ensures.ok)
          (more-indexed number rows c.args.index.now c.add.new.self c.requires.kept.indexed c.add.ensures.kept c.add.ensures.others)
          (subst (λ (hashes : List ℕ). IsAdded number hashes c.args.index.now c.add.new.self) (c.deref.ensures.value ∙ sym after.ensures.value) c.in-Ok-add.ensures.ok)
          c.drop_but.ensures.exact);
    }
