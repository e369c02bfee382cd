-- From the suffix on all entries are copied, and without one there are none.
use Rattle.std.proofs.Common.{sym, subst, ◌∙◌}
use Rattle.std.proofs.lemmas.Result.{IfOk-weaker}
use Rattle.dir_tree.specs.tree.Trees.{IsTree}
use Rattle.event_replay.proofs.tree_copy.CopyLemmas.{rows-all}
use Rattle.event_replay.proofs.tree_copy.copied_tree.Goals as goal

pub copied_below-requires : goal.copied_below-requires
copied_below-requires c =
    subst IsTree (sym (rows-all c.in-Some.suffix.0 c.args.tree.now c.entries_form_a_tree.ensures.exact (sym c.in-Some.ensures.exact)))
    c.entries_form_a_tree.ensures.exact.tree

pub returns-in-Some : goal.returns-in-Some
returns-in-Some c = record {
  ok = IfOk-weaker c.copied_below.result _ _
      (λ copy is. is ∙ rows-all c.in-Some.suffix.0 c.args.tree.now c.entries_form_a_tree.ensures.exact (sym c.in-Some.ensures.exact))
      c.copied_below.ensures.ok;
}
