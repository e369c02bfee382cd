-- The one row of the name, where it may be read, or none.
use Rattle.std.proofs.Common.{◌∙◌, sym, ap, subst}
use Rattle.std.proofs.lemmas.Result.{IfOk-weaker}
use Rattle.dir_tree.specs.tree.Numbered.{IsNumberedTree}
use Rattle.page_core.specs.read_model.CompareReplies.{compared_in}
use Rattle.directory.specs.Asking.{view_in}
use Rattle.op_read.proofs.selecting.SeenLemmas.{readable-yes, readable-no}
use Rattle.op_read.proofs.comparing.compare_target.Goals as goal

-- it may be read
pub returns-then-allows : goal.returns-then-allows
returns-then-allows g c =
    let target = c.args.target.now in
    let rows = g.D.Dir.rows target.asking.now.dir.now in
    let who = target.asking.now.who.now in
    let tree : IsNumberedTree rows = subst IsNumberedTree c.tree.ensures.exact c.entries_form_a_tree.ensures.exact in
    record {
      ok = c.result_of.ensures.exact ∙ c.compared.ensures.exact
          ∙ ap (compared_in (view_in rows who) c.args.name.now c.args.kind.0 c.args.asserted.now)
          (sym (readable-yes rows who c.args.name.now target.entry.now tree c.requires.named (sym c.allows.ensures.exact ∙ c.if-allows.true)));
    }

-- it may not
pub returns-else-allows : goal.returns-else-allows
returns-else-allows g c =
    let target = c.args.target.now in
    let rows = g.D.Dir.rows target.asking.now.dir.now in
    let who = target.asking.now.who.now in
    let tree : IsNumberedTree rows = subst IsNumberedTree c.tree.ensures.exact c.entries_form_a_tree.ensures.exact in
    record {
      ok = IfOk-weaker c.hidden.result _ _
          (λ ended is. is
          ∙ ap (compared_in (view_in rows who) c.args.name.now c.args.kind.0 c.args.asserted.now)
          (sym (readable-no rows who c.args.name.now target.entry.now tree c.requires.named (sym c.allows.ensures.exact ∙ c.if-allows.false))))
          c.hidden.ensures.ok;
    }
