-- The target may be known of, or not.
use Rattle.std.proofs.Common.{◌∙◌, sym, subst, true, false}
use Rattle.std.proofs.lemmas.Result.{IfOk-weaker}
use Rattle.dir_tree.specs.tree.Numbered.{IsNumberedTree}
use Rattle.directory.proofs.hiding.SeenLemmas.{hidden-named}
use Rattle.directory.proofs.hiding.hidden.Goals as goal

pub returns-then-allows : goal.returns-then-allows
returns-then-allows g c =
    let target = c.args.target.now in
    let rows = g.D.Dir.rows target.asking.now.dir.now in
    let tree : IsNumberedTree rows = subst IsNumberedTree c.tree.ensures.exact c.entries_form_a_tree.ensures.exact in
    record {
      ok = c.result_of.ensures.exact
          ∙ hidden-named rows target.asking.now.who.now c.args.name.now target.entry.now true tree c.requires.named (sym c.if-allows.true ∙ c.allows.ensures.exact);
    }

pub returns-else-allows : goal.returns-else-allows
returns-else-allows g c =
    let target = c.args.target.now in
    let rows = g.D.Dir.rows target.asking.now.dir.now in
    let tree : IsNumberedTree rows = subst IsNumberedTree c.tree.ensures.exact c.entries_form_a_tree.ensures.exact in
    record {
      ok = IfOk-weaker c.no_such_object.result _ _
          (λ ended is. is ∙ hidden-named rows target.asking.now.who.now c.args.name.now target.entry.now false tree c.requires.named (sym c.if-allows.false ∙ c.allows.ensures.exact))
          c.no_such_object.ensures.ok;
    }
