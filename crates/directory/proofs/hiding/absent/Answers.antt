-- No entry of the name may be known of.
use Rattle.std.proofs.Common.{◌∙◌, subst}
use Rattle.std.proofs.lemmas.Result.{IfOk-weaker}
use Rattle.dir_tree.specs.tree.Numbered.{IsNumberedTree}
use Rattle.directory.proofs.hiding.SeenLemmas.{hidden-none}
use Rattle.directory.proofs.hiding.absent.Goals as goal

pub returns : goal.returns
returns g c =
    let rows = g.D.Dir.rows c.args.asking.now.dir.now in
    let tree : IsNumberedTree rows = subst IsNumberedTree c.tree.ensures.exact c.entries_form_a_tree.ensures.exact in
    record {
      ok = IfOk-weaker c.no_such_object.result _ _
          (λ ended is. is ∙ hidden-none rows c.args.asking.now.who.now c.args.name.now tree c.requires.none)
          c.no_such_object.ensures.ok;
    }
