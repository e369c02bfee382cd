-- Where no entry has the name, none of the name may be read.
use Rattle.std.proofs.Common.{◌∙◌, sym, ap, subst}
use Rattle.std.proofs.lemmas.Result.{IfOk-weaker}
use Rattle.dir_tree.specs.tree.Numbered.{IsNumberedTree}
use Rattle.page_core.specs.read_model.CompareReplies.{compared_in}
use Rattle.directory.specs.Asking.{view_in}
use Rattle.op_read.proofs.selecting.SeenLemmas.{readable-none}
use Rattle.op_read.proofs.comparing.compare_found.Goals as goal

pub returns-in-None : goal.returns-in-None
returns-in-None g c =
    let rows = g.D.Dir.rows c.args.asking.now.dir.now in
    let who = c.args.asking.now.who.now in
    let tree : IsNumberedTree rows = subst IsNumberedTree c.tree.ensures.exact c.entries_form_a_tree.ensures.exact in
    record {
      ok = IfOk-weaker c.absent.result _ _
          (λ ended is. is
          ∙ ap (compared_in (view_in rows who) c.args.name.now c.args.kind.0 c.args.asserted.now)
          (sym (readable-none rows who c.args.name.now tree (sym c.in-None.ensures.exact))))
          c.absent.ensures.ok;
    }
