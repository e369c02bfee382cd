-- The base may be known of, or is hidden.
use Rattle.std.proofs.Common.{◌∙◌, sym, ap}
use Rattle.std.specs.Prelude.{if◌then◌else◌}
use Rattle.std.proofs.lemmas.Result.{IfOk-weaker}
use Rattle.ldap_msg.specs.declared.operations.ResultCode.TheVariants as code
use Rattle.page_core.specs.read_model.Views.{result_of, no_such_object}
use Rattle.directory.specs.Asking.{view_in}
use Rattle.op_read.proofs.selecting.SeenLemmas.{disclosed-target}
use Rattle.op_read.proofs.sending.nothing_found.Goals as goal

pub returns-then-allows : goal.returns-then-allows
returns-then-allows g c =
    let rows = g.D.Dir.rows c.args.target.now.asking.now.dir.now in
    let who = c.args.target.now.asking.now.who.now in
    record {
      ok = c.result_of.ensures.exact
          ∙ ap (λ known. if known then result_of code.Success else no_such_object (view_in rows who) c.args.base.now)
          (sym c.if-allows.true ∙ c.allows.ensures.exact ∙ disclosed-target rows who c.args.base.now c.args.target.now.number.0 c.args.target.now.entry.now c.requires.tree c.requires.found c.args.target.now.found);
    }

pub returns-else-allows : goal.returns-else-allows
returns-else-allows g c =
    let rows = g.D.Dir.rows c.args.target.now.asking.now.dir.now in
    let who = c.args.target.now.asking.now.who.now in
    record {
      ok = IfOk-weaker c.no_such_object.result _ _ (λ ended is.
          is
          ∙ ap (λ known. if known then result_of code.Success else no_such_object (view_in rows who) c.args.base.now)
          (sym c.if-allows.false ∙ c.allows.ensures.exact ∙ disclosed-target rows who c.args.base.now c.args.target.now.number.0 c.args.target.now.entry.now c.requires.tree c.requires.found c.args.target.now.found)) c.no_such_object.ensures.ok;
    }
