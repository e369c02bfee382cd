-- The name is that of the nearest entry, if there is one.
use Rattle.std.proofs.Common.{◌∙◌, ap}
use Rattle.std.proofs.lemmas.Result.{IfOk-weaker}
use Rattle.ldap_msg.specs.declared.operations.ResultCode.TheVariants as code
use Rattle.read_model.specs.Views.{result_with}
use Rattle.directory.proofs.hiding.SeenLemmas.{no_such_object-found, no_such_object-none}
use Rattle.directory.proofs.hiding.no_such_object.Goals as goal

pub returns-in-Some : goal.returns-in-Some
returns-in-Some g c = record {
  ok = IfOk-weaker c.result_with.result _ _
      (λ ended is. is ∙ ap (result_with code.NoSuchObject) c.name.ensures.exact ∙ no_such_object-found (g.D.Dir.rows c.args.asking.now.dir.now) c.args.asking.now.who.now c.args.name.now c.in-Some.entry.now c.in-Some.ensures.exact)
      c.result_with.ensures.ok;
}

pub returns-in-None : goal.returns-in-None
returns-in-None g c = record {
  ok = c.result_of.ensures.exact ∙ no_such_object-none (g.D.Dir.rows c.args.asking.now.dir.now) c.args.asking.now.who.now c.args.name.now c.in-None.ensures.exact;
}
