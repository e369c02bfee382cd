-- The name is read or not.
use Rattle.std.proofs.Common.{◌∙◌, ap, sym, List, Ok}
use Rattle.std.proofs.lemmas.Result.{IfOk-weaker}
use Rattle.std.specs.Result.{result_ok}
use Rattle.dir_tree.specs.dn_names.parsing.NameText.{read_name}
use Rattle.dir_tree.specs.tree.Numbered.{entries_of}
use Rattle.ldap_msg.specs.declared.kinds.Change.{Change}
use Rattle.op_modify.specs.Modifying.{modified_named}
use Rattle.op_modify.proofs.modifying.ChangeLemmas.{modified-bad, modified-read}
use Rattle.op_modify.proofs.modifying.modify.Goals as goal
use Rattle.op_add_delete.proofs.Theorems.{changed-refused, changed-like}

pub returns-in-Some-clause-ok : goal.returns-in-Some-clause-ok
returns-in-Some-clause-ok g c =
    let entries = entries_of (g.D.Dir.rows c.args.dir.now) in
    IfOk-weaker c.modify_named.result _ _
    (λ refusal is. changed-like _ _ _ refusal _
    (modified-read entries c.args.who.now c.args.request.now c.in-Some.name (sym c.in-Some.is ∙ c.in_ok-name.ensures.ok ∙ ap (λ octets. result_ok (read_name octets)) c.as_slice.ensures.exact)
    ∙ ap (λ (given : List Change). modified_named entries c.args.who.now given (Ok c.in-Some.name)) (sym c.as_slice-in-Some.ensures.exact)) is)
    c.modify_named.ensures.ok

pub returns-in-None-clause-ok : goal.returns-in-None-clause-ok
returns-in-None-clause-ok g c =
    changed-refused _ _ _ _
    (modified-bad (entries_of (g.D.Dir.rows c.args.dir.now)) c.args.who.now c.args.request.now (sym c.in-None.is ∙ c.in_ok-name.ensures.ok ∙ ap (λ octets. result_ok (read_name octets)) c.as_slice.ensures.exact))
    c.result_of.ensures.exact
