-- The base is a name, or none.
use Rattle.std.proofs.Common.{◌∙◌, ◌∷◌, [], sym, ap}
use Rattle.std.specs.Result.{result_ok}
use Rattle.std.proofs.lemmas.Result.{on_ok_weaker}
use Rattle.dir_tree.specs.dn_names.parsing.NameText.{read_name}
use Rattle.ldap_msg.specs.declared.kinds.LdapResult.{LdapResult}
use Rattle.ldap_msg.specs.declared.kinds.Reply.TheVariants as reply
use Rattle.ldap_msg.specs.declared.operations.Ending.TheVariants as ending
use Rattle.directory.specs.Asking.{view_in}
use Rattle.op_read.proofs.sending.PutsLemmas.{puts-same}
use Rattle.op_read.proofs.searching.AnsweringLemmas.{known-some, known-none}
use Rattle.op_read.proofs.searching.put_known.Goals as goal

pub returns-in-Some-clause-ok : goal.returns-in-Some-clause-ok
returns-in-Some-clause-ok g c =
    let view = view_in (g.D.Dir.rows c.args.asking.now.dir.now) c.args.asking.now.who.now in
    let asked = c.args.asked in
    on_ok_weaker c.put_named.result
    (puts-same asked.id _ _ c.args.out.now.items c.put_named.new.out.items
    (known-some view asked.request.now asked.subentries c.in-Some.base (sym c.in-Some.is ∙ c.in_ok-base.ensures.ok ∙ ap (λ octets. result_ok (read_name octets)) c.as_slice.ensures.exact)))
    c.put_named.ensures.ok

pub returns-in-None-clause-ok : goal.returns-in-None-clause-ok
returns-in-None-clause-ok g c =
    let view = view_in (g.D.Dir.rows c.args.asking.now.dir.now) c.args.asking.now.who.now in
    let asked = c.args.asked in
    on_ok_weaker c.put_done.result
    (puts-same asked.id _ _ c.args.out.now.items c.put_done.new.out.items
    (ap (λ (ended : LdapResult). reply.Ended ending.Done ended ∷ []) c.result_of.ensures.exact
    ∙ known-none view asked.request.now asked.subentries (sym c.in-None.is ∙ c.in_ok-base.ensures.ok ∙ ap (λ octets. result_ok (read_name octets)) c.as_slice.ensures.exact)))
    c.put_done.ensures.ok
