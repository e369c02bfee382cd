-- The cookie says a name, or none.
use Rattle.std.proofs.Common.{◌∙◌, ◌∷◌, [], sym, ap}
use Rattle.std.specs.Prelude.{Option, Some}
use Rattle.std.proofs.lemmas.Result.{on_ok_weaker}
use Rattle.dir_tree.specs.dn_names.name.Names.{RdnSequence}
use Rattle.ldap_msg.specs.declared.kinds.LdapResult.{LdapResult}
use Rattle.ldap_msg.specs.declared.kinds.Reply.TheVariants as reply
use Rattle.ldap_msg.specs.declared.operations.Ending.TheVariants as ending
use Rattle.page_core.specs.Pages.{unpaged}
use Rattle.page_core.specs.Starts.{start_of}
use Rattle.directory.specs.Asking.{view_in}
use Rattle.op_read.specs.Paging.{page_from_at}
use Rattle.op_read.proofs.sending.PutsLemmas.{page-sent, unpaged-sent}
use Rattle.op_read.proofs.paging.put_page_from.Goals as goal

pub returns-in-Some-clause-ok : goal.returns-in-Some-clause-ok
returns-in-Some-clause-ok g c =
    let view = view_in (g.D.Dir.rows c.args.asking.now.dir.now) c.args.asking.now.who.now in
    let asked = c.args.asked in
    let page = c.args.page.now in
    let from = λ (start : Option RdnSequence). page_from_at view asked.request.now asked.subentries c.args.base.now page.size start in
    on_ok_weaker c.put_page_sized.result
    (λ put.
    page-sent asked.id c.args.out.now.items c.put_page_sized.new.out.items (from (Some c.in-Some.after)) (from (start_of page.cookie)) put
    (ap from (sym c.in-Some.is ∙ c.in_ok-after.ensures.ok ∙ ap start_of c.as_slice.ensures.exact)))
    c.put_page_sized.ensures.ok

pub returns-in-None-clause-ok : goal.returns-in-None-clause-ok
returns-in-None-clause-ok g c =
    let view = view_in (g.D.Dir.rows c.args.asking.now.dir.now) c.args.asking.now.who.now in
    let asked = c.args.asked in
    let page = c.args.page.now in
    let from = λ (start : Option RdnSequence). page_from_at view asked.request.now asked.subentries c.args.base.now page.size start in
    on_ok_weaker c.put_done.result
    (λ put.
    unpaged-sent asked.id c.args.out.now.items c.put_done.new.out.items (reply.Ended ending.Done c.result_of-ended.result ∷ []) (from (start_of page.cookie)) put
    (ap (λ (ended : LdapResult). unpaged (reply.Ended ending.Done ended ∷ [])) c.result_of-ended.ensures.exact ∙ ap from (sym c.in-None.is ∙ c.in_ok-after.ensures.ok ∙ ap start_of c.as_slice.ensures.exact)))
    c.put_done.ensures.ok
