-- The base is a name, or none.
use Rattle.std.proofs.Common.{◌∙◌, ◌∷◌, [], sym, ap}
use Rattle.std.specs.Result.{result_ok}
use Rattle.std.proofs.lemmas.Result.{on_ok_weaker}
use Rattle.dir_tree.specs.dn_names.parsing.NameText.{read_name}
use Rattle.ldap_msg.specs.declared.kinds.LdapResult.{LdapResult}
use Rattle.ldap_msg.specs.declared.kinds.Reply.TheVariants as reply
use Rattle.ldap_msg.specs.declared.operations.Ending.TheVariants as ending
use Rattle.page_core.specs.Pages.{unpaged, page_by}
use Rattle.directory.specs.Asking.{view_in}
use Rattle.op_read.specs.Paging.{page_named}
use Rattle.op_read.proofs.sending.PutsLemmas.{page-sent, unpaged-sent}
use Rattle.op_read.proofs.paging.CaseLemmas.{by-name, by-none}
use Rattle.op_read.proofs.paging.put_page_by.Goals as goal

pub returns-in-Some-clause-ok : goal.returns-in-Some-clause-ok
returns-in-Some-clause-ok g c =
    let view = view_in (g.D.Dir.rows c.args.asking.now.dir.now) c.args.asking.now.who.now in
    let asked = c.args.asked in
    let request = asked.request.now in
    let page = c.args.page.now in
    on_ok_weaker c.put_page_named.result
    (λ put.
    page-sent asked.id c.args.out.now.items c.put_page_named.new.out.items (page_named view request asked.subentries page c.in-Some.base) (page_by view request asked.subentries page (read_name request.base)) put
    (by-name view request asked.subentries page c.in-Some.base (sym c.in-Some.is ∙ c.in_ok-base.ensures.ok ∙ ap (λ octets. result_ok (read_name octets)) c.as_slice.ensures.exact)))
    c.put_page_named.ensures.ok

pub returns-in-None-clause-ok : goal.returns-in-None-clause-ok
returns-in-None-clause-ok g c =
    let view = view_in (g.D.Dir.rows c.args.asking.now.dir.now) c.args.asking.now.who.now in
    let asked = c.args.asked in
    let request = asked.request.now in
    let page = c.args.page.now in
    on_ok_weaker c.put_done.result
    (λ put.
    unpaged-sent asked.id c.args.out.now.items c.put_done.new.out.items (reply.Ended ending.Done c.result_of.result ∷ []) (page_by view request asked.subentries page (read_name request.base)) put
    (ap (λ (ended : LdapResult). unpaged (reply.Ended ending.Done ended ∷ [])) c.result_of.ensures.exact ∙ by-none view request asked.subentries page (read_name request.base) (sym c.in-None.is ∙ c.in_ok-base.ensures.ok ∙ ap (λ octets. result_ok (read_name octets)) c.as_slice.ensures.exact)))
    c.put_done.ensures.ok
