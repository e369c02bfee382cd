-- The whole search succeeds, or the base is hidden.
use Rattle.std.proofs.Common.{◌∙◌, ◌∷◌, [], sym, ap}
use Rattle.std.proofs.lemmas.Result.{on_ok_weaker}
use Rattle.ldap_msg.specs.declared.kinds.LdapResult.{LdapResult}
use Rattle.ldap_msg.specs.declared.kinds.Reply.TheVariants as reply
use Rattle.ldap_msg.specs.declared.operations.Ending.TheVariants as ending
use Rattle.page_core.specs.read_model.Selecting.{selected}
use Rattle.page_core.specs.Pages.{unpaged}
use Rattle.directory.specs.Asking.{view_in}
use Rattle.op_read.specs.Paging.{empty_page, page_of_none}
use Rattle.op_read.proofs.sending.PutsLemmas.{page-sent, unpaged-sent}
use Rattle.op_read.proofs.paging.CaseLemmas.{none-done, none-fails}
use Rattle.op_read.proofs.paging.put_none.Goals as goal

pub returns-then-is_done-clause-ok : goal.returns-then-is_done-clause-ok
returns-then-is_done-clause-ok g c =
    let view = view_in (g.D.Dir.rows c.args.target.now.asking.now.dir.now) c.args.target.now.asking.now.who.now in
    let search = c.args.search.now in
    let base = c.args.base.now in
    let all = selected view search.request.now search.subentries base in
    on_ok_weaker c.put_end.result
    (λ put.
    page-sent search.id c.args.out.now.items c.put_end.new.out.items empty_page (page_of_none view all base) put
    (none-done view all base (sym c.is_done.ensures.exact ∙ c.if-is_done.true)))
    c.put_end.ensures.ok

pub returns-clause-ok : goal.returns-clause-ok
returns-clause-ok g c =
    let view = view_in (g.D.Dir.rows c.args.target.now.asking.now.dir.now) c.args.target.now.asking.now.who.now in
    let search = c.args.search.now in
    let base = c.args.base.now in
    let all = selected view search.request.now search.subentries base in
    on_ok_weaker c.put_done.result
    (λ put.
    unpaged-sent search.id c.args.out.now.items c.put_done.new.out.items (reply.Ended ending.Done c.in_ok-ended.ended ∷ []) (page_of_none view all base) put
    (ap (λ (ended : LdapResult). unpaged (reply.Ended ending.Done ended ∷ [])) c.in_ok-ended.ensures.ok
    ∙ none-fails view all base (sym c.is_done.ensures.exact ∙ c.if-is_done.false)))
    c.put_done.ensures.ok
