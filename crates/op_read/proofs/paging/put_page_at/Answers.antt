-- The base is no entry's name.
use Rattle.std.proofs.Common.{◌∙◌, ◌∷◌, [], ap, sym}
use Rattle.std.specs.Prelude.{is_some}
use Rattle.std.proofs.lemmas.Result.{on_ok_weaker}
use Rattle.ldap_msg.specs.declared.kinds.Reply.TheVariants as reply
use Rattle.ldap_msg.specs.declared.operations.Ending.TheVariants as ending
use Rattle.page_core.specs.read_model.Views.{hidden}
use Rattle.directory.specs.Asking.{view_in}
use Rattle.op_read.specs.Paging.{page_at}
use Rattle.op_read.proofs.selecting.SelectingLemmas.{named-rows}
use Rattle.op_read.proofs.paging.PageLemmas.{page-none}
use Rattle.op_read.proofs.sending.PutsLemmas.{unpaged-sent}
use Rattle.op_read.proofs.paging.put_page_at.Goals as goal

pub returns-in-None-clause-ok : goal.returns-in-None-clause-ok
returns-in-None-clause-ok g c =
    let rows = g.D.Dir.rows c.args.asking.now.dir.now in
    let who = c.args.asking.now.who.now in
    let view = view_in rows who in
    let search = c.args.search.now in
    let base = c.args.start.base.now in
    on_ok_weaker c.put_absent.result
    (λ put.
    unpaged-sent search.id c.args.out.now.items c.put_absent.new.out.items (reply.Ended ending.Done (hidden view base) ∷ []) (page_at view search.request.now search.subentries base search.limit c.args.start.after.now) put
    (page-none view search.request.now search.subentries base search.limit c.args.start.after.now (named-rows rows who base ∙ ap is_some (sym c.in-None.ensures.number))))
    c.put_absent.ensures.ok
