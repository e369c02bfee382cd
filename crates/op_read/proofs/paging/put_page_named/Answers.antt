-- The base is the empty name, or another.
use Rattle.std.proofs.Common.{◌∙◌, sym}
use Rattle.std.proofs.lemmas.Result.{on_ok_weaker}
use Rattle.page_core.specs.read_model.RootEntry.{root_replies}
use Rattle.page_core.specs.Starts.{start_of}
use Rattle.directory.specs.Asking.{view_in}
use Rattle.op_read.specs.Paging.{page_from_at, page_named}
use Rattle.op_read.proofs.sending.PutsLemmas.{page-sent, unpaged-sent}
use Rattle.op_read.proofs.paging.CaseLemmas.{named-root, named-filled}
use Rattle.op_read.proofs.paging.put_page_named.Goals as goal

pub returns-then-len-eq0-clause-ok : goal.returns-then-len-eq0-clause-ok
returns-then-len-eq0-clause-ok g c =
    let view = view_in (g.D.Dir.rows c.args.asking.now.dir.now) c.args.asking.now.who.now in
    let asked = c.args.asked in
    let page = c.args.page.now in
    let base = c.args.base.now in
    on_ok_weaker c.put_root_replies.result
    (λ put.
    unpaged-sent asked.id c.args.out.now.items c.put_root_replies.new.out.items (root_replies view asked.request.now asked.subentries) (page_named view asked.request.now asked.subentries page base) put
    (named-root view asked.request.now asked.subentries page base (sym c.len.ensures.exact ∙ c.if-len-eq0.true)))
    c.put_root_replies.ensures.ok

pub returns-clause-ok : goal.returns-clause-ok
returns-clause-ok g c =
    let view = view_in (g.D.Dir.rows c.args.asking.now.dir.now) c.args.asking.now.who.now in
    let asked = c.args.asked in
    let page = c.args.page.now in
    let base = c.args.base.now in
    on_ok_weaker c.put_page_from.result
    (λ put.
    page-sent asked.id c.args.out.now.items c.put_page_from.new.out.items (page_from_at view asked.request.now asked.subentries base page.size (start_of page.cookie)) (page_named view asked.request.now asked.subentries page base) put
    (named-filled view asked.request.now asked.subentries page base (λ e. c.if-len-eq0.false (c.len.ensures.exact ∙ e))))
    c.put_page_from.ensures.ok
