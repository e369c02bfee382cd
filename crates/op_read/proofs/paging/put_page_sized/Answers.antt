-- A page of the size 0 is empty.
use Rattle.std.proofs.lemmas.Result.{on_ok_weaker}
use Rattle.directory.specs.Asking.{view_in}
use Rattle.op_read.specs.Paging.{empty_page, page_at, page_sized_at}
use Rattle.op_read.proofs.sending.PutsLemmas.{page-sent}
use Rattle.op_read.proofs.paging.CaseLemmas.{size-none, size-some}
use Rattle.op_read.proofs.paging.put_page_sized.Goals as goal

pub returns-then-size-eq0-clause-ok : goal.returns-then-size-eq0-clause-ok
returns-then-size-eq0-clause-ok g c =
    let view = view_in (g.D.Dir.rows c.args.asking.now.dir.now) c.args.asking.now.who.now in
    let asked = c.args.asked in
    let base = c.args.start.base.now in
    let after = c.args.start.after.now in
    on_ok_weaker c.put_end.result
    (λ put.
    page-sent asked.id c.args.out.now.items c.put_end.new.out.items empty_page (page_sized_at view asked.request.now asked.subentries base c.args.size after) put
    (size-none view asked.request.now asked.subentries base c.args.size after c.if-size-eq0.true))
    c.put_end.ensures.ok

pub returns-clause-ok : goal.returns-clause-ok
returns-clause-ok g c =
    let view = view_in (g.D.Dir.rows c.args.asking.now.dir.now) c.args.asking.now.who.now in
    let asked = c.args.asked in
    let base = c.args.start.base.now in
    let after = c.args.start.after.now in
    on_ok_weaker c.put_page_prepared.result
    (λ put.
    page-sent asked.id c.args.out.now.items c.put_page_prepared.new.out.items (page_at view asked.request.now asked.subentries base c.args.size after) (page_sized_at view asked.request.now asked.subentries base c.args.size after) put
    (size-some view asked.request.now asked.subentries base c.args.size after c.if-size-eq0.false))
    c.put_page_prepared.ensures.ok
