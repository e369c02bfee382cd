-- The base is an entry's name, or it is hidden.
use Rattle.std.proofs.Common.{sym}
use Rattle.std.proofs.lemmas.Result.{on_ok_weaker}
use Rattle.op_read.proofs.selecting.SelectingLemmas.{replies-found, replies-none}
use Rattle.op_read.proofs.sending.PutsLemmas.{puts-same}
use Rattle.op_read.proofs.searching.put_at.Goals as goal

pub returns-in-Some-clause-ok : goal.returns-in-Some-clause-ok
returns-in-Some-clause-ok g c =
    let rows = g.D.Dir.rows c.args.asking.now.dir.now in
    on_ok_weaker c.put_selected.result
    (λ put.
    puts-same c.args.search.now.id _ _ c.args.out.now.items c.put_selected.new.out.items
    (replies-found rows c.args.asking.now.who.now c.args.search.now.request.now c.args.search.now.subentries c.args.base.now c.in-Some.target.number.0 (sym c.in-Some.ensures.number))
    (rw c.in-Some.ensures.asking at put))
    c.put_selected.ensures.ok

pub returns-in-None-clause-ok : goal.returns-in-None-clause-ok
returns-in-None-clause-ok g c =
    let rows = g.D.Dir.rows c.args.asking.now.dir.now in
    on_ok_weaker c.put_absent.result
    (λ put.
    puts-same c.args.search.now.id _ _ c.args.out.now.items c.put_absent.new.out.items
    (replies-none rows c.args.asking.now.who.now c.args.search.now.request.now c.args.search.now.subentries c.args.base.now (sym c.in-None.ensures.number)) put)
    c.put_absent.ensures.ok
