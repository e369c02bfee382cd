-- One more is sent: without a limit, or within it.
use Rattle.std.proofs.Common.{refl, arith}
use Rattle.op_read.specs.Seeing.{row_in, rows_at}
use Rattle.op_read.proofs.sending.SendingLemmas.{sends-free, sends-within, row-at}
use Rattle.op_read.proofs.sending.send.Goals as goal

pub returns-then-search-eq0-clause-ok : goal.returns-then-search-eq0-clause-ok
returns-then-search-eq0-clause-ok g c =
    let rows = g.D.Dir.rows c.args.target.now.asking.now.dir.now in
    let who = c.args.target.now.asking.now.who.now in
    sends-free (rows_at rows who) c.args.search.now.limit c.args.search.now.id c.args.search.now.request.now
    (row_in rows who c.args.target.now.entry.now)
    c.args.sent.now _ c.args.out.now.items c.put_entry.new.out.items c.if-search-eq0.true refl
    (row-at rows who c.args.target.now.number c.args.target.now.entry.now c.args.target.now.found) c.in_ok-put_entry.ensures.ok

pub returns-clause-ok : goal.returns-clause-ok
returns-clause-ok g c =
    let rows = g.D.Dir.rows c.args.target.now.asking.now.dir.now in
    let who = c.args.target.now.asking.now.who.now in
    sends-within (rows_at rows who) c.args.search.now.limit c.args.search.now.id c.args.search.now.request.now
    (row_in rows who c.args.target.now.entry.now)
    c.args.sent.now _ c.args.out.now.items c.put_entry-2.new.out.items c.if-search-eq0.false refl
    (row-at rows who c.args.target.now.number c.args.target.now.entry.now c.args.target.now.found) (omega arith) c.in_ok-put_entry-2.ensures.ok
