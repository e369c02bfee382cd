-- Of all that are found those so far were sent, and those of the numbers that are left are left.
use Rattle.page_core.specs.read_model.Selecting.{is_shown}
use Rattle.op_read.specs.Seeing.{rows_at}
use Rattle.op_read.specs.Sending.{shown_among, Sends}
use Rattle.op_read.proofs.sending.put_found.Given as goal

abbrev pub invariant-loop-candidate : goal.invariant-loop-candidate
invariant-loop-candidate g l =
    Sends (rows_at (g.D.Dir.rows l.asking.dir.now) l.asking.who.now) l.search.limit l.search.id l.search.request.now
    (shown_among (is_shown l.search.request.now l.search.subentries) (g.D.Dir.rows l.asking.dir.now) l.asking.who.now l.fn.candidates)
    (shown_among (is_shown l.search.request.now l.search.subentries) (g.D.Dir.rows l.asking.dir.now) l.asking.who.now l.candidate-iterator)
    l.fn.out.items l.sent l.out.items
