-- The message is that of the entry as it is sent.
use Rattle.op_read.specs.Seeing.{row_in}
use Rattle.op_read.proofs.writing.WritingLemmas.{entry-written}
use Rattle.op_read.proofs.writing.put_entry.Goals as goal

pub returns-in-Ok-clause-ok : goal.returns-in-Ok-clause-ok
returns-in-Ok-clause-ok g c =
    entry-written c.args.search.now.id c.args.search.now.request.now (row_in (g.D.Dir.rows c.args.target.now.asking.now.dir.now) c.args.target.now.asking.now.who.now c.args.target.now.entry.now)
    c.args.out.now.items c.put_message.new.out.items c.in-Ok.ensures.ok c.in-Ok.ensures.short
