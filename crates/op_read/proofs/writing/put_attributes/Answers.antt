-- None is left, and those that the search chooses are those that its request does.
use Rattle.op_read.specs.Seeing.{row_in}
use Rattle.op_read.proofs.writing.WritingLemmas.{list-written}
use Rattle.op_read.proofs.writing.put_attributes.Goals as goal

pub returns-clause-ok : goal.returns-clause-ok
returns-clause-ok g c =
    list-written c.args.search.now.selection.choices.now c.args.search.now.request.now.selection c.args.search.now.selection.kinds_only c.args.search.now.request.now.kinds_only
    (row_in (g.D.Dir.rows c.args.target.now.asking.now.dir.now) c.args.target.now.asking.now.who.now c.args.target.now.entry.now) c.args.search.now.types c.args.search.now.values
    c.loop-kind.kind-iterator c.args.out.now.items c.loop-kind.out.items c.in-None.ensures.steps.0 c.loop-kind.invariant.whole
