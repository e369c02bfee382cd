-- What was sent, and how the page ends.
use Rattle.std.proofs.Common.{◌∙◌, ap}
use Rattle.std.specs.Prelude.{is_some}
use Rattle.std.proofs.lemmas.Result.{on_ok_weaker}
use Rattle.directory.specs.Asking.{view_in}
use Rattle.op_read.specs.Seeing.{rows_at}
use Rattle.op_read.proofs.selecting.SelectingLemmas.{named-rows}
use Rattle.op_read.proofs.paging.PageLemmas.{page-ended}
use Rattle.op_read.proofs.paging.put_page_selected.Goals as goal

pub returns-clause-ok : goal.returns-clause-ok
returns-clause-ok g c =
    let rows = g.D.Dir.rows c.args.target.now.asking.now.dir.now in
    let who = c.args.target.now.asking.now.who.now in
    let search = c.args.search.now in
    let base = c.args.start.base.now in
    on_ok_weaker c.put_ending.result
    (page-ended (rows_at rows who) search.id (view_in rows who) search.request.now search.subentries base c.args.start.after.now search.limit c.in_ok-found.found c.args.out.now.items
    c.put_behind.new.out.items c.put_ending.new.out.items
    c.requires.limit (named-rows rows who base ∙ ap is_some c.requires.found) c.in_ok-found.ensures.ok)
    c.put_ending.ensures.ok
