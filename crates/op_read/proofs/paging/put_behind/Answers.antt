-- The candidates behind the name show what is selected behind it, and so does the walk.
use Rattle.std.proofs.Common.{◌∙◌, ap, filter, subst}
use Rattle.std.specs.Prelude.{IfOk}
use Rattle.page_core.specs.read_model.Views.{View}
use Rattle.page_core.specs.read_model.Selecting.{is_shown}
use Rattle.page_core.specs.Starts.{is_after}
use Rattle.op_read.specs.Candidates.{ids_in}
use Rattle.op_read.specs.Seeing.{rows_at}
use Rattle.op_read.specs.Sending.{shown_among, IsSent}
use Rattle.op_read.proofs.selecting.SelectingLemmas.{listed-among, selected-among}
use Rattle.op_read.proofs.paging.put_behind.Goals as goal

pub returns-in-Some-clause-ok : goal.returns-in-Some-clause-ok
returns-in-Some-clause-ok g c =
    let rows = g.D.Dir.rows c.args.target.now.asking.now.dir.now in
    let who = c.args.target.now.asking.now.who.now in
    let search = c.args.search.now in
    let request = search.request.now in
    subst (λ (all : View). IfOk c.put_found.result (λ found. IsSent (rows_at rows who) search.limit search.id request all c.args.out.now.items c.put_found.new.out.items found))
    (ap (shown_among (is_shown request search.subentries) rows who) (c.of_list.ensures.exact ∙ ap ids_in c.deref.ensures.value)
    ∙ c.in-Some.ensures.same
    ∙ ap (filter (is_after c.args.start.after.now)) (selected-among request search.subentries c.args.start.base.now c.args.target.now.number.0 rows who c.requires.tree c.requires.found))
    c.put_found.ensures.ok

pub returns-in-None-clause-ok : goal.returns-in-None-clause-ok
returns-in-None-clause-ok g c =
    let rows = g.D.Dir.rows c.args.target.now.asking.now.dir.now in
    let who = c.args.target.now.asking.now.who.now in
    let search = c.args.search.now in
    let request = search.request.now in
    subst (λ (all : View). IfOk c.put_found-in-None.result (λ found. IsSent (rows_at rows who) search.limit search.id request all c.args.out.now.items c.put_found-in-None.new.out.items found))
    (ap (shown_among (is_shown request search.subentries) rows who) (c.of_walk.ensures.exact ∙ c.walk_after-walk.ensures.exact)
    ∙ listed-among request search.subentries c.args.start.base.now c.args.start.after.now c.args.target.now.number.0 rows who c.requires.tree c.requires.found)
    c.put_found-in-None.ensures.ok
