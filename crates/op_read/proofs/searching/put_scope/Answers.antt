-- The candidates show what the scope shows.
use Rattle.std.proofs.Common.{◌∙◌, ap, subst}
use Rattle.std.specs.Prelude.{IfOk}
use Rattle.page_core.specs.read_model.Views.{View}
use Rattle.page_core.specs.read_model.Selecting.{is_shown}
use Rattle.op_read.specs.Candidates.{ids_in}
use Rattle.op_read.specs.Seeing.{rows_at}
use Rattle.op_read.specs.Sending.{shown_among, IsSent}
use Rattle.op_read.proofs.searching.put_scope.Goals as goal

pub returns-in-Some-clause-ok : goal.returns-in-Some-clause-ok
returns-in-Some-clause-ok g c =
    let rows = g.D.Dir.rows c.args.asking.now.dir.now in
    let who = c.args.asking.now.who.now in
    let search = c.args.search.now in
    subst (λ (all : View). IfOk c.put_found.result (λ found. IsSent (rows_at rows who) search.limit search.id search.request.now all c.args.out.now.items c.put_found.new.out.items found))
    (ap (shown_among (is_shown search.request.now search.subentries) rows who) (c.of_list.ensures.exact ∙ ap ids_in c.deref.ensures.value) ∙ c.in-Some.ensures.same)
    c.put_found.ensures.ok
