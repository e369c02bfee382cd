-- The base may be known of, or is hidden.
use Rattle.std.proofs.Common.{◌∙◌, ◌||◌, sym, ap}
use Rattle.page_core.specs.read_model.Selecting.{selected}
use Rattle.directory.specs.Asking.{view_in}
use Rattle.op_read.specs.Sending.{is_filled}
use Rattle.op_read.proofs.selecting.SeenLemmas.{disclosed-target}
use Rattle.op_read.proofs.selecting.SelectingLemmas.{selected-among}
use Rattle.op_read.proofs.paging.is_done.Goals as goal

pub returns-then-allows : goal.returns-then-allows
returns-then-allows g c =
    let rows = g.D.Dir.rows c.args.target.now.asking.now.dir.now in
    let who = c.args.target.now.asking.now.who.now in
    let search = c.args.search.now in
    let all = selected (view_in rows who) search.request.now search.subentries c.args.base.now in
    record {
      exact = c.if-allows.true ∙ ap (λ known. known || is_filled all) (sym c.if-allows.true ∙ c.allows.ensures.exact ∙ disclosed-target rows who c.args.base.now c.args.target.now.number.0 c.args.target.now.entry.now c.requires.tree c.requires.found c.args.target.now.found);
    }

pub returns-else-allows : goal.returns-else-allows
returns-else-allows g c =
    let rows = g.D.Dir.rows c.args.target.now.asking.now.dir.now in
    let who = c.args.target.now.asking.now.who.now in
    let search = c.args.search.now in
    let all = selected (view_in rows who) search.request.now search.subentries c.args.base.now in
    record {
      exact = c.is_any_shown.ensures.exact
          ∙ ap is_filled (selected-among search.request.now search.subentries c.args.base.now c.args.target.now.number.0 rows who c.requires.tree c.requires.found)
          ∙ ap (λ known. known || is_filled all) (sym c.if-allows.false ∙ c.allows.ensures.exact ∙ disclosed-target rows who c.args.base.now c.args.target.now.number.0 c.args.target.now.entry.now c.requires.tree c.requires.found c.args.target.now.found);
    }
