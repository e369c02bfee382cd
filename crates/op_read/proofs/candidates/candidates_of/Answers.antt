-- Those of the scope that are among the holders show what the scope shows.
use Rattle.std.proofs.Common.{◌∙◌, List, filter, ap}
use Rattle.dir_tree.specs.Scope.{scoped}
use Rattle.dir_tree.specs.declared.number.EntryNo.{EntryNo}
use Rattle.dir_tree.specs.declared.scope.Scope.{Scope}
use Rattle.dir_tree.specs.tree.Numbered.{Numbered}
use Rattle.directory.specs.value_index.Holders.{has_number}
use Rattle.page_core.specs.read_model.Selecting.{is_shown}
use Rattle.op_read.specs.Seeing.{scope_of}
use Rattle.op_read.specs.Sending.{shown_among}
use Rattle.op_read.proofs.candidates.CandidatesLemmas.{shown_among-filter}
use Rattle.op_read.proofs.candidates.candidates_of.Goals as goal

pub returns-in-Ok : goal.returns-in-Ok
returns-in-Ok g c =
    let rows = g.D.Dir.rows c.args.asking.now.dir.now in
    let who = c.args.asking.now.who.now in
    let search = c.args.search.now in
    let test = is_shown search.request.now search.subentries in
    let number = c.args.number.0 in
    let ids = scoped c.scope_of-scope.result number c.tree.result.now in
    record {
      same = ap (shown_among test rows who) (c.in-Ok.ensures.ok ∙ ap (λ (holders : List EntryNo). filter (λ id. has_number id holders) ids) c.deref.ensures.value)
          ∙ shown_among-filter test rows who c.in_ok-holders.holders.items c.in_ok-holders.ensures.shown ids
          ∙ ap (λ (scope : Scope). shown_among test rows who (scoped scope number c.tree.result.now)) c.scope_of-scope.ensures.exact
          ∙ ap (λ (tree : List Numbered). shown_among test rows who (scoped (scope_of search.request.now.scope) number tree)) c.tree.ensures.exact;
    }
