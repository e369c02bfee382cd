-- Of the candidates those behind the name show what is shown behind it.
use Rattle.std.proofs.Common.{◌∙◌, List, filter, ap}
use Rattle.dir_tree.specs.declared.number.EntryNo.{EntryNo}
use Rattle.dir_tree.specs.tree.Numbered.{Numbered}
use Rattle.page_core.specs.read_model.Selecting.{is_shown}
use Rattle.page_core.specs.Starts.{is_after}
use Rattle.op_read.specs.Candidates.{ids_in, comes_after}
use Rattle.op_read.specs.Sending.{shown_among}
use Rattle.op_read.proofs.candidates.CandidatesLemmas.{shown_among-after}
use Rattle.op_read.proofs.candidates.candidates_after.Goals as goal

pub returns : goal.returns
returns g c =
    let rows = g.D.Dir.rows c.args.asking.now.dir.now in
    let who = c.args.asking.now.who.now in
    let search = c.args.search.now in
    let test = is_shown search.request.now search.subentries in
    let after = c.args.after.now in
    let numbers = c.in_ok-numbers.numbers.items in
    record {
      same = ap (λ (numbers : List EntryNo). shown_among test rows who (ids_in numbers))
          (c.keep_after.ensures.exact ∙ ap (λ (tree : List Numbered). filter (comes_after tree after) numbers) c.tree.ensures.exact)
          ∙ shown_among-after test rows who after numbers
          ∙ ap (filter (is_after after)) c.in_ok-numbers.ensures.same;
    }
