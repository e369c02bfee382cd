use Rattle.std.proofs.Common.{◌+◌, sym, ◌∙◌, ap, drop}
use Rattle.std.proofs.lemmas.List.{drop_all}
use Rattle.change_records.specs.Reading.{changes_from}
use Rattle.change_records.proofs.JoinLemmas.{joined}
use Rattle.change_records.proofs.files.FileSteps.{part-of, records-step, records-fault, records-done}
use Rattle.change_records.proofs.files.changes_from.Goals as goal

-- a record is bad
pub returns-in-Err : goal.returns-in-Err
returns-in-Err c =
    let here = part-of c.args.lines.now c.records.at c.filled_lines-count.result _ _ c.split_at.ensures.back c.filled_lines-count.ensures.exact c.filled_lines-count.ensures.within c.split_at-in-records.ensures.front in
    records-fault c.records.changes.items c.args.lines.now c.records.at c.filled_lines-count.result _ c.in-Err.bad _ here c.records.invariant c.in-Err.ensures

-- one record more
pub records-preserved : goal.records-preserved
records-preserved c =
    let here = part-of c.args.lines.now c.records.at c.filled_lines-count.result _ _ c.split_at.ensures.back c.filled_lines-count.ensures.exact c.filled_lines-count.ensures.within c.split_at-in-records.ensures.front in
    c.records.invariant
    ∙ records-step c.records.changes.items c.args.lines.now c.records.at c.filled_lines-count.result _ c.in-Ok.found here c.in-Ok.ensures
    ∙ ap (λ items. joined items (changes_from (drop (c.records.at + (c.filled_lines-count.result + 1)) c.args.lines.now))) (sym c.in_ok-put_found-in-Ok.ensures)

-- no line is left
pub returns : goal.returns
returns c =
    c.records.invariant ∙ records-done c.records.changes.items _ (drop_all c.records.at c.args.lines.now c.records-test.false)
