use Rattle.std.proofs.Common.{◌∙◌, arith}
use Rattle.std.specs.Vec.Iter.{into_iter_items}
use Rattle.std.proofs.lemmas.List.{nil_from_length}
use Rattle.std.proofs.lemmas.Result.{err_from_is_err_and}
use Rattle.ldif_load.proofs.lines.LineLemmas.{lines-step, lines-stop, lines-done, fault-of, fault-same}
use Rattle.ldif_load.proofs.lines.add_lines.Goals as goal

-- the line is bad
pub returns-in_err-add_line-clause-bad : goal.returns-in_err-add_line-clause-bad
returns-in_err-add_line-clause-bad c =
    let fault = err_from_is_err_and c.from_residual.result c.from_residual.ensures.1 in
    fault-same c.from_residual.result fault.0 c.in_err-add_line.field-0.0 _ fault.1 fault.2
    (fault-of c.in_err-add_line.field-0.0 _ _ c.loop-line.invariant
    (lines-stop c.loop-line.entry (into_iter_items c.loop-line.line-iterator) c.in-Some.line (into_iter_items c.next.new.self) c.in_err-add_line.field-0.0
    c.in-Some.ensures.steps.0 c.in_err-add_line.ensures.bad))

-- the line is good
pub loop-line-preserved : goal.loop-line-preserved
loop-line-preserved c =
    c.loop-line.invariant
    ∙ lines-step c.loop-line.entry c.add_line.new.entry (into_iter_items c.loop-line.line-iterator) c.in-Some.line (into_iter_items c.next.new.self)
    c.in-Some.ensures.steps.0 c.in_ok-add_line.ensures.ok

-- no line is left
pub returns-clause-ok : goal.returns-clause-ok
returns-clause-ok c =
    c.loop-line.invariant
    ∙ lines-done c.loop-line.entry (into_iter_items c.loop-line.line-iterator)
    (nil_from_length (into_iter_items c.loop-line.line-iterator) (omega (arith, c.in-None.ensures.steps.0, c.loop-line.line-iterator.rest.ok.0)))
