use Rattle.std.proofs.Common.{◌+◌, sym, ◌∙◌, ap, arith}
use Rattle.std.specs.Str.Lines.{lines}
use Rattle.std.proofs.lemmas.Result.{err_from_is_err_and}
use Rattle.script_text.specs.script.ScriptReading.{after_lines, script_of}
use Rattle.script_text.proofs.script.ScriptLemmas.{after_lines-good, lines-done, Gives-bad, Gives-same}
use Rattle.script_text.proofs.script.read.Goals as goal

-- no event yet, and the whole text is left
pub loop-rest-init : goal.loop-rest-init
unfolding script_of
loop-rest-init c = record {
  reads = ap (λ events. after_lines events 1 (lines c.args.text.now)) c.new-reading.ensures;
  counted = omega arith;
}

-- the line is bad, or there was no memory
pub returns-in_err-reading : goal.returns-in_err-reading
returns-in_err-reading c = let fault = err_from_is_err_and c.from_residual.result c.from_residual.ensures.1 in
    let whole = ap (λ rest. after_lines c.loop-rest.reading (c.loop-rest.number + 1) rest) (sym c.first_line.ensures.exact) ∙ c.loop-rest.invariant.reads in
    Gives-same c.from_residual.result fault.0 c.in_err-reading.field-0.0 _ (script_of c.args.text.now) fault.1 fault.2 (sym whole)
    (Gives-bad c.loop-rest.reading (c.loop-rest.number + 1) c.first_line.result.0.now (lines c.first_line.result.1.now) c.in_err-reading.field-0.0 c.in_err-reading.ensures)

-- the line is good
pub loop-rest-preserved : goal.loop-rest-preserved
loop-rest-preserved c = record {
  reads =
      sym (after_lines-good c.loop-rest.reading c.in_ok-reading.reading (c.loop-rest.number + 1) c.first_line.result.0.now (lines c.first_line.result.1.now) c.in_ok-reading.ensures)
      ∙ ap (λ rest. after_lines c.loop-rest.reading (c.loop-rest.number + 1) rest) (sym c.first_line.ensures.exact)
      ∙ c.loop-rest.invariant.reads;
  counted = omega (arith, c.first_line.ensures.shorter, c.loop-rest.invariant.counted);
}

-- no line is left
pub returns : goal.returns
returns c = sym c.loop-rest.invariant.reads ∙ lines-done c.loop-rest.reading (c.loop-rest.number + 1) c.loop-rest.rest.now (sym c.loop-rest-test.ensures)
