use Rattle.std.proofs.Common.{◌≡◌, true, sym, ◌∙◌, ap, Ok}
use Rattle.std.proofs.lemmas.Result.{err_from_is_err_and}
use Rattle.ldif_records.specs.lines.Places.{content_from}
use Rattle.ldif_records.specs.reading.Steps.{ends_ahead}
use Rattle.ldif_records.proofs.reading.RecordLemmas.{ends-some, ends-before, ends-after, lines-done, lines-stop, fault-same, blank-by}
use Rattle.ldif_records.proofs.reading.ReadsOnLemmas.{ReadsOn-start, ReadsOn-step}
use Rattle.ldif_records.proofs.reading.attribute_lines.Goals as goal
use Rattle.ldif_records.proofs.reading.attribute_lines.Goals.{in-Some+then-is_empty, in_default}

-- the line is bad
pub returns-in_err-attribute_line-clause-bad : goal.returns-in_err-attribute_line-clause-bad
returns-in_err-attribute_line-clause-bad c =
    let fault = err_from_is_err_and c.from_residual.result c.from_residual.ensures.1 in
    let says = blank-by c.in-Some.found _ _ _ c.octets.ensures c.is_empty.ensures c.if-is_empty.false in
    fault-same c.from_residual.result fault.0 c.in_err-attribute_line.field-0.0 _ fault.1 fault.2
    (lines-stop c.lines.lines.items c.lines.line c.in-Some.found _ _ _ c.in-Some.is says c.in_err-attribute_line.ensures c.lines.invariant.read)

-- no line was read yet
pub lines-init : goal.lines-init
lines-init c = ReadsOn-start c.args.text.now c.args.first c.args.from c.new-lines.result.items c.new-lines.ensures.items c.requires.place c.requires.end

-- the line is good
pub lines-preserved-in_ok-line : goal.lines-preserved-in_ok-line
lines-preserved-in_ok-line c =
    ReadsOn-step c.args.text.now c.args.first c.args.from c.lines.lines.items _ c.lines.line _ c.lines.at _ c.in-Some.found c.in_ok-attribute_line.field-0 c.lines.invariant c.in-Some.is
    (blank-by c.in-Some.found _ _ _ c.octets.ensures c.is_empty.ensures c.if-is_empty.false) c.in_ok-attribute_line.ensures c.in_ok-push.ensures.items c.in_ok-line.ensures

pub lines-preserved : goal.lines-preserved
lines-preserved c =
    ReadsOn-step c.args.text.now c.args.first c.args.from c.lines.lines.items _ c.lines.line _ c.lines.at _ c.in-Some.found c.in_ok-attribute_line.field-0 c.lines.invariant c.in-Some.is
    (blank-by c.in-Some.found _ _ _ c.octets.ensures c.is_empty.ensures c.if-is_empty.false) c.in_ok-attribute_line.ensures c.in_ok-push.ensures.items c.in_ok-line.ensures

-- no line of the record is left: the file ended, or an empty line came
ends : (c : goal.After-from_vec) → ends_ahead c.lines.line ≡ true
ends c = elim c.match-line.branch [
  | in-Some+then-is_empty w ↦ ends-some c.lines.line w.in-Some.found w.in-Some.is (blank-by w.in-Some.found _ _ _ w.octets.ensures w.is_empty.ensures w.if-is_empty.true)
  | in_default w ↦ ap ends_ahead w.in_default.is
]

pub returns-clause-ok : goal.returns-clause-ok
returns-clause-ok c =
    sym c.lines.invariant.read
    ∙ lines-done c.lines.lines.items _ (ends-before c.lines.line (content_from c.args.text.now c.lines.at) (ends c) c.lines.invariant.end)
    ∙ ap Ok (sym c.from_vec.ensures.exact)

pub returns-clause-rest : goal.returns-clause-rest
returns-clause-rest c =
    c.lines.invariant.rest ∙ ends-after c.lines.line (content_from c.args.text.now c.lines.at) (ends c) c.lines.invariant.end
