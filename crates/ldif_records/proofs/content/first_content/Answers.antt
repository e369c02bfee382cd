use Rattle.std.proofs.Common.{◌≡◌, sym, ◌∙◌, ap, arith}
use Rattle.std.proofs.lemmas.Result.{IfOk-weaker}
use Rattle.ldif_records.specs.reading.Records.{without_version}
use Rattle.ldif_records.proofs.content.ContentLemmas.{body-later, body-first, no_version, after_version, IsRead-same, IsRead-before}
use Rattle.ldif_records.proofs.content.first_content.Goals as goal

-- past the start of the file
pub returns-then-from-gt0 : goal.returns-then-from-gt0
returns-then-from-gt0 c =
    IsRead-same _ _ c.args.text.now c.args.from c.in_ok-line.line c.in_ok-line.at (body-later c.args.text.now c.args.from c.if-from-gt0.true) c.in_ok-line.ensures

-- the first line gives no version
pub returns-then-not-is_version : goal.returns-then-not-is_version
returns-then-not-is_version c =
    let start : c.args.from.offset ≡ 0 = omega arith in
    IsRead-same _ _ c.args.text.now c.args.from c.in_ok-line.line c.in_ok-line.at
    (body-first c.args.text.now c.args.from start ∙ ap without_version c.in_ok-line.ensures.lines
    ∙ no_version c.in_ok-line.line _ (sym c.is_version.ensures ∙ c.if-not-is_version.true) c.in_ok-line.ensures.end ∙ sym c.in_ok-line.ensures.lines)
    c.in_ok-line.ensures

-- it gives it
pub returns : goal.returns
returns c =
    let start : c.args.from.offset ≡ 0 = omega arith in
    IfOk-weaker c.next_content-2.result _ _
    (λ read is. IsRead-before _ _ c.args.text.now c.args.from c.in_ok-line.at read.0 read.1
    (body-first c.args.text.now c.args.from start ∙ ap without_version c.in_ok-line.ensures.lines
    ∙ after_version c.in_ok-line.line _ (sym c.is_version.ensures ∙ c.if-not-is_version.false))
    c.in_ok-line.ensures.after c.in_ok-line.ensures.passed is)
    c.next_content-2.ensures
