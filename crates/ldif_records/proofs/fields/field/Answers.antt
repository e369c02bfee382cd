use Rattle.std.proofs.Common.{◌≡◌, ◌<◌, ◌+◌, ◌∙◌, sym, ap, arith, length, take, drop}
use Rattle.std.specs.List.{position_or_len}
use Rattle.ldif_records.specs.Fields.{is_colon, is_kind, field_after}
use Rattle.ldif_records.proofs.fields.FieldLemmas.{at_front, field_of-none, field_of-no_kind, field_of-kind}
use Rattle.ldif_records.proofs.fields.field.Goals as goal

-- no colon
pub returns-then-colon-line : goal.returns-then-colon-line
returns-then-colon-line c =
    let none : position_or_len is_colon c.args.line.now ≡ length c.args.line.now = omega arith in
    sym (field_of-none c.args.line.now none)

-- no type before it
pub returns-then-not-is_kind : goal.returns-then-not-is_kind
returns-then-not-is_kind c =
    sym (field_of-no_kind c.args.line.now (at_front is_kind c.args.line.now _ _ _ _ _ c.position_of-colon.ensures.exact c.split_at.ensures.front c.is_kind.ensures c.if-not-is_kind.true))

-- a type and a colon
pub returns : goal.returns
returns c =
    let within : position_or_len is_colon c.args.line.now < length c.args.line.now = omega arith in
    let is = at_front is_kind c.args.line.now _ _ _ _ _ c.position_of-colon.ensures.exact c.split_at.ensures.front c.is_kind.ensures c.if-not-is_kind.false in
    c.field_after.ensures
    ∙ ap (λ kind. field_after kind c.split_at-2.result.1.now) (c.split_at.ensures.front ∙ ap (λ end. take end c.args.line.now) c.position_of-colon.ensures.exact)
    ∙ ap (λ after. field_after (take (position_or_len is_colon c.args.line.now) c.args.line.now) after) (c.split_at-2.ensures.back ∙ ap (λ end. drop (end + 1) c.args.line.now) c.position_of-colon.ensures.exact)
    ∙ sym (field_of-kind c.args.line.now within is)
