-- A line more, a line that is refused, and no line more.
use Rattle.std.proofs.Common.{◌≡◌, Bool, ◌∷◌, ◌∙◌, ap, sym, drop, add-one}
use Rattle.std.specs.Prelude.{◌+◌}
use Rattle.std.specs.Option.{option_and_then}
use Rattle.std.proofs.Math.Seq.{drop-cons}
use Rattle.std.proofs.lemmas.List.{drop_all}
use Rattle.ldif_records.specs.declared.types.RecordLine.{RecordLine}
use Rattle.fault_places.specs.Making.{with_all, taken}
use Rattle.fault_places.proofs.making.MakingLemmas.{all_by, all_end}
use Rattle.fault_places.proofs.making.add_lines.Goals as goal

pub returns-then-not-branch : goal.returns-then-not-branch
returns-then-not-branch c =
    let lines = c.args.lines.now in
    let index = c.loop-line.line-index in
    let item = c.line-item.result in
    let rest : drop index lines ≡ item ∷ drop (index + 1) lines =
    rw add-one (drop-cons lines index item c.loop-line-test.true) ∙ ap (λ (first : RecordLine). first ∷ drop (index + 1) lines) (sym c.line-item.is) in
    let step = ap (with_all c.loop-line.entry) rest
    ∙ all_by c.loop-line.entry c.add_line.new.entry item (drop (index + 1) lines) c.in_ok-add_line.field-0 c.in_ok-add_line.ensures.ok
    ∙ ap (λ (added : Bool). option_and_then (λ next. with_all next (drop (index + 1) lines)) (taken added c.add_line.new.entry)) c.if-not-branch.true in
    record { ok = sym step ∙ c.loop-line.invariant }

pub loop-line-preserved : goal.loop-line-preserved
loop-line-preserved c =
    let lines = c.args.lines.now in
    let index = c.loop-line.line-index in
    let item = c.line-item.result in
    let rest : drop index lines ≡ item ∷ drop (index + 1) lines =
    rw add-one (drop-cons lines index item c.loop-line-test.true) ∙ ap (λ (first : RecordLine). first ∷ drop (index + 1) lines) (sym c.line-item.is) in
    let step = ap (with_all c.loop-line.entry) rest
    ∙ all_by c.loop-line.entry c.add_line.new.entry item (drop (index + 1) lines) c.in_ok-add_line.field-0 c.in_ok-add_line.ensures.ok
    ∙ ap (λ (added : Bool). option_and_then (λ next. with_all next (drop (index + 1) lines)) (taken added c.add_line.new.entry)) c.if-not-branch.false in
    sym step ∙ c.loop-line.invariant

pub returns : goal.returns
returns c = record {
  ok = sym (all_end c.loop-line.entry)
      ∙ ap (with_all c.loop-line.entry) (sym (drop_all c.loop-line.line-index c.args.lines.now c.loop-line-test.false))
      ∙ c.loop-line.invariant;
}
