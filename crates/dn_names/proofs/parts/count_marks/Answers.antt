-- By whether the octet is a mark; at the end, by the count of the parts.
use Rattle.std.proofs.Common.{false, sym, ap, ◌∙◌, arith}
use Rattle.std.proofs.lemmas.List.{drop_all}
use Rattle.dn_names.specs.Reading.{parts_of, marks_from}
use Rattle.dn_names.proofs.parts.PartsLemmas.{marks_from-mark, marks_from-other, length-parts_from}
use Rattle.dn_names.proofs.parts.count_marks.Goals as goal
use Rattle.dn_names.proofs.parts.count_marks.Goals.{then-is_mark, else-is_mark}

pub loop-octet-preserved : goal.loop-octet-preserved
loop-octet-preserved c =
    let l = c.loop-octet in
    let text = c.args.text.now in
    elim c.if-is_mark.branch [
      | then-is_mark w ↦ (let next = marks_from-mark c.args.mark l.escaped text l.octet-index (omega arith) (sym c.is_mark.ensures.exact ∙ w.if-is_mark.true) in
          record {
            fits = rw w.count-is (omega (arith, l.invariant.fits));
            exact = rw (w.count-is, w.escaped-is) (omega (arith, next, l.invariant.exact));
          })
      | else-is_mark w ↦ (let next = marks_from-other c.args.mark l.escaped text l.octet-index (omega arith) (sym c.is_mark.ensures.exact ∙ w.if-is_mark.false) in
          record {
            fits = rw w.count-is (omega (arith, l.invariant.fits));
            exact = rw (w.count-is, w.escaped-is, w.escapes_next-escaped.ensures.exact) (omega (arith, next, l.invariant.exact));
          })
    ]

pub returns : goal.returns
unfolding parts_of
returns c = record { exact = omega (arith, length-parts_from c.args.mark false c.args.text.now, c.loop-octet.invariant.exact, ap (marks_from c.args.mark c.loop-octet.escaped) (drop_all c.loop-octet.octet-index c.args.text.now c.loop-octet-test.false)) }
