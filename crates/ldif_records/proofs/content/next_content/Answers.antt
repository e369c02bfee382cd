use Rattle.std.proofs.Common.{sym, refl, ◌∙◌, ap, arith}
use Rattle.ldif_records.specs.lines.Lines.{begins_with}
use Rattle.ldif_records.proofs.content.ContentLemmas.{content-none, content-comment, content-line}
use Rattle.ldif_records.proofs.content.AfterLemmas.{after_none, after_both}
use Rattle.ldif_records.proofs.content.next_content.Goals as goal

-- no line was passed yet
pub loop-at-init : goal.loop-at-init
loop-at-init c = record { lines = refl; after = omega arith; place = c.requires; passed = after_none c.args.text.now c.args.from }

-- the line is no comment
pub returns-then-not-begins_with : goal.returns-then-not-begins_with
returns-then-not-begins_with c = record {
  lines =
      c.loop-at.invariant.lines
      ∙ content-line c.args.text.now c.loop-at.at c.in_ok-line.after c.in_ok-line.line c.in_ok-line.ensures.exact
      (ap (begins_with 35) (sym c.octets.ensures) ∙ sym c.begins_with.ensures ∙ c.if-not-begins_with.true);
  end = tt;
  later = omega (arith, c.in_ok-line.ensures.later);
  after = omega (arith, c.in_ok-line.ensures.later);
  place = c.in_ok-line.ensures.place;
  passed = after_both c.args.text.now c.args.from c.loop-at.at c.in_ok-line.after c.loop-at.invariant.passed c.in_ok-line.ensures.passed;
}

-- it is one
pub loop-at-preserved-else-not-begins_with : goal.loop-at-preserved-else-not-begins_with
loop-at-preserved-else-not-begins_with c = record {
  lines =
      c.loop-at.invariant.lines
      ∙ content-comment c.args.text.now c.loop-at.at c.in_ok-line.after c.in_ok-line.line c.in_ok-line.ensures.exact
      (ap (begins_with 35) (sym c.octets.ensures) ∙ sym c.begins_with.ensures ∙ c.if-not-begins_with.false);
  after = omega (arith, c.in_ok-line.ensures.later);
  place = c.in_ok-line.ensures.place;
  passed = after_both c.args.text.now c.args.from c.loop-at.at c.in_ok-line.after c.loop-at.invariant.passed c.in_ok-line.ensures.passed;
}

pub loop-at-preserved : goal.loop-at-preserved
loop-at-preserved c = record {
  lines =
      c.loop-at.invariant.lines
      ∙ content-comment c.args.text.now c.loop-at.at c.in_ok-line.after c.in_ok-line.line c.in_ok-line.ensures.exact
      (ap (begins_with 35) (sym c.octets.ensures) ∙ sym c.begins_with.ensures ∙ c.if-not-begins_with.false);
  after = omega (arith, c.in_ok-line.ensures.later);
  place = c.in_ok-line.ensures.place;
  passed = after_both c.args.text.now c.args.from c.loop-at.at c.in_ok-line.after c.loop-at.invariant.passed c.in_ok-line.ensures.passed;
}

-- no line is left
pub returns : goal.returns
returns c =
    let none = content-none c.args.text.now c.loop-at.at c.loop-at-test.false in
    record {
      lines = c.loop-at.invariant.lines;
      end = none;
      later = tt;
      after = c.loop-at.invariant.after;
      place = c.loop-at.invariant.place;
      passed = c.loop-at.invariant.passed;
    }
