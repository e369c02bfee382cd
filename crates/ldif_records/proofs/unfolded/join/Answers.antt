use Rattle.std.proofs.Common.{sym, refl, ◌∙◌, ap, ◌++◌, arith, rules}
use Rattle.std.proofs.lemmas.List.{append-nil}
use Rattle.ldif_records.specs.lines.Lines.{continued}
use Rattle.ldif_records.specs.lines.Places.{physical_from, logical_from}
use Rattle.ldif_records.proofs.unfolded.LogicalLemmas.{continued-none, beginning-none, continued-step, beginning-step}
use Rattle.ldif_records.proofs.content.AfterLemmas.{after_none, after_both}
use Rattle.ldif_records.proofs.unfolded.join.Goals as goal

-- none was joined yet
pub loop-at-init : goal.loop-at-init
loop-at-init c = record {
  octets = search rules;
  rest = refl;
  later = omega arith;
  place = c.requires;
  passed = after_none c.args.text.now c.args.from;
}

-- one continuation more
pub loop-at-preserved : goal.loop-at-preserved
loop-at-preserved c =
    let more = sym c.goes_on.ensures.exact ∙ c.loop-at-test.true in
    record {
      octets =
          ap (λ octets. octets ++ continued (physical_from c.args.text.now c.first_line.result.1)) (c.in_ok-extend_from_slice.ensures.items ∙ ap (λ octets. c.loop-at.joined.items ++ octets) c.split_at.ensures.back)
          ∙ continued-step c.loop-at.joined.items _ _ _ _ c.first_line.ensures.exact more c.loop-at.invariant.octets;
      rest = c.loop-at.invariant.rest ∙ beginning-step _ _ _ c.first_line.ensures.exact more;
      later = search rules;
      place = c.first_line.ensures.place;
      passed = after_both c.args.text.now c.args.from c.loop-at.at c.first_line.result.1 c.loop-at.invariant.passed c.first_line.ensures.passed;
    }

-- no continuation is left
pub returns-clause-octets : goal.returns-clause-octets
returns-clause-octets c =
    let none = sym c.goes_on.ensures.exact ∙ c.loop-at-test.false in
    c.from_vec.ensures.exact ∙ sym (append-nil c.loop-at.joined.items) ∙ ap (λ more. c.loop-at.joined.items ++ more) (sym (continued-none _ none)) ∙ c.loop-at.invariant.octets

pub returns-clause-rest : goal.returns-clause-rest
unfolding logical_from
returns-clause-rest c =
    c.loop-at.invariant.rest ∙ beginning-none _ (sym c.goes_on.ensures.exact ∙ c.loop-at-test.false)
