-- The sessions once all were hung up that are to be.
use Rattle.std.proofs.Common.{◌≡◌, ◌≢◌, ℕ, Bool, true, false, cond, refl, ap, sym, ◌∙◌}
use std.Path.{fun_ext}
use Rattle.session_model.specs.Rules.{Rules}
use Rattle.session_model.specs.Run.{Session, Sessions, Away, HungUp, step, with_session}
use Rattle.session_model.specs.Replaying.{is_leaving, hung_up}
use Rattle.session_model.specs.Working.{left, all_left}
use Rattle.session_model.proofs.laws.StepLemmas.{with_session-same, with_session-other}
use Rattle.session_model.proofs.laws.StandLemmas.{at_numbers}

left_stays : {W : Type 0} (s : Session W) → is_leaving s.state ≡ false → left s ≡ s
left_stays s still = rw still refl

left_goes : {W : Type 0} (s : Session W) → is_leaving s.state ≡ true → left s ≡ record s { state = Away }
left_goes s leaving = rw leaving refl

-- other sessions in place of these
of_same : {T W : Type 0} (u : Sessions T W) (f g : ℕ → Session W) → ((d : ℕ) → f d ≡ g d) → ◌≡◌ {A = Sessions T W} (record u { of = f }) (record u { of = g })
of_same {T} {W} u f g same = ap (λ of. let v : Sessions T W = record { tree = u.tree; changes = u.changes; opened = u.opened; of = of } in v) (fun_ext same)

-- where nobody is to be hung up nothing changes
pub unleaving_same : {T W : Type 0} (u : Sessions T W) → ((d : ℕ) → is_leaving (u.of d).state ≡ false) → all_left u ≡ u
unleaving_same u still = of_same u (λ d. left (u.of d)) u.of (λ d. left_stays (u.of d) (still d))

module _ {T W : Type 0} (r : Rules T W) where
  -- where nobody else is to be, one connection is hung up, if it is to be
  pub one_left : (c : ℕ) (u : Sessions T W) → ((d : ℕ) → d ≢ c → is_leaving (u.of d).state ≡ false) → all_left u ≡ hung_up r c u
  unfolding step
  one_left c u still = by_leaving (is_leaving (u.of c).state) refl
    where
      by_leaving : (b : Bool) → is_leaving (u.of c).state ≡ b → all_left u ≡ cond b (step r u (HungUp c)) u
      by_leaving true leaving =
          of_same u (λ d. left (u.of d)) (with_session c (record (u.of c) { state = Away }) u.of)
          (at_numbers c (λ d. left (u.of d) ≡ with_session c (record (u.of c) { state = Away }) u.of d)
          (left_goes (u.of c) leaving ∙ sym (with_session-same c (record (u.of c) { state = Away }) u.of))
          (λ d differs. left_stays (u.of d) (still d differs) ∙ sym (with_session-other c d (record (u.of c) { state = Away }) u.of differs)))
      by_leaving false stays = unleaving_same u (at_numbers c (λ d. is_leaving (u.of d).state ≡ false) stays still)

  -- one that is to be hung up is
  pub left_hung_up : (c : ℕ) (u : Sessions T W) → is_leaving (u.of c).state ≡ true → all_left (step r u (HungUp c)) ≡ all_left u
  unfolding step
  left_hung_up c u leaving =
      of_same u (λ d. left (with_session c (record (u.of c) { state = Away }) u.of d)) (λ d. left (u.of d))
      (at_numbers c (λ d. left (with_session c (record (u.of c) { state = Away }) u.of d) ≡ left (u.of d))
      (ap left (with_session-same c (record (u.of c) { state = Away }) u.of) ∙ sym (left_goes (u.of c) leaving))
      (λ d differs. ap left (with_session-other c d (record (u.of c) { state = Away }) u.of differs)))
