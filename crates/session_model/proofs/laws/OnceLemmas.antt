-- A number that steps open once is new where they open it.
use Rattle.std.proofs.Common.{◌≡◌, ◌≤◌, ◌+◌, ℕ, Bool, true, false, ◌||◌, cond, List, [], ◌∷◌, ◌++◌, Option, refl, ap, ◌∙◌, arith}
use Rattle.std.proofs.lemmas.Bool.Decides.{nat_tests}
use Rattle.session_model.specs.Rules.{Rules}
use Rattle.session_model.specs.Run.{Sessions, State, Open, Closing, TurnedAway, Away, Unopened, Step, Opened, Bytes, Ended, Gone, HungUp, step, start, run, hears}
use Rattle.session_model.specs.Keeping.{IsNew, is_listed}
use Rattle.session_model.specs.Replaying.{number_of, is_leaving, step_and_hang_up, replayed}
use Rattle.session_model.specs.Purging.{is_opening, openings}
use Rattle.session_model.proofs.laws.HeldLemmas.{is_listed-append}
use Rattle.session_model.proofs.laws.PurgeLemmas.{led, run_from-led, replayed_from-led}

-- how often steps open a number, in turn
openings-append : (n : ℕ) (early late : List Step) → openings n (early ++ late) ≡ openings n early + openings n late
openings-append n [] late = omega arith
openings-append n (s ∷ early) late = let later = openings-append n early late in omega arith

-- a step without an opening of the number leaves it as it was
not_opened : (n : ℕ) (s : Step) (early : List Step) → openings n (s ∷ early) ≡ 0 → (is_opening n s ≡ false) × (openings n early ≡ 0)
not_opened n s early none = by_opening (is_opening n s) refl
  where
    by_opening : (b : Bool) → is_opening n s ≡ b → (is_opening n s ≡ false) × (openings n early ≡ 0)
    by_opening true e = absurd (grind arith)
    by_opening false e = (e, grind arith)

module _ {T W : Type 0} (r : Rules T W) where
  -- a way to lead on that lists what a step opens
  abbrev Lists : (Sessions T W → Step → Sessions T W) → Type 0
  Lists after = (n : ℕ) (u : Sessions T W) (s : Step) → is_listed n (after u s).opened ≡ (is_listed n u.opened || is_opening n s)

  neither : (a b : Bool) → a ≡ false → b ≡ false → (a || b) ≡ false
  neither true b e f = cc
  neither false b e f = f

  stays : (b : Bool) → b ≡ (b || false)
  stays true = refl
  stays false = refl

  hears_opened : (st : State) (u : Sessions T W) (c : ℕ) (piece : List ℕ) (cut : Option ℕ) → (hears r st u c piece cut).opened ≡ u.opened
  hears_opened Open u c piece cut = refl
  hears_opened Closing u c piece cut = refl
  hears_opened Unopened u c piece cut = refl
  hears_opened TurnedAway u c piece cut = refl
  hears_opened Away u c piece cut = refl

  step_lists : Lists (step r)
  unfolding step
  step_lists n u (Opened d) = is_listed-append n u.opened d ∙ grind (arith, nat_tests)
  step_lists n u (Bytes d piece cut) = ap (is_listed n) (hears_opened (u.of d).state u d piece cut) ∙ stays (is_listed n u.opened)
  step_lists n u (Ended d) = stays (is_listed n u.opened)
  step_lists n u (Gone d) = stays (is_listed n u.opened)
  step_lists n u (HungUp d) = stays (is_listed n u.opened)

  hanging_up_lists : Lists (step_and_hang_up r)
  unfolding step
  hanging_up_lists n u s = by_state (is_leaving ((step r u s).of (number_of s)).state) ∙ step_lists n u s
    where
      by_state : (leaves : Bool) → is_listed n (cond leaves (step r (step r u s) (HungUp (number_of s))) (step r u s)).opened ≡ is_listed n (step r u s).opened
      by_state true = refl
      by_state false = refl

  -- what no step opens isn't listed after them
  unlisted : (after : Sessions T W → Step → Sessions T W) → Lists after → (n : ℕ) (u : Sessions T W) (early : List Step) → is_listed n u.opened ≡ false
      → openings n early ≡ 0 → is_listed n (led after u early).opened ≡ false
  unfolding led
  unlisted after lists n u [] fresh none = fresh
  unlisted after lists n u (s ∷ early) fresh none =
      let parts = not_opened n s early none in
      let first : is_listed n (after u s).opened ≡ false = lists n u s ∙ neither (is_listed n u.opened) (is_opening n s) fresh parts.0 in
      unlisted after lists n (after u s) early first parts.1

  -- so each step is new, where its number opens once
  is_new : (u : Sessions T W) (early late : List Step) (next : Step) → openings (number_of next) (early ++ next ∷ late) ≤ 1
      → ((n : ℕ) → openings n early ≡ 0 → is_listed n u.opened ≡ false) → IsNew u next
  is_new u early late (Opened n) once fresh =
      let joins = openings-append n early (Opened n ∷ late) in fresh n (grind (arith, nat_tests))
  is_new u early late (Bytes n piece cut) once fresh = tt
  is_new u early late (Ended n) once fresh = tt
  is_new u early late (Gone n) once fresh = tt
  is_new u early late (HungUp n) once fresh = tt

  start_unlisted : (n : ℕ) (t : T) → is_listed n (start r t).opened ≡ false
  unfolding start
  start_unlisted n t = refl

  pub run-new : (t : T) (early late : List Step) (next : Step) → openings (number_of next) (early ++ next ∷ late) ≤ 1 → IsNew (run r t early) next
  run-new t early late next once =
      is_new (run r t early) early late next once
      (λ n none. ap (λ (x : Sessions T W). is_listed n x.opened) (run_from-led r (start r t) early) ∙ unlisted (step r) step_lists n (start r t) early (start_unlisted n t) none)

  pub replay-new : (t : T) (early late : List Step) (next : Step) → openings (number_of next) (early ++ next ∷ late) ≤ 1 → IsNew (replayed r t early) next
  replay-new t early late next once =
      is_new (replayed r t early) early late next once
      (λ n none. ap (λ (x : Sessions T W). is_listed n x.opened) (replayed_from-led r (start r t) early) ∙ unlisted (step_and_hang_up r) hanging_up_lists n (start r t) early (start_unlisted n t) none)
