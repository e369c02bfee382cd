-- The numbers held after one session changes.
use Rattle.std.proofs.Common.{◌≡◌, ℕ, ◌==◌, false, cond, ◌||◌, List, [], ◌∷◌, ◌++◌, filter, refl, arith}
use Rattle.std.proofs.lemmas.Bool.Decides.{nat_tests}
use Rattle.session_model.specs.Run.{Session, is_held, with_session}
use Rattle.session_model.specs.Keeping.{is_listed}
use Rattle.session_model.proofs.laws.KeptLemmas.{without}

-- of these numbers, those whose session is held
abbrev pub held_among : {W : Type 0} → (ℕ → Session W) → List ℕ → List ℕ
held_among of = filter (λ n. is_held (of n).state)

-- a number that isn't listed makes no difference
pub held_among-unlisted : {W : Type 0} (of : ℕ → Session W) (c : ℕ) (s : Session W) (xs : List ℕ) → is_listed c xs ≡ false →
    held_among (with_session c s of) xs ≡ held_among of xs
held_among-unlisted of c s [] h = refl
held_among-unlisted of c s (x ∷ xs) h = grind (arith, nat_tests, held_among-unlisted of c s xs)

-- a session that is held as before makes no difference
pub held_among-same : {W : Type 0} (of : ℕ → Session W) (c : ℕ) (s : Session W) → is_held s.state ≡ is_held (of c).state → (xs : List ℕ) →
    held_among (with_session c s of) xs ≡ held_among of xs
held_among-same of c s h [] = refl
held_among-same of c s h (x ∷ xs) = grind (arith, nat_tests, held_among-same of c s h xs)

-- a session that isn't held any more takes its number away
pub held_among-left : {W : Type 0} (of : ℕ → Session W) (c : ℕ) (s : Session W) → is_held s.state ≡ false → (xs : List ℕ) →
    held_among (with_session c s of) xs ≡ without c (held_among of xs)
held_among-left of c s h [] = refl
held_among-left of c s h (x ∷ xs) = grind (arith, nat_tests, held_among-left of c s h xs)

pub held_among-append : {W : Type 0} (of : ℕ → Session W) (xs : List ℕ) (c : ℕ) →
    held_among of (xs ++ c ∷ []) ≡ held_among of xs ++ cond (is_held (of c).state) (c ∷ []) []
held_among-append of [] c = refl
held_among-append of (x ∷ xs) c = grind (arith, held_among-append of xs c)

pub is_listed-append : (c : ℕ) (xs : List ℕ) (d : ℕ) → is_listed c (xs ++ d ∷ []) ≡ (is_listed c xs || (c == d))
is_listed-append c [] d = grind (arith, nat_tests)
is_listed-append c (x ∷ xs) d = grind (arith, nat_tests, is_listed-append c xs d)
