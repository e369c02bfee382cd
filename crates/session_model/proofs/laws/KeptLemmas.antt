-- Look-ups by number in the connections held, after each change.
use Rattle.std.proofs.Common.{◌≡◌, ◌≤◌, length, ℕ, ◌==◌, Bool, true, false, cond, List, [], ◌∷◌, ◌++◌, map, Option, Some, None, option_map, refl, arith, filter}
use Rattle.std.proofs.lemmas.Bool.Decides.{nat_tests}
use Rattle.session_model.specs.Kept.{Kept, kept_of, queue_of, closing_of, changed, forgotten}
use Rattle.session_model.specs.Keeping.{is_listed}

-- the queue and the closing of what was found
abbrev pub queue_in : {W : Type 0} → Option (Kept W) → List ℕ
queue_in None = []
queue_in (Some k) = k.queue

abbrev pub closing_in : {W : Type 0} → Option (Kept W) → Bool
closing_in None = false
closing_in (Some k) = k.closing

pub queue_of_is : {W : Type 0} (c : ℕ) (ks : List (Kept W)) → queue_of c ks ≡ queue_in (kept_of c ks)
queue_of_is c [] = refl
queue_of_is c (k ∷ ks) = elim (k.number == c) as (λ b. cond b k.queue (queue_of c ks) ≡ queue_in (cond b (Some k) (kept_of c ks))) [ true ↦ refl | false ↦ queue_of_is c ks ]

pub closing_of_is : {W : Type 0} (c : ℕ) (ks : List (Kept W)) → closing_of c ks ≡ closing_in (kept_of c ks)
closing_of_is c [] = refl
closing_of_is c (k ∷ ks) = elim (k.number == c) as (λ b. cond b k.closing (closing_of c ks) ≡ closing_in (cond b (Some k) (kept_of c ks))) [ true ↦ refl | false ↦ closing_of_is c ks ]

-- what is found has the number that was looked for
pub kept_of-number : {W : Type 0} (c : ℕ) (ks : List (Kept W)) (k : Kept W) → kept_of c ks ≡ Some k → k.number ≡ c
kept_of-number c [] k found = cc
kept_of-number c (x ∷ xs) k found = grind (arith, nat_tests, kept_of-number c xs k)

pub kept_of-changed : {W : Type 0} (c d : ℕ) (f : Kept W → Kept W) → ((k : Kept W) → k.number ≡ c → (f k).number ≡ c) →
    (ks : List (Kept W)) → kept_of d (changed c f ks) ≡ cond (d == c) (option_map f (kept_of c ks)) (kept_of d ks)
kept_of-changed c d f same [] = grind (arith, nat_tests)
kept_of-changed c d f same (k ∷ ks) = grind (arith, nat_tests, same k, kept_of-changed c d f same ks)

pub number-changed : {W : Type 0} (c : ℕ) (f : Kept W → Kept W) → ((k : Kept W) → k.number ≡ c → (f k).number ≡ c) →
    (ks : List (Kept W)) → map (λ k. k.number) (changed c f ks) ≡ map (λ k. k.number) ks
number-changed c f same [] = refl
number-changed c f same (k ∷ ks) = grind (arith, nat_tests, same k, number-changed c f same ks)

-- as many are held
pub length-changed : {W : Type 0} (c : ℕ) (f : Kept W → Kept W) (ks : List (Kept W)) → length (changed c f ks) ≡ length ks
length-changed c f [] = refl
length-changed c f (k ∷ ks) = grind (arith, nat_tests, length-changed c f ks)

pub length-forgotten : {W : Type 0} (c : ℕ) (ks : List (Kept W)) → length (forgotten c ks) ≤ length ks
length-forgotten c [] = omega arith
length-forgotten c (k ∷ ks) = grind (arith, nat_tests, length-forgotten c ks)

-- whoever is found is among the numbers
pub number-found : {W : Type 0} (c : ℕ) (ks : List (Kept W)) (k : Kept W) → kept_of c ks ≡ Some k → is_listed c (map (λ k. k.number) ks) ≡ true
number-found c [] k found = cc
number-found c (x ∷ xs) k found = grind (arith, nat_tests, number-found c xs k)

-- the numbers without one
abbrev pub without : ℕ → List ℕ → List ℕ
without c = filter (λ d. cond (d == c) false true)

pub kept_of-forgotten : {W : Type 0} (c d : ℕ) (ks : List (Kept W)) → kept_of d (forgotten c ks) ≡ cond (d == c) None (kept_of d ks)
kept_of-forgotten c d [] = grind (arith, nat_tests)
kept_of-forgotten c d (k ∷ ks) = grind (arith, nat_tests, kept_of-forgotten c d ks)

pub number-forgotten : {W : Type 0} (c : ℕ) (ks : List (Kept W)) → map (λ k. k.number) (forgotten c ks) ≡ without c (map (λ k. k.number) ks)
number-forgotten c [] = refl
number-forgotten c (k ∷ ks) = grind (arith, nat_tests, number-forgotten c ks)

-- the connection found, or else the new one
abbrev pub found_or : {W : Type 0} → Option (Kept W) → Option (Kept W) → Option (Kept W)
found_or None last = last
found_or (Some k) last = Some k

pub kept_of-append : {W : Type 0} (c : ℕ) (ks : List (Kept W)) (k : Kept W) → kept_of c (ks ++ k ∷ []) ≡ found_or (kept_of c ks) (cond (k.number == c) (Some k) None)
kept_of-append c [] k = refl
kept_of-append c (x ∷ xs) k = elim (x.number == c) as (λ b. cond b (Some x) (kept_of c (xs ++ k ∷ [])) ≡ found_or (cond b (Some x) (kept_of c xs)) (cond (k.number == c) (Some k) None)) [ true ↦ refl | false ↦ kept_of-append c xs k ]
