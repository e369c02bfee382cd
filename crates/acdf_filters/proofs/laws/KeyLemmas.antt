-- Those of the greatest and of the least key are those whose key is a number.
use Rattle.std.proofs.Common.{◌≡◌, inl, inr, ℕ, ◌≤◌, ◌==◌, Bool, true, false, not, List, [], ◌∷◌, map, filter, refl, sym, ap, ◌∙◌, arith}
use Rattle.std.specs.Prelude.{nat_lt, max, min}
use Rattle.std.specs.List.{AllByRecursion, list_any}
use Rattle.std.proofs.lemmas.Bool.{cases_Bool, cases_order, eq-eqb, ne_eqb, eqb-true, lt-ltb, le-ltb, or_right}
use Rattle.dir_tree.proofs.base_laws_proofs.Theorems.{all_map, list_any-none}
use Rattle.acdf_filters.specs.users.Choices.{greatest, least, highest, lowest, is_filled}
use Rattle.acdf_filters.proofs.laws.ListLemmas.{filter-agree}

-- a test that passes all that another does finds one where the other does
any_where : {A : Type 0} (p q : A → Bool) → ((x : A) → p x ≡ true → q x ≡ true) → (xs : List A) → list_any p xs ≡ true → list_any q xs ≡ true
any_where p q h [] e = absurd cc
any_where p q h (x ∷ xs) e = elim (cases_Bool (p x)) [
  | inl f ↦ rw (h x f) refl
  | inr f ↦ or_right (q x) (list_any q xs) (any_where p q h xs (rw f at e))
]

-- where no key is above a number that is one of them, those of the greatest key are those of the number
highest-at : {A : Type 0} (key : A → ℕ) (n : ℕ) (xs : List A) → AllByRecursion (λ x. key x ≤ n) xs
    → (is_filled xs ≡ true → list_any (λ x. key x == n) xs ≡ true) → highest key xs ≡ filter (λ x. key x == n) xs
highest-at key n [] h reached = refl
highest-at {A = A} key n (x ∷ xs) h reached =
    filter-agree (λ y. not (list_any (λ z. nat_lt (key y) (key z)) (x ∷ xs))) (λ y. key y == n) (x ∷ xs)
    (all_map (λ y. key y ≤ n) (λ y. not (list_any (λ z. nat_lt (key y) (key z)) (x ∷ xs)) ≡ (key y == n)) each (x ∷ xs) h)
  where
    each : (y : A) → key y ≤ n → not (list_any (λ z. nat_lt (key y) (key z)) (x ∷ xs)) ≡ (key y == n)
    each y within = elim (cases_order (key y) n) [
      | inl same ↦
          ap (λ m. not (list_any (λ z. nat_lt m (key z)) (x ∷ xs))) same
          ∙ ap not (list_any-none (λ z. nat_lt n (key z)) (x ∷ xs) (all_map (λ z. key z ≤ n) (λ z. nat_lt n (key z) ≡ false) (λ z. le-ltb n (key z)) (x ∷ xs) h))
          ∙ sym (eq-eqb (key y) n same)
      | inr (inl below) ↦
          ap not (any_where (λ z. key z == n) (λ z. nat_lt (key y) (key z))
          (λ z e. let same = eqb-true (key z) n e in lt-ltb (key y) (key z) (omega arith)) (x ∷ xs) (reached refl))
          ∙ sym (ne_eqb (key y) n (λ e. omega arith))
      | inr (inr above) ↦ absurd (omega arith)
    ]

-- where no key is below a number that is one of them, those of the least key are those of the number
pub lowest-at : {A : Type 0} (key : A → ℕ) (n : ℕ) (xs : List A) → AllByRecursion (λ x. n ≤ key x) xs
    → (is_filled xs ≡ true → list_any (λ x. key x == n) xs ≡ true) → lowest key xs ≡ filter (λ x. key x == n) xs
lowest-at key n [] h reached = refl
lowest-at {A = A} key n (x ∷ xs) h reached =
    filter-agree (λ y. not (list_any (λ z. nat_lt (key z) (key y)) (x ∷ xs))) (λ y. key y == n) (x ∷ xs)
    (all_map (λ y. n ≤ key y) (λ y. not (list_any (λ z. nat_lt (key z) (key y)) (x ∷ xs)) ≡ (key y == n)) each (x ∷ xs) h)
  where
    each : (y : A) → n ≤ key y → not (list_any (λ z. nat_lt (key z) (key y)) (x ∷ xs)) ≡ (key y == n)
    each y within = elim (cases_order (key y) n) [
      | inl same ↦
          ap (λ m. not (list_any (λ z. nat_lt (key z) m) (x ∷ xs))) same
          ∙ ap not (list_any-none (λ z. nat_lt (key z) n) (x ∷ xs) (all_map (λ z. n ≤ key z) (λ z. nat_lt (key z) n ≡ false) (λ z. le-ltb (key z) n) (x ∷ xs) h))
          ∙ sym (eq-eqb (key y) n same)
      | inr (inl below) ↦ absurd (omega arith)
      | inr (inr above) ↦
          ap not (any_where (λ z. key z == n) (λ z. nat_lt (key z) (key y))
          (λ z e. let same = eqb-true (key z) n e in lt-ltb (key z) (key y) (omega arith)) (x ∷ xs) (reached refl))
          ∙ sym (ne_eqb (key y) n (λ e. omega arith))
    ]

-- the greatest of the keys is below none, and is one of them
greatest-most : {A : Type 0} (key : A → ℕ) (xs : List A) → AllByRecursion (λ x. key x ≤ greatest (map key xs)) xs
greatest-most key [] = tt
greatest-most key (x ∷ xs) =
    (omega arith, all_map (λ y. key y ≤ greatest (map key xs)) (λ y. key y ≤ max (key x) (greatest (map key xs))) (λ y h. omega arith) xs (greatest-most key xs))

greatest-reached : {A : Type 0} (key : A → ℕ) (xs : List A) → is_filled xs ≡ true → list_any (λ x. key x == greatest (map key xs)) xs ≡ true
greatest-reached key [] e = absurd cc
greatest-reached key (x ∷ []) e = rw (eq-eqb (key x) (max (key x) 0) (omega arith)) refl
greatest-reached key (x ∷ y ∷ ys) e =
    let later = greatest-reached key (y ∷ ys) refl in
    let top = greatest (map key (y ∷ ys)) in
    elim (cases_order (key x) top) [
      | inl same ↦ rw (eq-eqb (key x) (max (key x) top) (omega arith)) refl
      | inr (inl below) ↦
          let same : max (key x) top ≡ top = omega arith in
          or_right (key x == max (key x) top) (list_any (λ z. key z == max (key x) top) (y ∷ ys))
          (ap (λ n. list_any (λ z. key z == n) (y ∷ ys)) same ∙ later)
      | inr (inr above) ↦ rw (eq-eqb (key x) (max (key x) top) (omega arith)) refl
    ]

-- so those of the greatest key are those whose key is the greatest of the keys
pub highest-greatest : {A : Type 0} (key : A → ℕ) (xs : List A) → highest key xs ≡ filter (λ x. key x == greatest (map key xs)) xs
highest-greatest key xs = highest-at key (greatest (map key xs)) xs (greatest-most key xs) (greatest-reached key xs)

-- the least of ranks is above none, and is one of them
least-most : {A : Type 0} (key : A → ℕ) (xs : List A) → AllByRecursion (λ x. least (map key xs) ≤ key x) xs
least-most key [] = tt
least-most key (x ∷ xs) =
    (omega arith, all_map (λ y. least (map key xs) ≤ key y) (λ y. min (key x) (least (map key xs)) ≤ key y) (λ y h. omega arith) xs (least-most key xs))

least-reached : {A : Type 0} (key : A → ℕ) (xs : List A) → AllByRecursion (λ x. key x ≤ 3) xs → is_filled xs ≡ true
    → list_any (λ x. key x == least (map key xs)) xs ≡ true
least-reached key [] h e = absurd cc
least-reached key (x ∷ []) h e = rw (eq-eqb (key x) (min (key x) 3) (let within = h.0 in omega arith)) refl
least-reached key (x ∷ y ∷ ys) h e =
    let later = least-reached key (y ∷ ys) h.1 refl in
    let low = least (map key (y ∷ ys)) in
    elim (cases_order (key x) low) [
      | inl same ↦ rw (eq-eqb (key x) (min (key x) low) (omega arith)) refl
      | inr (inl below) ↦ rw (eq-eqb (key x) (min (key x) low) (omega arith)) refl
      | inr (inr above) ↦
          let same : min (key x) low ≡ low = omega arith in
          or_right (key x == min (key x) low) (list_any (λ z. key z == min (key x) low) (y ∷ ys))
          (ap (λ n. list_any (λ z. key z == n) (y ∷ ys)) same ∙ later)
    ]

-- so where all keys are ranks, those of the least key are those whose key is the least of the keys
pub lowest-least : {A : Type 0} (key : A → ℕ) (xs : List A) → AllByRecursion (λ x. key x ≤ 3) xs → lowest key xs ≡ filter (λ x. key x == least (map key xs)) xs
lowest-least key xs h = lowest-at key (least (map key xs)) xs (least-most key xs) (least-reached key xs h)
