-- What one more element makes of the elements that a key or a test chooses.
use Rattle.std.proofs.Common.{◌≡◌, ◌≢◌, inl, inr, ℕ, ◌<◌, ◌≤◌, ◌==◌, Bool, true, false, ◌||◌, List, [], ◌∷◌, ◌++◌, map, filter, refl, sym, ap, ◌∙◌, arith}
use Rattle.std.specs.Prelude.{max, min}
use Rattle.std.specs.List.{list_any}
use Rattle.std.proofs.Math.Bool.{or-false}
use Rattle.std.proofs.lemmas.Bool.{cases_Bool, cond-true, cond-false, eq-eqb, ne_eqb, or_parts, or_right, or_from}
use Rattle.std.proofs.lemmas.List.{append-nil}
use Rattle.std.proofs.lemmas.List.Elements.{filter-append}
use Rattle.std.proofs.lemmas.List.Folds.{list_any-append}
use Rattle.dir_tree.proofs.base_laws_proofs.Theorems.{all_true}
use Rattle.acdf_filters.specs.users.Choices.{greatest, least, highest, lowest, passing_or_all, is_filled}
use Rattle.acdf_filters.proofs.laws.KeyLemmas.{highest-greatest, lowest-least}

-- those of a given key
abbrev at_key : {A : Type 0} → (A → ℕ) → ℕ → List A → List A
at_key key n xs = filter (λ y. key y == n) xs

at_key-same : {A : Type 0} (key : A → ℕ) (n : ℕ) (x : A) (xs : List A) → key x ≡ n → at_key key n (xs ++ x ∷ []) ≡ at_key key n xs ++ x ∷ []
at_key-same key n x xs e =
    filter-append (λ y. key y == n) xs (x ∷ [])
    ∙ ap (λ ys. at_key key n xs ++ ys) (cond-true (key x == n) (x ∷ []) [] (eq-eqb (key x) n e))

at_key-other : {A : Type 0} (key : A → ℕ) (n : ℕ) (x : A) (xs : List A) → key x ≢ n → at_key key n (xs ++ x ∷ []) ≡ at_key key n xs
at_key-other key n x xs h =
    filter-append (λ y. key y == n) xs (x ∷ [])
    ∙ ap (λ ys. at_key key n xs ++ ys) (cond-false (key x == n) (x ∷ []) [] (ne_eqb (key x) n h))
    ∙ append-nil (at_key key n xs)

none_above : {A : Type 0} (key : A → ℕ) (n : ℕ) (xs : List A) → greatest (map key xs) < n → at_key key n xs ≡ []
none_above key n [] h = refl
none_above key n (x ∷ xs) h =
    cond-false (key x == n) (x ∷ at_key key n xs) (at_key key n xs) (ne_eqb (key x) n (λ e. omega arith))
    ∙ none_above key n xs (omega arith)

none_below : {A : Type 0} (key : A → ℕ) (n : ℕ) (xs : List A) → n < least (map key xs) → at_key key n xs ≡ []
none_below key n [] h = refl
none_below key n (x ∷ xs) h =
    cond-false (key x == n) (x ∷ at_key key n xs) (at_key key n xs) (ne_eqb (key x) n (λ e. omega arith))
    ∙ none_below key n xs (omega arith)

pub greatest-append : {A : Type 0} (key : A → ℕ) (xs : List A) (x : A) → greatest (map key (xs ++ x ∷ [])) ≡ max (greatest (map key xs)) (key x)
greatest-append key [] x = omega arith
greatest-append key (y ∷ xs) x = let later = greatest-append key xs x in omega arith

pub least-append : {A : Type 0} (key : A → ℕ) (xs : List A) (x : A) → least (map key (xs ++ x ∷ [])) ≡ min (least (map key xs)) (key x)
least-append key [] x = omega arith
least-append key (y ∷ xs) x = let later = least-append key xs x in omega arith

-- a key above all is that of the only one that is chosen; one below adds nothing; one that is the same adds its element
pub highest-above : {A : Type 0} (key : A → ℕ) (xs : List A) (x : A) → greatest (map key xs) < key x → highest key (xs ++ x ∷ []) ≡ x ∷ []
highest-above key xs x h =
    let top : greatest (map key (xs ++ x ∷ [])) ≡ key x = omega (arith, greatest-append key xs x) in
    highest-greatest key (xs ++ x ∷ [])
    ∙ ap (λ n. at_key key n (xs ++ x ∷ [])) top
    ∙ at_key-same key (key x) x xs refl
    ∙ ap (λ ys. ys ++ x ∷ []) (none_above key (key x) xs h)

pub highest-below : {A : Type 0} (key : A → ℕ) (xs : List A) (x : A) → key x < greatest (map key xs) → highest key (xs ++ x ∷ []) ≡ highest key xs
highest-below key xs x h =
    let top : greatest (map key (xs ++ x ∷ [])) ≡ greatest (map key xs) = omega (arith, greatest-append key xs x) in
    highest-greatest key (xs ++ x ∷ [])
    ∙ ap (λ n. at_key key n (xs ++ x ∷ [])) top
    ∙ at_key-other key (greatest (map key xs)) x xs (λ e. omega arith)
    ∙ sym (highest-greatest key xs)

pub highest-same : {A : Type 0} (key : A → ℕ) (xs : List A) (x : A) → key x ≡ greatest (map key xs) → highest key (xs ++ x ∷ []) ≡ highest key xs ++ x ∷ []
highest-same key xs x e =
    let top : greatest (map key (xs ++ x ∷ [])) ≡ greatest (map key xs) = omega (arith, greatest-append key xs x) in
    highest-greatest key (xs ++ x ∷ [])
    ∙ ap (λ n. at_key key n (xs ++ x ∷ [])) top
    ∙ at_key-same key (greatest (map key xs)) x xs e
    ∙ ap (λ ys. ys ++ x ∷ []) (sym (highest-greatest key xs))

-- the same of ranks, from the least up
lowest-ranks : {A : Type 0} (key : A → ℕ) → ((x : A) → key x ≤ 3) → (xs : List A) → lowest key xs ≡ at_key key (least (map key xs)) xs
lowest-ranks key ranks xs = lowest-least key xs (all_true (λ x. key x ≤ 3) ranks xs)

pub lowest-below : {A : Type 0} (key : A → ℕ) → ((x : A) → key x ≤ 3) → (xs : List A) (x : A) → key x < least (map key xs) → lowest key (xs ++ x ∷ []) ≡ x ∷ []
lowest-below key ranks xs x h =
    let low : least (map key (xs ++ x ∷ [])) ≡ key x = omega (arith, least-append key xs x) in
    lowest-ranks key ranks (xs ++ x ∷ [])
    ∙ ap (λ n. at_key key n (xs ++ x ∷ [])) low
    ∙ at_key-same key (key x) x xs refl
    ∙ ap (λ ys. ys ++ x ∷ []) (none_below key (key x) xs h)

pub lowest-above : {A : Type 0} (key : A → ℕ) → ((x : A) → key x ≤ 3) → (xs : List A) (x : A) → least (map key xs) < key x → lowest key (xs ++ x ∷ []) ≡ lowest key xs
lowest-above key ranks xs x h =
    let low : least (map key (xs ++ x ∷ [])) ≡ least (map key xs) = omega (arith, least-append key xs x) in
    lowest-ranks key ranks (xs ++ x ∷ [])
    ∙ ap (λ n. at_key key n (xs ++ x ∷ [])) low
    ∙ at_key-other key (least (map key xs)) x xs (λ e. omega arith)
    ∙ sym (lowest-ranks key ranks xs)

pub lowest-same : {A : Type 0} (key : A → ℕ) → ((x : A) → key x ≤ 3) → (xs : List A) (x : A) → key x ≡ least (map key xs) → lowest key (xs ++ x ∷ []) ≡ lowest key xs ++ x ∷ []
lowest-same key ranks xs x e =
    let low : least (map key (xs ++ x ∷ [])) ≡ least (map key xs) = omega (arith, least-append key xs x) in
    lowest-ranks key ranks (xs ++ x ∷ [])
    ∙ ap (λ n. at_key key n (xs ++ x ∷ [])) low
    ∙ at_key-same key (least (map key xs)) x xs e
    ∙ ap (λ ys. ys ++ x ∷ []) (sym (lowest-ranks key ranks xs))

-- a list with one more element has one
pub is_filled-append : {A : Type 0} (xs : List A) (x : A) → is_filled (xs ++ x ∷ []) ≡ true
is_filled-append [] x = refl
is_filled-append (y ∷ xs) x = refl

-- where no element passes, the filter leaves none
pub filter-none : {A : Type 0} (test : A → Bool) (xs : List A) → list_any test xs ≡ false → filter test xs ≡ []
filter-none test [] e = refl
filter-none test (x ∷ xs) e =
    let parts = or_parts (test x) (list_any test xs) e in
    cond-false (test x) (x ∷ filter test xs) (filter test xs) parts.0 ∙ filter-none test xs parts.1

-- whether one of a list with one more element passes
pub any-append : {A : Type 0} (test : A → Bool) (xs : List A) (x : A) → list_any test (xs ++ x ∷ []) ≡ (list_any test xs || test x)
any-append test xs x = list_any-append test xs (x ∷ []) ∙ ap (λ b. list_any test xs || b) (or-false (test x))

-- one that passes takes the place of those that do not, and counts with those that do; one that does not is left out by
-- those that do, and counts with those that do not
pub passing-both : {A : Type 0} (test : A → Bool) (xs : List A) (x : A) → test x ≡ true → list_any test xs ≡ true
    → passing_or_all test (xs ++ x ∷ []) ≡ passing_or_all test xs ++ x ∷ []
passing-both test xs x e any =
    cond-true (list_any test (xs ++ x ∷ [])) (filter test (xs ++ x ∷ [])) (xs ++ x ∷ []) (any-append test xs x ∙ ap (λ b. b || test x) any)
    ∙ filter-append test xs (x ∷ [])
    ∙ ap (λ ys. filter test xs ++ ys) (cond-true (test x) (x ∷ []) [] e)
    ∙ ap (λ ys. ys ++ x ∷ []) (sym (cond-true (list_any test xs) (filter test xs) xs any))

pub passing-first : {A : Type 0} (test : A → Bool) (xs : List A) (x : A) → test x ≡ true → list_any test xs ≡ false
    → passing_or_all test (xs ++ x ∷ []) ≡ x ∷ []
passing-first test xs x e any =
    cond-true (list_any test (xs ++ x ∷ [])) (filter test (xs ++ x ∷ [])) (xs ++ x ∷ []) (any-append test xs x ∙ or_right (list_any test xs) (test x) e)
    ∙ filter-append test xs (x ∷ [])
    ∙ ap (λ ys. filter test xs ++ ys) (cond-true (test x) (x ∷ []) [] e)
    ∙ ap (λ ys. ys ++ x ∷ []) (filter-none test xs any)

pub passing-later : {A : Type 0} (test : A → Bool) (xs : List A) (x : A) → test x ≡ false → list_any test xs ≡ true
    → passing_or_all test (xs ++ x ∷ []) ≡ passing_or_all test xs
passing-later test xs x e any =
    cond-true (list_any test (xs ++ x ∷ [])) (filter test (xs ++ x ∷ [])) (xs ++ x ∷ []) (any-append test xs x ∙ ap (λ b. b || test x) any)
    ∙ filter-append test xs (x ∷ [])
    ∙ ap (λ ys. filter test xs ++ ys) (cond-false (test x) (x ∷ []) [] e)
    ∙ append-nil (filter test xs)
    ∙ sym (cond-true (list_any test xs) (filter test xs) xs any)

pub passing-neither : {A : Type 0} (test : A → Bool) (xs : List A) (x : A) → test x ≡ false → list_any test xs ≡ false
    → passing_or_all test (xs ++ x ∷ []) ≡ passing_or_all test xs ++ x ∷ []
passing-neither test xs x e any =
    cond-false (list_any test (xs ++ x ∷ [])) (filter test (xs ++ x ∷ [])) (xs ++ x ∷ []) (any-append test xs x ∙ or_from (list_any test xs) (test x) any e)
    ∙ ap (λ ys. ys ++ x ∷ []) (sym (cond-false (list_any test xs) (filter test xs) xs any))

-- of one element it is that one
pub passing-one : {A : Type 0} (test : A → Bool) (x : A) → passing_or_all test (x ∷ []) ≡ x ∷ []
passing-one test x = elim (cases_Bool (test x)) [ inl e ↦ passing-first test [] x e refl | inr e ↦ passing-neither test [] x e refl ]
