-- Members put at their places one by one: which of those that compare as alike stays.
use Rattle.std.proofs.Common.{◌≡◌, Bool, true, false, List, [], ◌∷◌, ◌++◌, refl, sym, ap, ◌∙◌, Ordering, Less, Equal, Greater, append_assoc}
use Rattle.std.specs.Prelude.{Option, Some, None, find, cond}
use Rattle.std.specs.Cmp.{IsTotalOrder}
use Rattle.std.specs.List.{AllByRecursion}
use Rattle.std.specs.List.Sorted.{IsStrictlySortedBy}
use Rattle.std.specs.Option.{option_or}
use Rattle.std.specs.Ordering.{is_eq, match_ordering, ordering_reverse}
use Rattle.std.proofs.lemmas.List.{append-nil}
use Rattle.std.proofs.lemmas.List.Folds.{find-append}

-- tests that answer alike find the same
pub find-alike : {A : Type 0} (one other : A → Bool) → ((value : A) → one value ≡ other value) → (values : List A) → find one values ≡ find other values
find-alike one other same [] = refl
find-alike one other same (value ∷ values) = rw (same value, find-alike one other same values) refl

-- `put` puts a member before the first that is above it, and leaves it out where one is alike
module _ {A K : Type 0} (key : A → K) (cmp : K → K → Ordering) (total : IsTotalOrder cmp) (put : A → List A → List A)
    (alone : (value : A) → put value [] ≡ value ∷ [])
    (among : (value first : A) (values : List A)
    → put value (first ∷ values) ≡ match_ordering (cmp (key value) (key first)) (value ∷ first ∷ values) (first ∷ values) (first ∷ put value values)) where
  -- members in order, no two alike
  abbrev pub AreInOrder : List A → Type 0
  AreInOrder values = IsStrictlySortedBy (λ one other. cmp (key one) (key other)) values

  -- the member is alike
  abbrev pub alike : K → A → Bool
  alike sought value = is_eq (cmp (key value) sought)

  -- what holds of a member and of others holds of all
  put-all : (P : A → Type 0) (value : A) (values : List A) → P value → AllByRecursion P values → AllByRecursion P (put value values)
  put-all P value [] has all = rw (alone value) (has, tt)
  put-all P value (first ∷ values) has all = rw (among value first values) (inner (cmp (key value) (key first)) (put-all P value values has all.1))
    where
      inner : (order : Ordering) → AllByRecursion P (put value values)
          → AllByRecursion P (match_ordering order (value ∷ first ∷ values) (first ∷ values) (first ∷ put value values))
      inner Less again = (has, all)
      inner Equal again = all
      inner Greater again = (all.0, again)

  below_all : (value first : A) (values : List A) → cmp (key value) (key first) ≡ Less → AllByRecursion (λ next. cmp (key first) (key next) ≡ Less) values
      → AllByRecursion (λ next. cmp (key value) (key next) ≡ Less) values
  below_all value first [] less all = tt
  below_all value first (next ∷ values) less all =
      (total.trans (key value) (key first) (key next) less all.0, below_all value first values less all.1)

  -- members stay in order
  pub put-in_order : (value : A) (values : List A) → AreInOrder values → AreInOrder (put value values)
  unfolding IsStrictlySortedBy
  put-in_order value [] sorted = rw (alone value) (tt, tt)
  put-in_order value (first ∷ values) sorted =
      rw (among value first values) (inner (cmp (key value) (key first)) refl (put-in_order value values sorted.1))
    where
      inner : (order : Ordering) → cmp (key value) (key first) ≡ order → AreInOrder (put value values)
          → AreInOrder (match_ordering order (value ∷ first ∷ values) (first ∷ values) (first ∷ put value values))
      inner Less is again = ((is, below_all value first values is sorted.0), sorted)
      inner Equal is again = sorted
      inner Greater is again =
          (put-all (λ next. cmp (key first) (key next) ≡ Less) value values (total.antisymm (key first) (key value) ∙ ap ordering_reverse is) sorted.0, again)

  -- none of those above a member is alike to what the member is alike to
  find-above : (sought : K) (value : A) (values : List A) → cmp (key value) sought ≡ Equal → AllByRecursion (λ next. cmp (key value) (key next) ≡ Less) values
      → find (alike sought) values ≡ None
  find-above sought value [] same all = refl
  find-above sought value (next ∷ values) same all =
      let more : cmp (key next) sought ≡ Greater =
      total.antisymm (key next) sought ∙ ap ordering_reverse (sym (total.congr (key value) sought (key next) same) ∙ all.0) in
      rw more (find-above sought value values same all.1)

  same_from_alike : (order : Ordering) → is_eq order ≡ true → order ≡ Equal
  same_from_alike Less h = cc
  same_from_alike Equal h = refl
  same_from_alike Greater h = cc

  -- a member put among others is found behind them
  find-put : (sought : K) (value : A) (values : List A) → AreInOrder values
      → find (alike sought) (put value values) ≡ option_or (find (alike sought) values) (find (alike sought) (value ∷ []))
  unfolding IsStrictlySortedBy
  find-put sought value [] sorted = rw (alone value) refl
  find-put sought value (first ∷ values) sorted =
      rw (among value first values) (inner (cmp (key value) (key first)) refl (find-put sought value values sorted.1))
    where
      no_more : (found : Option A) → option_or found None ≡ found
      no_more None = refl
      no_more (Some one) = refl

      before : cmp (key value) (key first) ≡ Less → (b : Bool) → alike sought value ≡ b
          → cond b (Some value) (find (alike sought) (first ∷ values)) ≡ option_or (find (alike sought) (first ∷ values)) (cond b (Some value) None)
      before less false is = sym (no_more (find (alike sought) (first ∷ values)))
      before less true is =
          let none = find-above sought value (first ∷ values) (same_from_alike (cmp (key value) sought) is) (less, below_all value first values less sorted.0) in
          sym (ap (λ found. option_or found (Some value)) none)

      at_first : (b c : Bool) → b ≡ c
          → cond b (Some first) (find (alike sought) values) ≡ option_or (cond b (Some first) (find (alike sought) values)) (cond c (Some value) None)
      at_first true c same = refl
      at_first false true same = cc
      at_first false false same = sym (no_more (find (alike sought) values))

      behind : (b : Bool) → find (alike sought) (put value values) ≡ option_or (find (alike sought) values) (find (alike sought) (value ∷ []))
          → cond b (Some first) (find (alike sought) (put value values))
          ≡ option_or (cond b (Some first) (find (alike sought) values)) (find (alike sought) (value ∷ []))
      behind true again = refl
      behind false again = again

      inner : (order : Ordering) → cmp (key value) (key first) ≡ order
          → find (alike sought) (put value values) ≡ option_or (find (alike sought) values) (find (alike sought) (value ∷ []))
          → find (alike sought) (match_ordering order (value ∷ first ∷ values) (first ∷ values) (first ∷ put value values))
          ≡ option_or (find (alike sought) (first ∷ values)) (find (alike sought) (value ∷ []))
      inner Less is again = before is (alike sought value) refl
      inner Equal is again = at_first (alike sought first) (alike sought value) (ap is_eq (sym (total.congr (key value) (key first) sought is)))
      inner Greater is again = behind (alike sought first) again

  -- the same of many, one after the other
  pub find-put_all : (all : List A → List A → List A) → ((seen : List A) → all seen [] ≡ seen)
      → ((seen : List A) (value : A) (values : List A) → all seen (value ∷ values) ≡ all (put value seen) values)
      → (sought : K) (seen values : List A) → AreInOrder seen → find (alike sought) (all seen values) ≡ find (alike sought) (seen ++ values)
  find-put_all all none more sought seen [] sorted =
      ap (find (alike sought)) (none seen) ∙ ap (find (alike sought)) (sym (append-nil seen))
  find-put_all all none more sought seen (value ∷ values) sorted =
      ap (find (alike sought)) (more seen value values)
      ∙ find-put_all all none more sought (put value seen) values (put-in_order value seen sorted)
      ∙ find-append (alike sought) (put value seen) values
      ∙ ap (λ found. option_or found (find (alike sought) values)) (find-put sought value seen sorted)
      ∙ ap (λ found. option_or found (find (alike sought) values)) (sym (find-append (alike sought) seen (value ∷ [])))
      ∙ sym (find-append (alike sought) (seen ++ value ∷ []) values)
      ∙ ap (find (alike sought)) (append_assoc seen (value ∷ []) values)
