-- How many distinct keys there are.
use Rattle.std.proofs.Common.{◌≡◌, ◌⊎◌, inl, inr, ℕ, suc, ◌<◌, Bool, true, false, not, List, [], ◌∷◌, length, map, refl, sym, ap, ◌∙◌, arith}
use Rattle.std.specs.Prelude.{◌==◌}
use Rattle.std.specs.List.{list_any}
use Rattle.std.specs.Set.{distinct_count}
use Rattle.std.specs.Ordering.{nat_cmp, eq_by_cmp}
use Rattle.std.specs.Cmp.Lexicographic.{slice_cmp}
use Rattle.std.proofs.lemmas.Bool.{cases_Bool, eqb-true, eq-eqb}
use Rattle.std.proofs.lemmas.Cmp.{eq_by_cmp_equiv, nat_list_cmp_total}
use Rattle.std.proofs.lemmas.List.{length-map}
use Rattle.std.proofs.lemmas.Map.Made.{IsDistinct-from_count, distinct_count-from_IsDistinct}
use Rattle.std.proofs.lemmas.Map.Text.{is_eq-slice_cmp}
use Rattle.dir_tree.specs.dn_names.name.Names.{Keyed}
use Rattle.dir_tree.specs.Entry.{is_match}
use Rattle.op_add_delete.specs.reading.NewEntries.{repeats}
use Rattle.op_add_delete.proofs.reading.ReadingLemmas.{distinct-repeats, repeats-distinct}

list_any-on : {A B : Type 0} (f : A → B) (p : A → Bool) (q : B → Bool) → ((x : A) → p x ≡ q (f x)) → (xs : List A) → list_any p xs ≡ list_any q (map f xs)
list_any-on f p q same [] = refl
list_any-on f p q same (x ∷ xs) = rw (same x, list_any-on f p q same xs) refl

-- items that are told apart by what is seen of them
pub count-on : {A B : Type 0} (f : A → B) (e : A → A → Bool) (d : B → B → Bool) → ((x y : A) → e x y ≡ d (f x) (f y)) → (xs : List A) → distinct_count e xs ≡ distinct_count d (map f xs)
count-on f e d same [] = refl
count-on f e d same (x ∷ xs) = elim (cases_Bool (list_any (d (f x)) (map f xs))) [
  | inl g ↦ rw (list_any-on f (e x) (d (f x)) (same x) xs, g) (count-on f e d same xs)
  | inr g ↦ rw (list_any-on f (e x) (d (f x)) (same x) xs, g) (ap (λ (n : ℕ). suc n) (count-on f e d same xs))
]

repeats-on : {A B : Type 0} (f : A → B) (e : A → A → Bool) (d : B → B → Bool) → ((x y : A) → e x y ≡ d (f x) (f y)) → (xs : List A) → repeats e xs ≡ repeats d (map f xs)
unfolding repeats
repeats-on f e d same [] = refl
repeats-on f e d same (x ∷ xs) = rw (list_any-on f (e x) (d (f x)) (same x) xs, repeats-on f e d same xs) refl

-- octets are the same
abbrev pub is_same_key : List ℕ → List ℕ → Bool
is_same_key = eq_by_cmp (slice_cmp nat_cmp)

pub same-match : (x y : Keyed) → is_match x y ≡ is_same_key x.key y.key
same-match x y = sym (is_eq-slice_cmp x.key y.key)

-- keys repeat exactly where fewer are distinct
keys-count : (keys : List (List ℕ)) → repeats is_same_key keys ≡ not (distinct_count is_same_key keys == length keys)
keys-count keys = by (cases_Bool (repeats is_same_key keys)) (cases_Bool (distinct_count is_same_key keys == length keys))
  where
    by : ((repeats is_same_key keys ≡ true) ⊎ (repeats is_same_key keys ≡ false)) → (((distinct_count is_same_key keys == length keys) ≡ true) ⊎ ((distinct_count is_same_key keys == length keys) ≡ false)) → repeats is_same_key keys ≡ not (distinct_count is_same_key keys == length keys)
    by (inl r) (inl c) =
        let none = repeats-distinct is_same_key keys (IsDistinct-from_count (eq_by_cmp_equiv nat_list_cmp_total) keys (eqb-true (distinct_count is_same_key keys) (length keys) c)) in
        let no : true ≡ false = sym r ∙ none in
        absurd cc
    by (inl r) (inr c) = r ∙ sym (ap not c)
    by (inr r) (inl c) = r ∙ sym (ap not c)
    by (inr r) (inr c) =
        let all = eq-eqb (distinct_count is_same_key keys) (length keys) (distinct_count-from_IsDistinct (eq_by_cmp_equiv nat_list_cmp_total) keys (distinct-repeats is_same_key keys r)) in
        let no : true ≡ false = sym all ∙ c in
        absurd cc

-- values repeat exactly where fewer are distinct
pub repeats-count : (values : List Keyed) → repeats is_match values ≡ not (distinct_count is_match values == length values)
repeats-count values =
    let keys : List (List ℕ) = map (λ (value : Keyed). value.key) values in
    repeats-on (λ (value : Keyed). value.key) is_match is_same_key same-match values
    ∙ keys-count keys
    ∙ ap (λ (n : ℕ). not (n == length keys)) (sym (count-on (λ (value : Keyed). value.key) is_match is_same_key same-match values))
    ∙ ap (λ (n : ℕ). not (distinct_count is_match values == n)) (length-map values (λ (value : Keyed). value.key))

-- one value doesn't
pub repeats-short : {A : Type 0} (same : A → A → Bool) (xs : List A) → length xs < 2 → repeats same xs ≡ false
unfolding repeats
repeats-short same [] h = refl
repeats-short same (x ∷ []) h = refl
repeats-short same (x ∷ y ∷ xs) h = absurd (omega arith)
