-- The order of names is total; names are the same, and begin one another, by their types and keys.
use Rattle.std.proofs.Common.{◌≡◌, ℕ, ◌<◌, IsTrue, List, [], ◌∷◌, ◌++◌, map, length, take, drop, refl, sym, ap, ◌∙◌, arith, inl, inr, Ordering}
use Rattle.std.specs.Prelude.{◌↔◌}
use Rattle.std.specs.Ordering.{nat_cmp, ordering_then, is_eq, ordering_reverse}
use Rattle.std.specs.declared.cmp.Ordering.TheVariants.{Less, Equal, Greater}
use Rattle.std.specs.Cmp.{IsTotalOrder, nat_cmp_is, nat_cmp_total, on_total, then_total}
use Rattle.std.specs.Cmp.Lexicographic.{slice_cmp, lists_total, on_texts}
use Rattle.std.proofs.lemmas.List.{map-id, take-map, take-append-drop, take_at, map-append, length-map}
use Rattle.base_laws.proofs.Theorems.{both_equal}
use Rattle.dn_names.specs.name.Names.{TypeAndValue, RdnSequence}
use Rattle.dn_names.specs.NameOrder.{pair_cmp, rdn_cmp, name_cmp, is_same, is_prefix_of, type_and_key, types_and_keys}
use Rattle.dn_names.proofs.parsing.OrderedLemmas.{which_first}

pair_total : IsTotalOrder pair_cmp
pair_total = then_total (on_total (λ (p : TypeAndValue). p.kind) nat_cmp_total) (on_texts (λ (p : TypeAndValue). p.value.key))

-- the order of names is total
pub name_cmp_total : IsTotalOrder name_cmp
unfolding name_cmp
name_cmp_total = lists_total (lists_total pair_total)

-- lists that tie are the same in what ties their elements
pub equal_same : {A B : Type 0} (R : A → A → Ordering) (f : A → B) → ((x y : A) → R x y ≡ Equal → f x ≡ f y) → (xs ys : List A) → slice_cmp R xs ys ≡ Equal → map f xs ≡ map f ys
equal_same R f each [] [] e = refl
equal_same R f each [] (y ∷ ys) e = absurd cc
equal_same R f each (x ∷ xs) [] e = absurd cc
equal_same R f each (x ∷ xs) (y ∷ ys) e =
    let both = both_equal (R x y) (slice_cmp R xs ys) e in
    let head = each x y both.0 in
    let tail = equal_same R f each xs ys both.1 in
    cc

same_equal : {A B : Type 0} (R : A → A → Ordering) (f : A → B) → ((x y : A) → f x ≡ f y → R x y ≡ Equal) → (xs ys : List A) → map f xs ≡ map f ys → slice_cmp R xs ys ≡ Equal
same_equal R f each [] [] e = refl
same_equal R f each [] (y ∷ ys) e = absurd cc
same_equal R f each (x ∷ xs) [] e = absurd cc
same_equal R f each (x ∷ xs) (y ∷ ys) e =
    let head : f x ≡ f y = cc in
    let tail : map f xs ≡ map f ys = cc in
    ap (λ o. ordering_then o (slice_cmp R xs ys)) (each x y head) ∙ same_equal R f each xs ys tail

-- numbers that tie are equal
pub nat_equal : (x y : ℕ) → nat_cmp x y ≡ Equal → x ≡ y
nat_equal x y e = elim (which_first x y) [
  | inl less ↦ (let is : Less ≡ nat_cmp x y = nat_cmp_is x y Less less in let clash = is ∙ e in absurd cc)
  | inr (inl same) ↦ same
  | inr (inr more) ↦ (let is : Greater ≡ nat_cmp x y = nat_cmp_is x y Greater more in let clash = is ∙ e in absurd cc)
]

equal_nat : (x y : ℕ) → x ≡ y → nat_cmp x y ≡ Equal
equal_nat x y e = sym (nat_cmp_is x y Equal e)

pair_same : (p q : TypeAndValue) → pair_cmp p q ≡ Equal → type_and_key p ≡ type_and_key q
pair_same p q e =
    let both = both_equal (nat_cmp p.kind q.kind) (slice_cmp nat_cmp p.value.key q.value.key) e in
    let kind = nat_equal p.kind q.kind both.0 in
    let key : p.value.key ≡ q.value.key = sym (map-id p.value.key) ∙ equal_same nat_cmp (λ x. x) nat_equal p.value.key q.value.key both.1 ∙ map-id q.value.key in
    rw (kind, key)

same_pair : (p q : TypeAndValue) → type_and_key p ≡ type_and_key q → pair_cmp p q ≡ Equal
same_pair p q e =
    let kind : p.kind ≡ q.kind = ap (λ (r : ℕ × List ℕ). r.0) e in
    let key : p.value.key ≡ q.value.key = ap (λ (r : ℕ × List ℕ). r.1) e in
    ap (λ o. ordering_then o (slice_cmp nat_cmp p.value.key q.value.key)) (equal_nat p.kind q.kind kind)
    ∙ same_equal nat_cmp (λ x. x) equal_nat p.value.key q.value.key (map-id p.value.key ∙ key ∙ sym (map-id q.value.key))

-- names are the same where their types and keys are
pub is_same-types_and_keys : (one other : RdnSequence) → IsTrue (is_same one other) ↔ (types_and_keys one ≡ types_and_keys other)
unfolding is_same name_cmp
is_same-types_and_keys one other = (
  (λ e. equal_same rdn_cmp (map type_and_key) (λ x y h. equal_same pair_cmp type_and_key pair_same x y h) one other (equal_is (name_cmp one other) e)),
  λ e. ap is_eq (same_equal rdn_cmp (map type_and_key) (λ x y h. same_equal pair_cmp type_and_key same_pair x y h) one other e),
)
  where
    equal_is : (o : Ordering) → IsTrue (is_eq o) → o ≡ Equal
    equal_is Less e = absurd cc
    equal_is Equal e = refl
    equal_is Greater e = absurd cc

-- a name begins another where its types and keys do
pub is_prefix_of-types_and_keys : (front name : RdnSequence) → IsTrue (is_prefix_of front name) ↔ ((rest : List (List (ℕ × List ℕ))) × (types_and_keys name ≡ types_and_keys front ++ rest))
unfolding is_prefix_of
is_prefix_of-types_and_keys front name = (
  (λ e. (
    types_and_keys (drop (length front) name),
    ap types_and_keys (sym (take-append-drop (length front) name))
        ∙ map-append (map type_and_key) (take (length front) name) (drop (length front) name)
        ∙ ap (λ t. t ++ types_and_keys (drop (length front) name)) ((is_same-types_and_keys (take (length front) name) front).0 e),
  )),
  λ (rest, e). (is_same-types_and_keys (take (length front) name) front).1
      (sym (take-map (map type_and_key) (length front) name)
      ∙ ap (take (length front)) e
      ∙ take_at (types_and_keys front) rest (length front) (length-map front (map type_and_key))),
)

prefix_less : {A : Type 0} (R : A → A → Ordering) → ((x y : A) → R x y ≡ Equal → R y x ≡ Equal) → (xs ys : List A) → slice_cmp R (take (length ys) xs) ys ≡ Equal → length ys < length xs → slice_cmp R ys xs ≡ Less
prefix_less R turn [] ys e h = absurd (omega arith)
prefix_less R turn (x ∷ xs) [] e h = refl
prefix_less R turn (x ∷ xs) (y ∷ ys) e h =
    let both = both_equal (R x y) (slice_cmp R (take (length ys) xs) ys) e in
    ap (λ o. ordering_then o (slice_cmp R ys xs)) (turn x y both.0) ∙ prefix_less R turn xs ys both.1 (omega arith)

turned : {A : Type 0} {R : A → A → Ordering} → IsTotalOrder R → (x y : A) → R x y ≡ Equal → R y x ≡ Equal
turned o x y e = o.antisymm y x ∙ ap ordering_reverse e

-- a proper prefix comes first
pub name_cmp-prefix : (front name : RdnSequence) → IsTrue (is_prefix_of front name) → length front < length name → name_cmp front name ≡ Less
unfolding is_prefix_of is_same name_cmp
name_cmp-prefix front name e h = prefix_less rdn_cmp (turned (lists_total pair_total)) name front (equal_is (name_cmp (take (length front) name) front) e) h
  where
    equal_is : (o : Ordering) → IsTrue (is_eq o) → o ≡ Equal
    equal_is Less e = absurd cc
    equal_is Equal e = refl
    equal_is Greater e = absurd cc
