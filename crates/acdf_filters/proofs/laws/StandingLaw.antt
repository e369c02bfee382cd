-- The running state is that of the filters.
use Rattle.std.proofs.Common.{◌≡◌, ◌⊎◌, inl, inr, ℕ, ◌<◌, ◌≤◌, Bool, true, false, ◌||◌, ◌&&◌, List, [], ◌∷◌, ◌++◌, map, filter, refl, sym, ap, subst, ◌∙◌, arith}
use Rattle.std.specs.Prelude.{fold, nat_lt, cond}
use Rattle.std.specs.List.{list_any, list_all}
use Rattle.std.proofs.Math.Bool.{or-false, and-true}
use Rattle.std.proofs.lemmas.Bool.{cases_Bool, cases_order, cond-true, cond-false, lt-ltb, le-ltb, or_right, or_from}
use Rattle.std.proofs.lemmas.List.{append_assoc, append-nil}
use Rattle.std.proofs.lemmas.List.Elements.{filter-append}
use Rattle.std.proofs.lemmas.List.Folds.{list_all-append}
use Rattle.acdf_filters.specs.users.Choices.{greatest, least, highest, lowest, passing_or_all, is_filled}
use Rattle.acdf_filters.specs.weighing.LastFilters.{Keys}
use Rattle.acdf_filters.specs.Standing.{initial, alone, with_like, with_item, with_class, with_one, standing, weighed}
use Rattle.acdf_filters.specs.declared.standing.Standing.{Standing}
use Rattle.acdf_filters.proofs.laws.ChoiceLemmas.{highest-above, highest-below, highest-same, lowest-below, lowest-above, lowest-same, greatest-append, least-append, is_filled-append, any-append, passing-both, passing-first, passing-later, passing-neither, passing-one}

-- the state of those that are left
abbrev state : {A : Type 0} → Keys A → ℕ → ℕ → Bool → List A → Standing
state keys precedence rank explicit xs = record {
  filled = is_filled xs;
  precedence = precedence;
  rank = rank;
  explicit = explicit;
  grants = list_all keys.grants xs;
}

-- of those of one precedence and class
abbrev at_item : {A : Type 0} → Keys A → ℕ → ℕ → List A → Standing
at_item keys precedence rank zs = state keys precedence rank (list_any keys.explicit zs) (passing_or_all keys.explicit zs)

-- of those of one precedence
abbrev at_class : {A : Type 0} → Keys A → ℕ → List A → Standing
at_class keys precedence ys = at_item keys precedence (least (map keys.rank ys)) (lowest keys.rank ys)

same_state : {A : Type 0} (keys : Keys A) (p r : ℕ) (b c : Bool) (xs ys : List A) → b ≡ c → xs ≡ ys → state keys p r b xs ≡ state keys p r c ys
same_state keys p r b c xs ys e f = ap (λ d. state keys p r d xs) e ∙ ap (λ zs. state keys p r c zs) f

same_item : {A : Type 0} (keys : Keys A) (p r q : ℕ) (xs ys : List A) → r ≡ q → xs ≡ ys → at_item keys p r xs ≡ at_item keys p q ys
same_item keys p r q xs ys e f = ap (λ n. at_item keys p n xs) e ∙ ap (λ zs. at_item keys p q zs) f

same_class : {A : Type 0} (keys : Keys A) (p q : ℕ) (xs ys : List A) → p ≡ q → xs ≡ ys → at_class keys p xs ≡ at_class keys q ys
same_class keys p q xs ys e f = ap (λ n. at_class keys n xs) e ∙ ap (λ zs. at_class keys q zs) f

-- one that is like those seen
like-one : {A : Type 0} (keys : Keys A) (x : A) (p r : ℕ) (b : Bool) (xs : List A)
    → with_like (alone keys x) (state keys p r b xs) ≡ state keys (keys.precedence x) (keys.rank x) (keys.explicit x) (xs ++ x ∷ [])
like-one keys x p r b xs =
    let filled = is_filled-append xs x in
    let all : list_all keys.grants (xs ++ x ∷ []) ≡ (list_all keys.grants xs && keys.grants x) =
    list_all-append keys.grants xs (x ∷ []) ∙ ap (λ d. list_all keys.grants xs && d) (and-true (keys.grants x)) in
    rw (filled, all) refl

-- one tuple
alone-state : {A : Type 0} (keys : Keys A) (x : A) → alone keys x ≡ state keys (keys.precedence x) (keys.rank x) (keys.explicit x) (x ∷ [])
alone-state keys x = rw (and-true (keys.grants x)) refl

alone-item : {A : Type 0} (keys : Keys A) (x : A) → alone keys x ≡ at_item keys (keys.precedence x) (keys.rank x) (x ∷ [])
alone-item keys x =
    alone-state keys x
    ∙ same_state keys (keys.precedence x) (keys.rank x) (keys.explicit x) (list_any keys.explicit (x ∷ [])) (x ∷ []) (passing_or_all keys.explicit (x ∷ [])) (sym (or-false (keys.explicit x))) (sym (passing-one keys.explicit x))

-- the last filter
item-like : {A : Type 0} (keys : Keys A) (x : A) (zs : List A)
    → with_item (alone keys x) (at_item keys (keys.precedence x) (keys.rank x) zs) ≡ at_item keys (keys.precedence x) (keys.rank x) (zs ++ x ∷ [])
item-like keys x zs = by (cases_Bool (keys.explicit x)) (cases_Bool (list_any keys.explicit zs))
  where
    by : ((keys.explicit x ≡ true) ⊎ (keys.explicit x ≡ false)) → ((list_any keys.explicit zs ≡ true) ⊎ (list_any keys.explicit zs ≡ false))
        → with_item (alone keys x) (at_item keys (keys.precedence x) (keys.rank x) zs) ≡ at_item keys (keys.precedence x) (keys.rank x) (zs ++ x ∷ [])
    by (inl e) (inl any) =
        let one = alone keys x in
        let seen = at_item keys (keys.precedence x) (keys.rank x) zs in
        let named : keys.explicit x ≡ list_any keys.explicit (zs ++ x ∷ []) = e ∙ sym (any-append keys.explicit zs x ∙ or_right (list_any keys.explicit zs) (keys.explicit x) e) in
        cond-true (keys.explicit x) (cond (list_any keys.explicit zs) (with_like one seen) one) (cond (list_any keys.explicit zs) seen (with_like one seen)) e
        ∙ cond-true (list_any keys.explicit zs) (with_like one seen) one any
        ∙ like-one keys x (keys.precedence x) (keys.rank x) (list_any keys.explicit zs) (passing_or_all keys.explicit zs)
        ∙ same_state keys (keys.precedence x) (keys.rank x) (keys.explicit x) (list_any keys.explicit (zs ++ x ∷ [])) (passing_or_all keys.explicit zs ++ x ∷ []) (passing_or_all keys.explicit (zs ++ x ∷ [])) named (sym (passing-both keys.explicit zs x e any))
    by (inl e) (inr any) =
        let one = alone keys x in
        let seen = at_item keys (keys.precedence x) (keys.rank x) zs in
        let named : keys.explicit x ≡ list_any keys.explicit (zs ++ x ∷ []) = e ∙ sym (any-append keys.explicit zs x ∙ or_right (list_any keys.explicit zs) (keys.explicit x) e) in
        cond-true (keys.explicit x) (cond (list_any keys.explicit zs) (with_like one seen) one) (cond (list_any keys.explicit zs) seen (with_like one seen)) e
        ∙ cond-false (list_any keys.explicit zs) (with_like one seen) one any
        ∙ alone-state keys x
        ∙ same_state keys (keys.precedence x) (keys.rank x) (keys.explicit x) (list_any keys.explicit (zs ++ x ∷ [])) (x ∷ []) (passing_or_all keys.explicit (zs ++ x ∷ [])) named (sym (passing-first keys.explicit zs x e any))
    by (inr e) (inl any) =
        let one = alone keys x in
        let seen = at_item keys (keys.precedence x) (keys.rank x) zs in
        let named : list_any keys.explicit zs ≡ list_any keys.explicit (zs ++ x ∷ []) = sym (any-append keys.explicit zs x ∙ ap (λ b. list_any keys.explicit zs || b) e ∙ or-false (list_any keys.explicit zs)) in
        cond-false (keys.explicit x) (cond (list_any keys.explicit zs) (with_like one seen) one) (cond (list_any keys.explicit zs) seen (with_like one seen)) e
        ∙ cond-true (list_any keys.explicit zs) seen (with_like one seen) any
        ∙ same_state keys (keys.precedence x) (keys.rank x) (list_any keys.explicit zs) (list_any keys.explicit (zs ++ x ∷ [])) (passing_or_all keys.explicit zs) (passing_or_all keys.explicit (zs ++ x ∷ [])) named (sym (passing-later keys.explicit zs x e any))
    by (inr e) (inr any) =
        let one = alone keys x in
        let seen = at_item keys (keys.precedence x) (keys.rank x) zs in
        let named : keys.explicit x ≡ list_any keys.explicit (zs ++ x ∷ []) = e ∙ sym (any-append keys.explicit zs x ∙ or_from (list_any keys.explicit zs) (keys.explicit x) any e) in
        cond-false (keys.explicit x) (cond (list_any keys.explicit zs) (with_like one seen) one) (cond (list_any keys.explicit zs) seen (with_like one seen)) e
        ∙ cond-false (list_any keys.explicit zs) seen (with_like one seen) any
        ∙ like-one keys x (keys.precedence x) (keys.rank x) (list_any keys.explicit zs) (passing_or_all keys.explicit zs)
        ∙ same_state keys (keys.precedence x) (keys.rank x) (keys.explicit x) (list_any keys.explicit (zs ++ x ∷ [])) (passing_or_all keys.explicit zs ++ x ∷ []) (passing_or_all keys.explicit (zs ++ x ∷ [])) named (sym (passing-neither keys.explicit zs x e any))

item-one : {A : Type 0} (keys : Keys A) (x : A) (p r : ℕ) (zs : List A) → keys.precedence x ≡ p → keys.rank x ≡ r
    → with_item (alone keys x) (at_item keys p r zs) ≡ at_item keys p r (zs ++ x ∷ [])
item-one keys x p r zs e f =
    subst (λ (n : ℕ). with_item (alone keys x) (at_item keys n r zs) ≡ at_item keys n r (zs ++ x ∷ [])) e
    (subst (λ (n : ℕ). with_item (alone keys x) (at_item keys (keys.precedence x) n zs) ≡ at_item keys (keys.precedence x) n (zs ++ x ∷ [])) f (item-like keys x zs))

-- the filter before it
class-one : {A : Type 0} (keys : Keys A) → ((y : A) → keys.rank y ≤ 3) → (x : A) (p : ℕ) (ys : List A) → keys.precedence x ≡ p
    → with_class (alone keys x) (at_class keys p ys) ≡ at_class keys p (ys ++ x ∷ [])
class-one keys ranks x p ys e = by (cases_order (keys.rank x) (least (map keys.rank ys)))
  where
    by : ((keys.rank x ≡ least (map keys.rank ys)) ⊎ ((keys.rank x < least (map keys.rank ys)) ⊎ (least (map keys.rank ys) < keys.rank x)))
        → with_class (alone keys x) (at_class keys p ys) ≡ at_class keys p (ys ++ x ∷ [])
    by (inl same) =
        let one = alone keys x in
        let seen = at_class keys p ys in
        let left : least (map keys.rank ys) ≡ least (map keys.rank (ys ++ x ∷ [])) = omega (arith, least-append keys.rank ys x) in
        cond-false (nat_lt (keys.rank x) (least (map keys.rank ys))) one (cond (nat_lt (least (map keys.rank ys)) (keys.rank x)) seen (with_item one seen)) (le-ltb (keys.rank x) (least (map keys.rank ys)) (omega arith))
        ∙ cond-false (nat_lt (least (map keys.rank ys)) (keys.rank x)) seen (with_item one seen) (le-ltb (least (map keys.rank ys)) (keys.rank x) (omega arith))
        ∙ item-one keys x p (least (map keys.rank ys)) (lowest keys.rank ys) e same
        ∙ same_item keys p (least (map keys.rank ys)) (least (map keys.rank (ys ++ x ∷ []))) (lowest keys.rank ys ++ x ∷ []) (lowest keys.rank (ys ++ x ∷ [])) left (sym (lowest-same keys.rank ranks ys x same))
    by (inr (inl below)) =
        let one = alone keys x in
        let seen = at_class keys p ys in
        let left : keys.rank x ≡ least (map keys.rank (ys ++ x ∷ [])) = omega (arith, least-append keys.rank ys x) in
        cond-true (nat_lt (keys.rank x) (least (map keys.rank ys))) one (cond (nat_lt (least (map keys.rank ys)) (keys.rank x)) seen (with_item one seen)) (lt-ltb (keys.rank x) (least (map keys.rank ys)) below)
        ∙ alone-item keys x
        ∙ ap (λ n. at_item keys n (keys.rank x) (x ∷ [])) e
        ∙ same_item keys p (keys.rank x) (least (map keys.rank (ys ++ x ∷ []))) (x ∷ []) (lowest keys.rank (ys ++ x ∷ [])) left (sym (lowest-below keys.rank ranks ys x below))
    by (inr (inr above)) =
        let one = alone keys x in
        let seen = at_class keys p ys in
        let left : least (map keys.rank ys) ≡ least (map keys.rank (ys ++ x ∷ [])) = omega (arith, least-append keys.rank ys x) in
        cond-false (nat_lt (keys.rank x) (least (map keys.rank ys))) one (cond (nat_lt (least (map keys.rank ys)) (keys.rank x)) seen (with_item one seen)) (le-ltb (keys.rank x) (least (map keys.rank ys)) (omega arith))
        ∙ cond-true (nat_lt (least (map keys.rank ys)) (keys.rank x)) seen (with_item one seen) (lt-ltb (least (map keys.rank ys)) (keys.rank x) above)
        ∙ same_item keys p (least (map keys.rank ys)) (least (map keys.rank (ys ++ x ∷ []))) (lowest keys.rank ys) (lowest keys.rank (ys ++ x ∷ [])) left (sym (lowest-above keys.rank ranks ys x above))

-- one tuple, by the last two filters
alone-class : {A : Type 0} (keys : Keys A) → ((y : A) → keys.rank y ≤ 3) → (x : A) → alone keys x ≡ at_class keys (keys.precedence x) (x ∷ [])
alone-class keys ranks x =
    let within = ranks x in
    let left : keys.rank x ≡ least (map keys.rank (x ∷ [])) = omega arith in
    let whole : lowest keys.rank (x ∷ []) ≡ x ∷ [] = elim (cases_order (keys.rank x) 3) [
      | inl same ↦ lowest-same keys.rank ranks [] x same
      | inr (inl below) ↦ lowest-below keys.rank ranks [] x below
      | inr (inr above) ↦ absurd (omega arith)
    ] in
    alone-item keys x ∙ same_item keys (keys.precedence x) (keys.rank x) (least (map keys.rank (x ∷ []))) (x ∷ []) (lowest keys.rank (x ∷ [])) left (sym whole)

-- all three
pub with_one-standing : {A : Type 0} (keys : Keys A) → ((y : A) → keys.rank y ≤ 3) → (x : A) (xs : List A)
    → with_one (alone keys x) (standing keys xs) ≡ standing keys (xs ++ x ∷ [])
with_one-standing keys ranks x xs = by (cases_order (keys.precedence x) (greatest (map keys.precedence xs)))
  where
    by : ((keys.precedence x ≡ greatest (map keys.precedence xs)) ⊎ ((keys.precedence x < greatest (map keys.precedence xs)) ⊎ (greatest (map keys.precedence xs) < keys.precedence x)))
        → with_one (alone keys x) (standing keys xs) ≡ standing keys (xs ++ x ∷ [])
    by (inl same) =
        let one = alone keys x in
        let seen = standing keys xs in
        let top = greatest (map keys.precedence xs) in
        let left : greatest (map keys.precedence xs) ≡ greatest (map keys.precedence (xs ++ x ∷ [])) = omega (arith, greatest-append keys.precedence xs x) in
        cond-false (nat_lt top (keys.precedence x)) one (cond (nat_lt (keys.precedence x) top) seen (with_class one seen)) (le-ltb top (keys.precedence x) (omega arith))
        ∙ cond-false (nat_lt (keys.precedence x) top) seen (with_class one seen) (le-ltb (keys.precedence x) top (omega arith))
        ∙ class-one keys ranks x top (highest keys.precedence xs) same
        ∙ same_class keys top (greatest (map keys.precedence (xs ++ x ∷ []))) (highest keys.precedence xs ++ x ∷ []) (highest keys.precedence (xs ++ x ∷ [])) left (sym (highest-same keys.precedence xs x same))
    by (inr (inl below)) =
        let one = alone keys x in
        let seen = standing keys xs in
        let top = greatest (map keys.precedence xs) in
        let left : greatest (map keys.precedence xs) ≡ greatest (map keys.precedence (xs ++ x ∷ [])) = omega (arith, greatest-append keys.precedence xs x) in
        cond-false (nat_lt top (keys.precedence x)) one (cond (nat_lt (keys.precedence x) top) seen (with_class one seen)) (le-ltb top (keys.precedence x) (omega arith))
        ∙ cond-true (nat_lt (keys.precedence x) top) seen (with_class one seen) (lt-ltb (keys.precedence x) top below)
        ∙ same_class keys top (greatest (map keys.precedence (xs ++ x ∷ []))) (highest keys.precedence xs) (highest keys.precedence (xs ++ x ∷ [])) left (sym (highest-below keys.precedence xs x below))
    by (inr (inr above)) =
        let one = alone keys x in
        let seen = standing keys xs in
        let top = greatest (map keys.precedence xs) in
        let left : keys.precedence x ≡ greatest (map keys.precedence (xs ++ x ∷ [])) = omega (arith, greatest-append keys.precedence xs x) in
        cond-true (nat_lt top (keys.precedence x)) one (cond (nat_lt (keys.precedence x) top) seen (with_class one seen)) (lt-ltb top (keys.precedence x) above)
        ∙ alone-class keys ranks x
        ∙ same_class keys (keys.precedence x) (greatest (map keys.precedence (xs ++ x ∷ []))) (x ∷ []) (highest keys.precedence (xs ++ x ∷ [])) left (sym (highest-above keys.precedence xs x above))

-- one tuple weighed after others
weighed-one : {A : Type 0} (keys : Keys A) (passes : A → Bool) → ((y : A) → keys.rank y ≤ 3) → (front : List A) (x : A)
    → weighed keys passes (standing keys (filter passes front)) x ≡ standing keys (filter passes (front ++ x ∷ []))
weighed-one keys passes ranks front x = elim (cases_Bool (passes x)) [
  | inl e ↦
      cond-true (passes x) (with_one (alone keys x) (standing keys (filter passes front))) (standing keys (filter passes front)) e
      ∙ with_one-standing keys ranks x (filter passes front)
      ∙ ap (standing keys) (sym (filter-append passes front (x ∷ []) ∙ ap (λ ys. filter passes front ++ ys) (cond-true (passes x) (x ∷ []) [] e)))
  | inr e ↦
      cond-false (passes x) (with_one (alone keys x) (standing keys (filter passes front))) (standing keys (filter passes front)) e
      ∙ ap (standing keys) (sym (filter-append passes front (x ∷ []) ∙ ap (λ ys. filter passes front ++ ys) (cond-false (passes x) (x ∷ []) [] e) ∙ append-nil (filter passes front)))
]

-- all of them
pub fold-weighed-from : {A : Type 0} (keys : Keys A) (passes : A → Bool) → ((y : A) → keys.rank y ≤ 3) → (front xs : List A)
    → fold (weighed keys passes) (standing keys (filter passes front)) xs ≡ standing keys (filter passes (front ++ xs))
fold-weighed-from keys passes ranks front [] = ap (λ ys. standing keys (filter passes ys)) (sym (append-nil front))
fold-weighed-from keys passes ranks front (x ∷ xs) =
    ap (λ seen. fold (weighed keys passes) seen xs) (weighed-one keys passes ranks front x)
    ∙ fold-weighed-from keys passes ranks (front ++ x ∷ []) xs
    ∙ ap (λ ys. standing keys (filter passes ys)) (append_assoc front (x ∷ []) xs)

pub fold-weighed : {A : Type 0} (keys : Keys A) (passes : A → Bool) → ((y : A) → keys.rank y ≤ 3) → (xs : List A)
    → fold (weighed keys passes) initial xs ≡ standing keys (filter passes xs)
fold-weighed keys passes ranks xs = fold-weighed-from keys passes ranks [] xs
