-- The order of keys, and which key is before another.
use Rattle.std.proofs.Common.{inl, inr, ◌≡◌, ◌<◌, ℕ, List, [], ◌∷◌, refl, ap, ap₂, subst}
use Rattle.std.proofs.lemmas.Cmp.{ranked}
use Rattle.std.specs.Cmp.Lexicographic.{slice_cmp}
use Rattle.std.specs.Ordering.{MatchOrdering, nat_cmp, ordering_then}
use Rattle.std.specs.declared.cmp.Ordering.{Ordering}
use Rattle.std.specs.declared.cmp.Ordering.TheVariants.{Less, Equal, Greater}
use Rattle.match_rules.specs.Laws.{IsBefore}

-- one octet more before both
IsBefore-cons : (octet : ℕ) (left right : List ℕ) → IsBefore left right → IsBefore (octet ∷ left) (octet ∷ right)
IsBefore-cons octet left right (inl behind) = inl (behind.0, behind.1, ap (λ octets. octet ∷ octets) behind.2)
IsBefore-cons octet left right (inr differ) =
    inr (octet ∷ differ.0, differ.1, differ.2, differ.3, differ.4, differ.5, ap (λ octets. octet ∷ octets) differ.6, ap (λ octets. octet ∷ octets) differ.7)

-- the first octets decide, or else what is behind them
by_first : (first second : ℕ) (left right : List ℕ) (here rest : Ordering) → MatchOrdering here (first < second) (first ≡ second) (second < first)
    → MatchOrdering rest (IsBefore left right) (left ≡ right) (IsBefore right left)
    → MatchOrdering (ordering_then here rest) (IsBefore (first ∷ left) (second ∷ right)) (first ∷ left ≡ second ∷ right) (IsBefore (second ∷ right) (first ∷ left))
by_first first second left right Less rest is behind = inr ([], left, right, first, second, is, refl, refl)
by_first first second left right Equal Less is behind =
    subst (λ octet. IsBefore (first ∷ left) (octet ∷ right)) is (IsBefore-cons first left right behind)
by_first first second left right Equal Equal is behind = ap₂ ◌∷◌ is behind
by_first first second left right Equal Greater is behind =
    subst (λ octet. IsBefore (octet ∷ right) (first ∷ left)) is (IsBefore-cons first right left behind)
by_first first second left right Greater rest is behind = inr ([], right, left, second, first, is, refl, refl)

-- the order says which key is before the other
pub slice_cmp-IsBefore : (left right : List ℕ) → MatchOrdering (slice_cmp nat_cmp left right) (IsBefore left right) (left ≡ right) (IsBefore right left)
slice_cmp-IsBefore [] [] = refl
slice_cmp-IsBefore [] (second ∷ right) = inl (second, right, refl)
slice_cmp-IsBefore (first ∷ left) [] = inl (first, left, refl)
slice_cmp-IsBefore (first ∷ left) (second ∷ right) =
    by_first first second left right (nat_cmp first second) (slice_cmp nat_cmp left right) (ranked first second (nat_cmp first second) refl) (slice_cmp-IsBefore left right)
