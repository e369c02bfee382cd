-- Either and Then without needless parts name the same texts, and has_empty is exact.
use Rattle.std.proofs.Common.{◌≡◌, ℕ, true, ◌⊎◌, inl, inr, List, [], ◌∷◌, ◌++◌, refl, sym, subst}
use Rattle.std.proofs.lemmas.Bool.{false≢true, and_parts, and_from, or_right, or_left, or_cases}
use Rattle.regular_text.specs.Grammar.{Grammar, Matches}
use Rattle.regular_text.specs.Grammar.Grammar.{Never, Nothing, One, Either, Then, Many}
use Rattle.regular_text.specs.Derivative.{has_empty, either, then_next}

-- a text of one of two grammars is one of both together
pub either-matches : {K : Type 0} (class : ℕ → K) (a b : Grammar K) (text : List ℕ) → Matches class a text ⊎ Matches class b text → Matches class (either a b) text
either-matches class Never b text (inl m) = absurd m
either-matches class Never b text (inr m) = m
either-matches class a Never text (inl m) = m
either-matches class a Never text (inr m) = absurd m
either-matches class a b text m = m

-- and the other way round
pub matches-either : {K : Type 0} (class : ℕ → K) (a b : Grammar K) (text : List ℕ) → Matches class (either a b) text → Matches class a text ⊎ Matches class b text
matches-either class Never b text m = inr m
matches-either class a Never text m = inl m
matches-either class a b text m = m

-- texts of two grammars in a row
pub then-matches : {K : Type 0} (class : ℕ → K) (a b : Grammar K) (front rest : List ℕ) → Matches class a front → Matches class b rest → Matches class (then_next a b) (front ++ rest)
then-matches class Never b front rest m n = absurd m
then-matches class Nothing b front rest m n = rw m n
then-matches class a b front rest m n = (front, rest, refl, m, n)

-- and the other way round
pub matches-then : {K : Type 0} (class : ℕ → K) (a b : Grammar K) (text : List ℕ) → Matches class (then_next a b) text → Matches class (Then a b) text
matches-then class Never b text m = absurd m
matches-then class Nothing b text m = ([], text, refl, refl, m)
matches-then class a b text m = m

-- the two parts of an empty text are empty
pub both_nil : (front rest : List ℕ) → [] ≡ front ++ rest → (front ≡ []) × (rest ≡ [])
both_nil [] rest e = (refl, sym e)
both_nil (x ∷ front) rest e = absurd cc

-- has_empty says no more than the texts of the grammar
pub matches-nil : {K : Type 0} (class : ℕ → K) (g : Grammar K) → has_empty g ≡ true → Matches class g []
matches-nil class Never e = absurd (false≢true e)
matches-nil class Nothing e = refl
matches-nil class (One test) e = absurd (false≢true e)
matches-nil class (Either a b) e =
    elim (or_cases (has_empty a) (has_empty b) e) [ inl l ↦ inl (matches-nil class a l) | inr r ↦ inr (matches-nil class b r) ]
matches-nil class (Then a b) e =
    let both = and_parts (has_empty a) (has_empty b) e in
    ([], [], refl, matches-nil class a both.0, matches-nil class b both.1)
matches-nil class (Many a) e = ([], refl, tt)

-- and no less
pub has_empty-matches : {K : Type 0} (class : ℕ → K) (g : Grammar K) → Matches class g [] → has_empty g ≡ true
has_empty-matches class Never m = absurd m
has_empty-matches class Nothing m = refl
has_empty-matches class (One test) (x, e, t) = absurd cc
has_empty-matches class (Either a b) (inl m) = or_left (has_empty a) (has_empty b) (has_empty-matches class a m)
has_empty-matches class (Either a b) (inr m) = or_right (has_empty a) (has_empty b) (has_empty-matches class b m)
has_empty-matches class (Then a b) (front, rest, e, m, n) =
    let both = both_nil front rest e in
    and_from (has_empty a) (has_empty b)
    (has_empty-matches class a (subst (λ (t : List ℕ). Matches class a t) both.0 m))
    (has_empty-matches class b (subst (λ (t : List ℕ). Matches class b t) both.1 n))
has_empty-matches class (Many a) m = refl
