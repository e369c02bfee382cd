-- A text follows an octet of a class in the derivative exactly where both together are in the grammar.
use Rattle.std.proofs.Common.{◌≡◌, ℕ, Bool, true, false, inl, inr, List, [], ◌∷◌, ◌++◌, refl, sym, ap, subst, ◌∙◌}
use Rattle.std.specs.Prelude.{if◌then◌else◌}
use Rattle.std.specs.List.{AllByRecursion, concat}
use Rattle.std.proofs.lemmas.Bool.{false≢true}
use Rattle.regular_text.specs.Grammar.{Grammar, Matches}
use Rattle.regular_text.specs.Grammar.Grammar.{Never, Nothing, One, Either, Then, Many}
use Rattle.regular_text.specs.Derivative.{has_empty, either, then_next, after}
use Rattle.regular_text.proofs.laws.GrammarLemmas.{either-matches, matches-either, then-matches, matches-then, matches-nil, has_empty-matches}

one_step : {K : Type 0} (class : ℕ → K) (test : K → Bool) (x : ℕ) (text : List ℕ) (passes : Bool) → test (class x) ≡ passes → Matches class (if passes then Nothing else Never) text → Matches class (One test) (x ∷ text)
one_step class test x text true e m = (x, ap (λ t. x ∷ t) m, e)
one_step class test x text false e m = absurd m

then_step : {K : Type 0} (class : ℕ → K) (a b : Grammar K) (k : K) (x : ℕ) (text : List ℕ) (empty : Bool) → has_empty a ≡ empty → ((t : List ℕ) → Matches class (after k a) t → Matches class a (x ∷ t)) → ((t : List ℕ) → Matches class (after k b) t → Matches class b (x ∷ t)) → Matches class (if empty then either (then_next (after k a) b) (after k b) else then_next (after k a) b) text → Matches class (Then a b) (x ∷ text)
then_step class a b k x text true e in_a in_b m =
    elim (matches-either class (then_next (after k a) b) (after k b) text m) [
      | inl l ↦ (let w = matches-then class (after k a) b text l in (x ∷ w.0, w.1, ap (λ t. x ∷ t) w.2, in_a w.0 w.3, w.4))
      | inr r ↦ ([], x ∷ text, refl, matches-nil class a e, in_b text r)
    ]
then_step class a b k x text false e in_a in_b m =
    let w = matches-then class (after k a) b text m in (x ∷ w.0, w.1, ap (λ t. x ∷ t) w.2, in_a w.0 w.3, w.4)

-- what follows in the derivative follows in the grammar
pub matches-cons : {K : Type 0} (class : ℕ → K) (g : Grammar K) (x : ℕ) (text : List ℕ) → Matches class (after (class x) g) text → Matches class g (x ∷ text)
matches-cons class Never x text m = absurd m
matches-cons class Nothing x text m = absurd m
matches-cons class (One test) x text m = one_step class test x text (test (class x)) refl m
matches-cons class (Either a b) x text m =
    elim (matches-either class (after (class x) a) (after (class x) b) text m) [
      | inl l ↦ inl (matches-cons class a x text l)
      | inr r ↦ inr (matches-cons class b x text r)
    ]
matches-cons class (Then a b) x text m =
    then_step class a b (class x) x text (has_empty a) refl (λ t h. matches-cons class a x t h) (λ t h. matches-cons class b x t h) m
matches-cons class (Many a) x text m =
    let w = matches-then class (after (class x) a) (Many a) text m in
    ((x ∷ w.0) ∷ w.4.0, ap (λ t. x ∷ t) (w.2 ∙ ap (λ t. w.0 ++ t) w.4.1), (matches-cons class a x w.0 w.3, w.4.2))

if_true : {K : Type 0} (class : ℕ → K) (passes : Bool) (text : List ℕ) → passes ≡ true → text ≡ [] → Matches class (if passes then Nothing else Never) text
if_true class true text e nil = nil
if_true class false text e nil = absurd (false≢true e)

-- after a first octet of the first part
then_after : {K : Type 0} (class : ℕ → K) (a b : Grammar K) (k : K) (front rest : List ℕ) (empty : Bool) → Matches class (after k a) front → Matches class b rest → Matches class (if empty then either (then_next (after k a) b) (after k b) else then_next (after k a) b) (front ++ rest)
then_after class a b k front rest true m n =
    either-matches class (then_next (after k a) b) (after k b) (front ++ rest) (inl (then-matches class (after k a) b front rest m n))
then_after class a b k front rest false m n = then-matches class (after k a) b front rest m n

-- where the first part is empty
skip_after : {K : Type 0} (class : ℕ → K) (a b : Grammar K) (k : K) (text : List ℕ) (empty : Bool) → empty ≡ true → Matches class (after k b) text → Matches class (if empty then either (then_next (after k a) b) (after k b) else then_next (after k a) b) text
skip_after class a b k text true e m = either-matches class (then_next (after k a) b) (after k b) text (inr m)
skip_after class a b k text false e m = absurd (false≢true e)

-- of the parts of a text that isn't empty, the first that isn't empty has the first octet
many_after : {K : Type 0} (class : ℕ → K) (a : Grammar K) (k : K) (x : ℕ) (text : List ℕ) (parts : List (List ℕ)) → ((t : List ℕ) → Matches class a (x ∷ t) → Matches class (after k a) t) → x ∷ text ≡ concat parts → AllByRecursion (Matches class a) parts → Matches class (then_next (after k a) (Many a)) text
many_after class a k x text [] in_a e all = absurd cc
many_after class a k x text ([] ∷ parts) in_a e all = many_after class a k x text parts in_a e all.1
many_after class a k x text ((y ∷ ys) ∷ parts) in_a e all =
    let same_head : y ≡ x = cc in
    let tail : ys ++ concat parts ≡ text = cc in
    let first = subst (λ (z : ℕ). Matches class a (z ∷ ys)) same_head all.0 in
    subst (λ (t : List ℕ). Matches class (then_next (after k a) (Many a)) t) tail
    (then-matches class (after k a) (Many a) ys (concat parts) (in_a ys first) (parts, refl, all.1))

-- what follows in the grammar follows in the derivative
pub matches-after : {K : Type 0} (class : ℕ → K) (g : Grammar K) (x : ℕ) (text : List ℕ) → Matches class g (x ∷ text) → Matches class (after (class x) g) text
matches-after class Never x text m = absurd m
matches-after class Nothing x text m = absurd cc
matches-after class (One test) x text (y, e, t) =
    let same_head : y ≡ x = cc in
    let nil : text ≡ [] = cc in
    if_true class (test (class x)) text (subst (λ (z : ℕ). test (class z) ≡ true) same_head t) nil
matches-after class (Either a b) x text (inl m) =
    either-matches class (after (class x) a) (after (class x) b) text (inl (matches-after class a x text m))
matches-after class (Either a b) x text (inr m) =
    either-matches class (after (class x) a) (after (class x) b) text (inr (matches-after class b x text m))
matches-after class (Then a b) x text ([], rest, e, m, n) =
    let later = matches-after class b x text (subst (λ (t : List ℕ). Matches class b t) (sym e) n) in
    skip_after class a b (class x) text (has_empty a) (has_empty-matches class a m) later
matches-after class (Then a b) x text (y ∷ ys, rest, e, m, n) =
    let same_head : y ≡ x = cc in
    let tail : ys ++ rest ≡ text = cc in
    let first = matches-after class a x ys (subst (λ (z : ℕ). Matches class a (z ∷ ys)) same_head m) in
    subst (λ (t : List ℕ). Matches class (after (class x) (Then a b)) t) tail (then_after class a b (class x) ys rest (has_empty a) first n)
matches-after class (Many a) x text (parts, e, all) =
    many_after class a (class x) x text parts (λ t h. matches-after class a x t h) e all
