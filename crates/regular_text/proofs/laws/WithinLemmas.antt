-- The octets of a grammar's texts are of the classes that it names.
use Rattle.std.proofs.Common.{◌≡◌, ℕ, Bool, true, inl, inr, List, [], ◌∷◌, sym, subst}
use Rattle.std.specs.List.{AllByRecursion, concat}
use Rattle.base_laws.proofs.Theorems.{all_append}
use Rattle.regular_text.specs.Grammar.{Grammar, Matches, IsWithin}
use Rattle.regular_text.specs.Grammar.Grammar.{Never, Nothing, One, Either, Then, Many}

all_concat : (P : ℕ → Type 0) (Q : List ℕ → Type 0) → ((part : List ℕ) → Q part → AllByRecursion P part) → (parts : List (List ℕ)) → AllByRecursion Q parts → AllByRecursion P (concat parts)
all_concat P Q each [] a = tt
all_concat P Q each (part ∷ parts) a = all_append P part (concat parts) (each part a.0) (all_concat P Q each parts a.1)

-- each octet of a text of a grammar passes the test that the grammar's classes pass
pub matches-all : {K : Type 0} (class : ℕ → K) (passes : K → Bool) (g : Grammar K) (text : List ℕ) → IsWithin passes g → Matches class g text → AllByRecursion (λ x. passes (class x) ≡ true) text
matches-all class passes Never text w m = absurd m
matches-all class passes Nothing text w m = subst (λ (t : List ℕ). AllByRecursion (λ x. passes (class x) ≡ true) t) (sym m) tt
matches-all class passes (One test) text w (x, e, t) =
    subst (λ (s : List ℕ). AllByRecursion (λ y. passes (class y) ≡ true) s) (sym e) (w (class x) t, tt)
matches-all class passes (Either a b) text w (inl m) = matches-all class passes a text w.0 m
matches-all class passes (Either a b) text w (inr m) = matches-all class passes b text w.1 m
matches-all class passes (Then a b) text w (front, rest, e, m, n) =
    subst (λ (s : List ℕ). AllByRecursion (λ y. passes (class y) ≡ true) s) (sym e)
    (all_append (λ y. passes (class y) ≡ true) front rest (matches-all class passes a front w.0 m) (matches-all class passes b rest w.1 n))
matches-all class passes (Many a) text w (parts, e, all) =
    subst (λ (s : List ℕ). AllByRecursion (λ y. passes (class y) ≡ true) s) (sym e)
    (all_concat (λ y. passes (class y) ≡ true) (Matches class a) (λ part m. matches-all class passes a part w m) parts all)
