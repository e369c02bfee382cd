-- What holds of the numbers that are reached holds of those at and below each of the two tops.
use Rattle.std.proofs.Common.{◌≡◌, ◌⊎◌, inl, inr, ℕ, ◌<◌, ◌==◌, true, false, List, [], ◌∷◌, ◌++◌, sym, subst}
use Rattle.std.specs.List.{AllByRecursion}
use Rattle.std.proofs.lemmas.Bool.{cases_Bool, cond-true, cond-false, eqb-true}
use Rattle.dir_tree.proofs.base_laws_proofs.Theorems.{all_append}
use Rattle.dir_tree.specs.tree.Numbered.{Numbered}
use Rattle.dir_tree.specs.Scope.{scoped}
use Rattle.dir_tree.specs.declared.scope.Scope.TheVariants.{Sub}
use Rattle.aci_index.specs.Reach.{AreBelow, left_behind, reached}
use Rattle.aci_index.proofs.anew.NumberLemmas.{below-scoped}

-- of two lists joined, each
all_front : (P : ℕ → Type 0) (xs ys : List ℕ) → AllByRecursion P (xs ++ ys) → AllByRecursion P xs
all_front P [] ys h = tt
all_front P (x ∷ xs) ys h = (h.0, all_front P xs ys h.1)

all_back : (P : ℕ → Type 0) (xs ys : List ℕ) → AllByRecursion P (xs ++ ys) → AllByRecursion P ys
all_back P [] ys h = h
all_back P (x ∷ xs) ys h = all_back P xs ys h.1

-- those at and below the top after the write
pub reached-to : (P : ℕ → Type 0) (from to : ℕ) (rows : List Numbered) → AllByRecursion P (reached from to rows) → AllByRecursion P (scoped Sub to rows)
reached-to P from to rows h = all_back P (left_behind from to rows) (scoped Sub to rows) h

-- and those at and below the top before it
pub reached-from : (P : ℕ → Type 0) (from to : ℕ) (rows : List Numbered) → AllByRecursion P (reached from to rows) → AllByRecursion P (scoped Sub from rows)
reached-from P from to rows h = by (cases_Bool (from == to))
  where
    by : ((from == to) ≡ true) ⊎ ((from == to) ≡ false) → AllByRecursion P (scoped Sub from rows)
    by (inl e) = subst (λ (top : ℕ). AllByRecursion P (scoped Sub top rows)) (sym (eqb-true from to e)) (reached-to P from to rows h)
    by (inr e) =
        subst (AllByRecursion P) (cond-false (from == to) [] (scoped Sub from rows) e)
        (all_front P (left_behind from to rows) (scoped Sub to rows) h)

-- each is below a bound that all numbers are below
pub below-reached : (bound from to : ℕ) (rows : List Numbered) → AreBelow bound rows → AllByRecursion (λ id. id < bound) (reached from to rows)
below-reached bound from to rows h =
    all_append (λ id. id < bound) (left_behind from to rows) (scoped Sub to rows) (by (cases_Bool (from == to))) (below-scoped bound to rows h)
  where
    by : ((from == to) ≡ true) ⊎ ((from == to) ≡ false) → AllByRecursion (λ id. id < bound) (left_behind from to rows)
    by (inl e) = subst (AllByRecursion (λ id. id < bound)) (sym (cond-true (from == to) [] (scoped Sub from rows) e)) tt
    by (inr e) = subst (AllByRecursion (λ id. id < bound)) (sym (cond-false (from == to) [] (scoped Sub from rows) e)) (below-scoped bound from rows h)
