-- A class and its superclasses: the class first, and then those from its superior on.
use Rattle.std.proofs.Common.{◌≡◌, ℕ, Bool, false, zero, suc, ◌<◌, ◌≤◌, List, [], ◌∷◌, Option, Some, None, refl, ap, sym, ◌∙◌, arith}
use Rattle.std.specs.List.{list_any}
use Rattle.std.specs.Option.{option_map, option_map_or}
use Rattle.schema_tables.specs.declared.kinds.ClassId.{ClassId}
use Rattle.schema_tables.specs.classes.Classes.{superior_of}
use Rattle.schema_tables.specs.Superclasses.{classes_up, with_superclasses}
use Rattle.schema_tables.proofs.superclasses.HierarchyLemmas.{superior_of_below}

-- a class of number 0 has no superior
none_above :
    (number : ℕ) (found : Option ℕ) (up : ℕ → List ℕ) → superior_of number ≡ found → number ≤ 0
    → option_map_or up found [] ≡ []
none_above number None up is within = refl
none_above number (Some superior) up is within =
    let below = superior_of_below number superior is in
    absurd (omega arith)

no_more :
    (number : ℕ) (up : ℕ → List ℕ) → number ≤ 0
    → number ∷ option_map_or up (superior_of number) [] ≡ number ∷ []
no_more number up within =
    ap (λ above. number ∷ above) (none_above number (superior_of number) up refl within)

-- from a superior on, where the two bounds serve each number below
same_above :
    (number bound : ℕ) (found : Option ℕ) (one other : ℕ → List ℕ) → superior_of number ≡ found
    → number ≤ suc bound → ((superior : ℕ) → superior ≤ bound → superior < number → one superior ≡ other superior)
    → option_map_or one found [] ≡ option_map_or other found []
same_above number bound None one other is within same = refl
same_above number bound (Some superior) one other is within same =
    let below = superior_of_below number superior is in
    same superior (omega arith) below

-- the bound says nothing where it is at least the number
classes_up-enough :
    (most more number : ℕ) → number ≤ most → number ≤ more → classes_up most number ≡ classes_up more number
classes_up-enough zero zero number within also = refl
classes_up-enough zero (suc more) number within also =
    sym (no_more number (classes_up more) within)
classes_up-enough (suc most) zero number within also =
    no_more number (classes_up most) also
classes_up-enough (suc most) (suc more) number within also =
    ap (λ above. number ∷ above)
    (same_above number most (superior_of number) (classes_up most) (classes_up more) refl within
    (λ superior fits below. classes_up-enough most more superior fits (omega arith)))

-- so the class comes first, and then its superior with those above
pub with_superclasses-first :
    (number : ℕ) → with_superclasses number ≡ number ∷ option_map_or with_superclasses (superior_of number) []
with_superclasses-first zero = sym (no_more zero with_superclasses (omega arith))
with_superclasses-first (suc number) =
    ap (λ above. suc number ∷ above)
    (same_above (suc number) number (superior_of (suc number)) (classes_up number) with_superclasses refl
    (omega arith) (λ superior fits below. classes_up-enough number superior superior fits (omega arith)))

-- where a test fails at the class, the superclasses decide
pub list_any-above :
    (test : ℕ → Bool) (number : ℕ) (found : Option ℕ) → test number ≡ false → found ≡ superior_of number
    → list_any test (with_superclasses number) ≡ list_any test (option_map_or with_superclasses found [])
list_any-above test number found not_own is =
    ap (list_any test) (with_superclasses-first number) ∙ rw (not_own, is) refl
