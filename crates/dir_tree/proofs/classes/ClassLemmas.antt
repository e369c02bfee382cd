-- The object identifiers of a class and of its superclasses are its own and those from its superior on.
use Rattle.std.proofs.Common.{◌≡◌, ℕ, Bool, false, ◌||◌, zero, suc, ◌<◌, ◌≤◌, List, [], ◌∷◌, ◌++◌, Option, Some, None, refl, ap, sym, ◌∙◌, append-nil, arith}
use Rattle.std.specs.List.{list_any, flat_map}
use Rattle.std.specs.Option.{option_map_or}
use Rattle.std.proofs.lemmas.List.Folds.{list_any-append}
use Rattle.schema_tables.specs.classes.Classes.{superior_of}
use Rattle.schema_tables.proofs.Theorems.{superior_of_below}
use Rattle.dir_tree.specs.EntryClasses.{own_oid, oids_up, oids_of}

-- a class of number 0 has no superior
none_above :
    (number : ℕ) (found : Option ℕ) (up : ℕ → List (List ℕ)) → superior_of number ≡ found → number ≤ 0
    → option_map_or up found [] ≡ []
none_above number None up is within = refl
none_above number (Some superior) up is within =
    let below = superior_of_below number superior is in
    absurd (omega arith)

no_more :
    (number : ℕ) (up : ℕ → List (List ℕ)) → number ≤ 0
    → own_oid number ++ option_map_or up (superior_of number) [] ≡ own_oid number
no_more number up within =
    ap (λ above. own_oid number ++ above) (none_above number (superior_of number) up refl within)
    ∙ append-nil (own_oid number)

-- from a superior on, where the two bounds serve each number below
same_above :
    (number bound : ℕ) (found : Option ℕ) (one other : ℕ → List (List ℕ)) → superior_of number ≡ found
    → number ≤ suc bound → ((superior : ℕ) → superior ≤ bound → superior < number → one superior ≡ other superior)
    → option_map_or one found [] ≡ option_map_or other found []
same_above number bound None one other is within same = refl
same_above number bound (Some superior) one other is within same =
    let below = superior_of_below number superior is in
    same superior (omega arith) below

-- the bound says nothing where it is at least the number
pub oids_up-enough :
    (most more number : ℕ) → number ≤ most → number ≤ more → oids_up most number ≡ oids_up more number
oids_up-enough zero zero number within also = refl
oids_up-enough zero (suc more) number within also =
    sym (no_more number (oids_up more) within)
oids_up-enough (suc most) zero number within also =
    no_more number (oids_up most) also
oids_up-enough (suc most) (suc more) number within also =
    ap (λ above. own_oid number ++ above)
    (same_above number most (superior_of number) (oids_up most) (oids_up more) refl within
    (λ superior fits below. oids_up-enough most more superior fits (omega arith)))

-- so a class's own comes first, and then those of its superior
pub oids_of-own :
    (number : ℕ) → oids_of number ≡ own_oid number ++ option_map_or oids_of (superior_of number) []
oids_of-own zero = sym (no_more zero oids_of (omega arith))
oids_of-own (suc number) =
    ap (λ above. own_oid (suc number) ++ above)
    (same_above (suc number) number (superior_of (suc number)) (oids_up number) oids_of refl
    (omega arith) (λ superior fits below. oids_up-enough number superior superior fits (omega arith)))

-- so where a class has not the object identifier, its superclasses are asked
pub list_any-above :
    (test : List ℕ → Bool) (number : ℕ) (found : Option ℕ) → list_any test (own_oid number) ≡ false
    → found ≡ superior_of number
    → list_any test (oids_of number) ≡ list_any test (option_map_or oids_of found [])
list_any-above test number found not_own is =
    ap (list_any test) (oids_of-own number)
    ∙ list_any-append test (own_oid number) _
    ∙ rw (not_own, is) refl

-- a test of joined lists is one of each
pub list_any-flat_map :
    {A B : Type 0} (test : B → Bool) (lists : A → List B) (items : List A)
    → list_any test (flat_map lists items) ≡ list_any (λ item. list_any test (lists item)) items
list_any-flat_map test lists [] = refl
list_any-flat_map test lists (item ∷ items) =
    list_any-append test (lists item) (flat_map lists items)
    ∙ ap (λ later. list_any test (lists item) || later) (list_any-flat_map test lists items)
