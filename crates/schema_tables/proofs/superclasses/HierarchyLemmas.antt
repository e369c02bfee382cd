-- A class stands after its superior in the table.
use Rattle.std.proofs.Common.{◌≡◌, ℕ, zero, suc, ◌+◌, ◌<◌, Bool, true, ◌&&◌, List, [], ◌∷◌, slice_get, Option, Some, None, nat_lt, refl, arith}
use Rattle.std.specs.Option.{option_map_or, option_and_then}
use Rattle.std.proofs.lemmas.Bool.Decides.{nat_tests}
use Rattle.std.proofs.lemmas.Bool.{and_parts}
use Rattle.schema_tables.specs.classes.Classes.{Class, classes, class_of, superior_of}

-- from a place on, each row's superior stands before the row
superiors_stand_before : ℕ → List Class → Bool
superiors_stand_before place [] = true
superiors_stand_before place (row ∷ rows) =
    option_map_or (λ superior. nat_lt superior place) (class_of row.superior) true
    && superiors_stand_before (place + 1) rows

-- so it does in the table
in_order : superiors_stand_before 0 classes ≡ true
unfolding superiors_stand_before classes
in_order = refl

-- one row's superior, where there is one
one_before :
    (found : Option ℕ) (superior place : ℕ) → option_map_or (λ superior. nat_lt superior place) found true ≡ true
    → found ≡ Some superior → superior < place
one_before None superior place before is = cc
one_before (Some other) superior place before is =
    let same : other ≡ superior = cc in grind (arith, nat_tests)

-- the same bound, written from the row before
below_here : (superior place : ℕ) → superior < place → superior < place + 0
below_here superior place below = omega arith

below_next : (superior place n : ℕ) → superior < (place + 1) + n → superior < place + suc n
below_next superior place n below = omega arith

-- each row's superior
superior_before :
    (place : ℕ) (rows : List Class) (n : ℕ) (superior : ℕ) → superiors_stand_before place rows ≡ true
    → option_and_then (λ row. class_of row.superior) (slice_get rows n) ≡ Some superior
    → superior < place + n
unfolding superiors_stand_before
superior_before place [] n superior order is = cc
superior_before place (row ∷ rows) zero superior order is =
    below_here superior place
    (one_before (class_of row.superior) superior place (and_parts _ _ order).0 is)
superior_before place (row ∷ rows) (suc n) superior order is =
    below_next superior place n
    (superior_before (place + 1) rows n superior (and_parts _ _ order).1 is)

pub superior_of_below : (number superior : ℕ) → superior_of number ≡ Some superior → superior < number
superior_of_below number superior is =
    let before : superior < 0 + number = superior_before 0 classes number superior in_order is in
    omega arith
