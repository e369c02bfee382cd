-- Which elements of a list are chosen by a key: those of its greatest or of its least value, and those that pass a test
-- if any does.
use Rattle.std.specs.Prelude.{ℕ, nat_lt, max, min, Bool, true, false, not, List, [], ◌∷◌, filter, if◌then◌else◌}
use Rattle.std.specs.List.{list_any}

-- the greatest of numbers; 0 of none
abbrev pub greatest : List ℕ → ℕ
greatest [] = 0
greatest (n ∷ ns) = max n (greatest ns)

-- the least of ranks, which are at most 3; 3 of none
abbrev pub least : List ℕ → ℕ
least [] = 3
least (n ∷ ns) = min n (least ns)

-- those than which none has a greater key
abbrev pub highest : {A : Type 0} → (A → ℕ) → List A → List A
highest key xs = filter (λ x. not (list_any (λ y. nat_lt (key x) (key y)) xs)) xs

-- those than which none has a smaller key
abbrev pub lowest : {A : Type 0} → (A → ℕ) → List A → List A
lowest key xs = filter (λ x. not (list_any (λ y. nat_lt (key y) (key x)) xs)) xs

-- those that pass the test, if any does; otherwise all
abbrev pub passing_or_all : {A : Type 0} → (A → Bool) → List A → List A
passing_or_all test xs = if list_any test xs then filter test xs else xs

-- there is an element
abbrev pub is_filled : {A : Type 0} → List A → Bool
is_filled [] = false
is_filled (x ∷ xs) = true
