-- A text that names one of distinct rows finds that row, and a row that it finds has its name.
use Rattle.std.proofs.Common.{◌≡◌, ℕ, zero, suc, ◌+◌, ◌<◌, Bool, true, false, cond, not, List, [], ◌∷◌, map, length, position, slice_get, Some, None, nat_lt, refl, ap, sym, ◌∙◌, arith, option_map, inl, inr}
use Rattle.std.proofs.lemmas.List.Quantifiers.{position-Some}
use Rattle.std.proofs.lemmas.Option.{slice_get-map, slice_get_cases, slice_get_within}
use Rattle.std.proofs.lemmas.Bool.Decides.{nat_tests}
use Rattle.std.proofs.lemmas.Bool.{and_parts}
use Rattle.std.specs.List.{position_or_len, list_any}
use Rattle.schema_tables.specs.Naming.{Named, are_alike, are_distinct}
use Rattle.schema_tables.proofs.attributes.TableLemmas.{position_within}
use Rattle.schema_tables.proofs.naming.NamingLemmas.{names_row, alike, list_any_get}

-- a row that a later one is like is not among distinct rows
no_later :
    {X : Type 0} (named : X → Named) (text : List ℕ) (row : X) (rows : List X) (n : ℕ) (x : X)
    → are_distinct (map named (row ∷ rows)) ≡ true → slice_get rows n ≡ Some x
    → names_row text (named x) ≡ true → names_row text (named row) ≡ true → ⊥
no_later named text row rows n x distinct there names_it names_this =
    let there' : slice_get (map named rows) n ≡ Some (named x) =
    slice_get-map named rows n ∙ ap (option_map named) there in
    let like : list_any (are_alike (named row)) (map named rows) ≡ true =
    list_any_get (are_alike (named row)) (map named rows) n (named x) there'
    (alike (named row) (named x) text names_this names_it) in
    let none : not (list_any (are_alike (named row)) (map named rows)) ≡ true = (and_parts _ _ distinct).0 in
    let never : not true ≡ true = ap not (sym like) ∙ none in
    cc

-- the rows before the one that a text names pass over
prefix_at :
    {X : Type 0} (named : X → Named) (text : List ℕ) (rows : List X) (n : ℕ) (x : X)
    → are_distinct (map named rows) ≡ true → slice_get rows n ≡ Some x → names_row text (named x) ≡ true
    → position_or_len (λ row. names_row text (named row)) rows ≡ n
prefix_at named text [] n x distinct there names_it = cc
prefix_at named text (row ∷ rows) zero x distinct there names_it =
    let same : row ≡ x = cc in
    let hit : names_row text (named row) ≡ true = ap (λ r. names_row text (named r)) same ∙ names_it in
    ap (λ b. cond (not b) (1 + position_or_len (λ row. names_row text (named row)) rows) 0) hit
prefix_at named text (row ∷ rows) (suc n) x distinct there names_it =
    let rest = prefix_at named text rows n x (and_parts _ _ distinct).1 there names_it in
    passed (names_row text (named row)) refl rest
  where
    passed : (b : Bool) → names_row text (named row) ≡ b
        → position_or_len (λ row. names_row text (named row)) rows ≡ n
        → cond (not b) (1 + position_or_len (λ row. names_row text (named row)) rows) 0 ≡ suc n
    passed true hit rest = absurd (no_later named text row rows n x distinct there names_it hit)
    passed false miss rest = omega arith

-- a place that is below the length is the place that is found
chosen : (place len n : ℕ) → place ≡ n → n < len → cond (nat_lt place len) (Some place) None ≡ Some n
chosen place len n same below = grind (arith, nat_tests)

-- a text that names a row finds it
pub position_names :
    {X : Type 0} (named : X → Named) (text : List ℕ) (rows : List X) (n : ℕ) (x : X)
    → are_distinct (map named rows) ≡ true → slice_get rows n ≡ Some x → names_row text (named x) ≡ true
    → position (λ row. names_row text (named row)) rows ≡ Some n
position_names named text rows n x distinct there names_it =
    chosen _ (length rows) n (prefix_at named text rows n x distinct there names_it) (slice_get_within rows n x there)

-- a row that is found passes
pub names_position :
    {X : Type 0} (p : X → Bool) (rows : List X) (n : ℕ) → position p rows ≡ Some n
    → (x : X) × (slice_get rows n ≡ Some x) × (p x ≡ true)
names_position p rows n found =
    let within : n < length rows = position_within p rows n found in
    elim ((slice_get_cases rows n).1) [
      | inl inside ↦
          (inside.0, inside.2, ap p (sym inside.3) ∙ (position-Some p rows n inside.0 found).1)
      | inr past ↦ absurd (omega arith)
    ]
