-- A text names at most one of the rows that are distinct.
use Rattle.std.proofs.Common.{◌≡◌, ℕ, zero, suc, Bool, true, List, [], ◌∷◌, slice_get, Some, ap, sym, ◌∙◌, inl, inr}
use Rattle.std.proofs.lemmas.Bool.{or_cases, or_left, or_right}
use Rattle.std.proofs.lemmas.Slice.Eq.{bytes_eq-Decides}
use Rattle.std.specs.List.{list_any}
use Rattle.std.specs.Str.{bytes_eq, str_to_ascii_lowercase as lower}
use Rattle.schema_tables.specs.Naming.{Named, is_same_name, is_named, are_alike}

-- the name is the text but for case, as an equation
pub same_name : (name text : List ℕ) → is_same_name name text ≡ true → lower name ≡ lower text
same_name name text = (bytes_eq-Decides (lower name) (lower text)).0

pub from_same_name : (name text : List ℕ) → lower name ≡ lower text → is_same_name name text ≡ true
from_same_name name text = (bytes_eq-Decides (lower name) (lower text)).1

-- rows that one text names are alike: by two names, two identifiers, or one of each
alike-name-name :
    (one other : Named) (text : List ℕ) → is_same_name one.name text ≡ true
    → is_same_name other.name text ≡ true → are_alike one other ≡ true
alike-name-name one other text first second =
    or_left _ _ (or_left _ _ (or_left _ _
    (from_same_name one.name other.name (same_name one.name text first ∙ sym (same_name other.name text second)))))

alike-oid-oid :
    (one other : Named) (text : List ℕ) → bytes_eq one.oid text ≡ true → bytes_eq other.oid text ≡ true
    → are_alike one other ≡ true
alike-oid-oid one other text first second =
    or_left _ _ (or_left _ _ (or_right _ _
    ((bytes_eq-Decides one.oid other.oid).1
    ((bytes_eq-Decides one.oid text).0 first ∙ sym ((bytes_eq-Decides other.oid text).0 second)))))

alike-name-oid :
    (one other : Named) (text : List ℕ) → is_same_name one.name text ≡ true → bytes_eq other.oid text ≡ true
    → are_alike one other ≡ true
alike-name-oid one other text first second =
    or_left _ _ (or_right _ _
    (from_same_name one.name other.oid
    (same_name one.name text first ∙ ap lower (sym ((bytes_eq-Decides other.oid text).0 second)))))

alike-oid-name :
    (one other : Named) (text : List ℕ) → bytes_eq one.oid text ≡ true → is_same_name other.name text ≡ true
    → are_alike one other ≡ true
alike-oid-name one other text first second =
    or_right _ _
    (from_same_name other.name one.oid
    (same_name other.name text second ∙ ap lower (sym ((bytes_eq-Decides one.oid text).0 first))))

-- the text names the row
abbrev pub names_row : List ℕ → Named → Bool
names_row text row = is_named row.name row.oid text

pub alike :
    (one other : Named) (text : List ℕ) → names_row text one ≡ true → names_row text other ≡ true
    → are_alike one other ≡ true
alike one other text first second =
    elim (or_cases (is_same_name one.name text) (bytes_eq one.oid text) first) [
      | inl name ↦ elim (or_cases (is_same_name other.name text) (bytes_eq other.oid text) second) [
        | inl again ↦ alike-name-name one other text name again
        | inr oid ↦ alike-name-oid one other text name oid
      ]
      | inr oid ↦ elim (or_cases (is_same_name other.name text) (bytes_eq other.oid text) second) [
        | inl name ↦ alike-oid-name one other text oid name
        | inr again ↦ alike-oid-oid one other text oid again
      ]
    ]

-- an element that passes is among them
pub list_any_get :
    {X : Type 0} (p : X → Bool) (xs : List X) (n : ℕ) (x : X)
    → slice_get xs n ≡ Some x → p x ≡ true → list_any p xs ≡ true
list_any_get p [] n x there passes = cc
list_any_get p (y ∷ ys) zero x there passes =
    let same : y ≡ x = cc in or_left _ _ (ap p same ∙ passes)
list_any_get p (y ∷ ys) (suc n) x there passes = or_right _ _ (list_any_get p ys n x there passes)
