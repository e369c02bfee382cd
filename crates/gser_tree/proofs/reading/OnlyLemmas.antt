-- What is read with no bad part is good, where each part that means something is.
use Rattle.std.proofs.Common.{◌≡◌, ℕ, Bool, true, false, List, [], ◌∷◌, ◌++◌, refl, ap, subst, ◌∙◌}
use Rattle.std.specs.Prelude.{Option, Some, None, option_and_then, if◌then◌else◌}
use Rattle.std.specs.List.{AllByRecursion}
use Rattle.std.proofs.lemmas.Option.{same_Some}
use Rattle.gser_tree.specs.looking.Shapes.{Shape}
use Rattle.gser_tree.specs.looking.Looking.{Behind, component}
use Rattle.gser_tree.specs.Reading.{Found, Read, give, ◌>>=◌, expect, part, present, optional, required, nothing_left, gather}
use Rattle.base_laws.proofs.Theorems.{all_push}

-- where reading leaves no bad part there was none before, and what it gives has the property
abbrev pub Gives : {A : Type 0} → (A → Type 0) → Read A → Type 0
Gives {A} P read = (bad : Option ℕ) (value : A) → read bad ≡ Some (record { value = value; bad = None }) → (bad ≡ None) × P value

-- a reader of values
abbrev pub Only : {A : Type 0} → (A → Type 0) → (Shape → Read A) → Type 0
Only P reader = (shape : Shape) → Gives P (reader shape)

pub gives_value : {A : Type 0} (P : A → Type 0) (value : A) → P value → Gives P (give value)
gives_value {A} P value has bad found h =
    let whole = same_Some (record { value = value; bad = bad }) (record { value = found; bad = None }) h in
    (ap (λ (f : Found A). f.bad) whole, subst P (ap (λ (f : Found A). f.value) whole) has)

pub gives_nothing : {A : Type 0} (P : A → Type 0) → Gives P (λ bad. None)
gives_nothing P bad value h = cc

pub gives_weaker : {A : Type 0} (P Q : A → Type 0) (read : Read A) → ((value : A) → P value → Q value) → Gives P read → Gives Q read
gives_weaker P Q read weaker gives bad value h = let found = gives bad value h in (found.0, weaker value found.1)

-- one reading and then another, which may rely on what the first gave
pub gives_both : {A B : Type 0} (P : A → Type 0) (Q : B → Type 0) (read : Read A) (next : A → Read B) → Gives P read
    → ((value : A) → Gives (λ final. P value → Q final) (next value)) → Gives Q (read >>= next)
gives_both {A} {B} P Q read next first second bad value h = inner (read bad) refl h
  where
    inner : (found : Option (Found A)) → read bad ≡ found → option_and_then (λ (f : Found A). next f.value f.bad) found ≡ Some (record { value = value; bad = None })
        → (bad ≡ None) × Q value
    inner None is h = cc
    inner (Some found) is h =
        let one = second found.value found.bad value h in
        let two = first bad found.value (is ∙ ap (λ b. Some (record { value = found.value; bad = b })) one.0) in
        (two.0, one.1 two.1)

pub gives_choice : {A : Type 0} (P : A → Type 0) (test : Bool) (one other : Read A) → (test ≡ true → Gives P one) → (test ≡ false → Gives P other)
    → Gives P (if test then one else other)
gives_choice P true one other first second = first refl
gives_choice P false one other first second = second refl

-- what must be there
pub gives_expected : {A : Type 0} (P : A → Type 0) (found : Option A) → ((value : A) → found ≡ Some value → P value) → Gives P (expect found)
gives_expected P None has = gives_nothing P
gives_expected P (Some value) has = gives_value P value (has value refl)

-- a part
pub gives_part : {A : Type 0} (P : A → Type 0) (place : ℕ) (other : A) (found : Option A) → ((value : A) → found ≡ Some value → P value)
    → Gives P (part place other found)
gives_part P place other (Some value) has = gives_value P value (has value refl)
gives_part {A} P place other None has = λ bad value h. never value bad h
  where
    never : (value : A) (bad : Option ℕ) → part place other None bad ≡ Some (record { value = value; bad = None }) → (bad ≡ None) × P value
    never value None h =
        let apart : Some place ≡ None = ap (λ (f : Found A). f.bad) (same_Some (record { value = other; bad = Some place }) (record { value = value; bad = None }) h) in
        cc
    never value (Some first) h =
        let apart : Some first ≡ None = ap (λ (f : Found A). f.bad) (same_Some (record { value = other; bad = Some first }) (record { value = value; bad = None }) h) in
        cc

-- a component that may be absent
pub gives_optional : {A : Type 0} (P : A → Type 0) (name : List ℕ) (absent : A) (reader : Shape → Read A) (members : List Shape) → P absent → Only P reader
    → Gives (λ found. P found.value) (optional name absent reader members)
gives_optional P name absent reader members has only = inner (component name members)
  where
    inner : (found : Option (Behind Shape)) → Gives (λ found. P found.value) (present absent reader members found)
    inner None = gives_value (λ found. P found.value) (record { value = absent; rest = members }) has
    inner (Some found) =
        gives_both P (λ found. P found.value) (reader found.value) (λ value. give (record { value = value; rest = found.rest })) (only found.value)
        (λ value. gives_value (λ final. P value → P final.value) (record { value = value; rest = found.rest }) (λ h. h))

-- a component that stands there
pub gives_required : {A : Type 0} (P : A → Type 0) (name : List ℕ) (reader : Shape → Read A) (members : List Shape) → Only P reader
    → Gives (λ found. P found.value) (required name reader members)
gives_required P name reader members only =
    gives_both (λ _. Unit {0}) (λ found. P found.value) (expect (component name members)) _ (gives_expected (λ _. Unit {0}) (component name members) (λ value is. tt))
    (λ found. gives_both P (λ final. Unit {0} → P final.value) (reader found.value) (λ value. give (record { value = value; rest = found.rest })) (only found.value)
    (λ value. gives_value (λ final. P value → Unit {0} → P final.value) (record { value = value; rest = found.rest }) (λ h _. h)))

-- nothing is left
pub gives_end : {A : Type 0} (P : A → Type 0) (members : List Shape) (value : A) → P value → Gives P (nothing_left members value)
gives_end P [] value has = gives_value P value has
gives_end P (shape ∷ members) value has = gives_nothing P

-- the members of a set
pub gives_gathered : {A : Type 0} (P : A → Type 0) (reader : Shape → Read A) (seen : List A) (members : List Shape) → Only P reader
    → Gives (λ values. AllByRecursion P seen → AllByRecursion P values) (gather reader seen members)
gives_gathered P reader seen [] only = gives_value (λ values. AllByRecursion P seen → AllByRecursion P values) seen (λ h. h)
gives_gathered P reader seen (shape ∷ members) only =
    gives_both P (λ values. AllByRecursion P seen → AllByRecursion P values) (reader shape) (λ value. gather reader (seen ++ value ∷ []) members) (only shape)
    (λ value. gives_weaker (λ values. AllByRecursion P (seen ++ value ∷ []) → AllByRecursion P values)
    (λ values. P value → AllByRecursion P seen → AllByRecursion P values) (gather reader (seen ++ value ∷ []) members)
    (λ values all has before. all (all_push P seen value before has)) (gives_gathered P reader (seen ++ value ∷ []) members only))
