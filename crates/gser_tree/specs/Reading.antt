-- Reading a value: it misfits, or it gives something and keeps the place of the first part that is bad.
use Rattle.std.specs.Prelude.{◌≡◌, ℕ, ◌==◌, ◌&&◌, ◌||◌, not, nat_le, Bool, false, List, [], ◌∷◌, ◌++◌, length, Option, Some, None, option_and_then, Result, Ok, Err, if◌then◌else◌}
use Rattle.std.specs.Char.{is_ascii_digit}
use Rattle.std.specs.List.{list_all}
use Rattle.std.specs.Str.Parse.{digits_value}
use Rattle.gser_tree.specs.declared.reading.Stop.{Stop}
use Rattle.gser_tree.specs.declared.reading.Stop.TheVariants.{Misfit, NoMemory}
use Rattle.gser_tree.specs.looking.Shapes.{Shape}
use Rattle.gser_tree.specs.looking.Looking.{Behind, component, word_in}

-- what was read, and the place of the first bad part
pub record Found (A : Type 0) : Type 0 where
  pub value : A
  pub bad : Option ℕ

-- a reading, from the first bad place so far; None where the value is of another shape
abbrev pub Read : Type 0 → Type 0
Read A = Option ℕ → Option (Found A)

-- the value
abbrev pub give : {A : Type 0} → A → Read A
give value = λ bad. Some (record { value = value; bad = bad })

infixl 10 ◌>>=◌
-- one reading, and then another
abbrev pub ◌>>=◌ : {A B : Type 0} → Read A → (A → Read B) → Read B
read >>= next = λ bad. option_and_then (λ found. next found.value found.bad) (read bad)

-- what must be there
abbrev pub expect : {A : Type 0} → Option A → Read A
expect None = λ bad. None
expect (Some value) = give value

-- the first of two places
abbrev pub noted : Option ℕ → ℕ → Option ℕ
noted None place = Some place
noted (Some first) place = Some first

-- what a part means; where it means nothing its place is bad, and the other value stands
abbrev pub part : {A : Type 0} → ℕ → A → Option A → Read A
part place other None = λ bad. Some (record { value = other; bad = noted bad place })
part place other (Some value) = give value

-- a component that may be absent
abbrev pub present : {A : Type 0} → A → (Shape → Read A) → List Shape → Option (Behind Shape) → Read (Behind A)
present absent reader shapes None = give (record { value = absent; rest = shapes })
present absent reader shapes (Some found) = reader found.value >>= λ value. give (record { value = value; rest = found.rest })

-- the same by its name
abbrev pub optional : {A : Type 0} → List ℕ → A → (Shape → Read A) → List Shape → Read (Behind A)
optional name absent reader shapes = present absent reader shapes (component name shapes)

-- a component that stands there
abbrev pub required : {A : Type 0} → List ℕ → (Shape → Read A) → List Shape → Read (Behind A)
required name reader shapes =
    expect (component name shapes) >>= λ found. reader found.value >>= λ value. give (record { value = value; rest = found.rest })

-- nothing is left
abbrev pub nothing_left : {A : Type 0} → List Shape → A → Read A
nothing_left [] value = give value
nothing_left (shape ∷ shapes) value = λ bad. None

-- members one by one, behind those that were seen
abbrev pub gather : {A : Type 0} → (Shape → Read A) → List A → List Shape → Read (List A)
gather reader seen [] = give seen
gather reader seen (shape ∷ shapes) = reader shape >>= λ value. gather reader (seen ++ value ∷ []) shapes

-- a call of the program gave what reading gives; want of memory says nothing
abbrev pub Reads : {V A : Type 0} → (V → A) → Result V Stop → Option ℕ → Option (Found A) → Type 0
Reads view (Ok value) bad read = read ≡ Some (record { value = view value; bad = bad })
Reads view (Err Misfit) bad read = read ≡ None
Reads view (Err NoMemory) bad read = Unit {0}

-- "0", or digits of which the first is not 0 (RFC 3641 section 3.2)
abbrev pub is_number : List ℕ → Bool
is_number [] = false
is_number (first ∷ rest) = is_ascii_digit first && (list_all is_ascii_digit rest && (not (first == 48) || length rest == 0))

-- the value of digits, where it is at most so much
abbrev pub at_most : ℕ → List ℕ → Option ℕ
at_most most digits = if nat_le (digits_value 10 digits) most then Some (digits_value 10 digits) else None

-- a number of at most so much
unfoldable pub number : ℕ → Shape → Read ℕ
number most shape =
    expect (word_in shape) >>= λ word. if is_number word.text then part word.place 0 (at_most most word.text) else λ bad. None
