-- Numbers among the words: one to twenty decimal digits, with a value that 64 bits hold.
use Rattle.std.specs.Prelude.{◌≡◌, ◌≤◌, ◌<◌, ◌^◌, ◌&&◌, ℕ, Bool, List, [], ◌∷◌, length, Option, Some, None, option_and_then, IsTrue, nat_le, nat_lt, if◌then◌else◌}
use Rattle.std.specs.Char.{is_ascii_digit}
use Rattle.std.specs.List.{list_all}
use Rattle.std.specs.Str.Parse.{digits_value}
use Rattle.command_words.specs.declared.number.NumberRange.{NumberRange}

-- the text is a number of this value; zeros may lead
pub record IsNumber (text : List ℕ) (value : ℕ) : Type 0 where
  pub digits : IsTrue (list_all is_ascii_digit text)
  pub some : 1 ≤ length text
  pub short : length text ≤ 20
  pub exact : digits_value 10 text ≡ value
  pub small : value < 2 ^ 64

-- one to twenty digits
abbrev pub has_form : List ℕ → Bool
has_form text = nat_le 1 (length text) && (nat_le (length text) 20 && list_all is_ascii_digit text)

-- the value of a number
unfoldable pub number_of : List ℕ → Option ℕ
number_of text = if has_form text && nat_lt (digits_value 10 text) (2 ^ 64) then Some (digits_value 10 text) else None

-- a number of at most so many digits, from the least value to the greatest
pub record IsNumberWithin (digits least greatest : ℕ) (text : List ℕ) (value : ℕ) : Type 0 where
  pub number : IsNumber text value
  pub short : length text ≤ digits
  pub reaches : least ≤ value
  pub stays_below : value ≤ greatest

-- the value, where it is in the range
abbrev pub value_within : ℕ → ℕ → ℕ → Option ℕ
value_within least greatest value = if nat_le least value && nat_le value greatest then Some value else None

-- the value of a number of at most so many digits, where it is in the range
unfoldable pub number_within : ℕ → ℕ → ℕ → List ℕ → Option ℕ
number_within digits least greatest text =
    if nat_le (length text) digits then option_and_then (value_within least greatest) (number_of text) else None

-- the arguments of an option say this number, which is in the option's range: the default where the option isn't given
abbrev pub SaysNumber : NumberRange → List (List ℕ) → ℕ → Type 0
SaysNumber range [] value = value ≡ range.absent
SaysNumber range (text ∷ []) value = IsNumberWithin 20 range.least range.greatest text value
SaysNumber range (text ∷ again ∷ texts) value = ⊥

-- the number that an option's argument says, where there is one in the range
abbrev pub number_said : NumberRange → Option (List ℕ) → Option ℕ
number_said range None = Some range.absent
number_said range (Some text) = number_within 20 range.least range.greatest text
