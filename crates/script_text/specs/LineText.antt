-- What one line of a script says: the forms `open N`, `send N HEX` and `end N`, by their texts. The
-- hexadecimal of RFC 4648 8 is taken in either case.
use Rattle.std.specs.Prelude.{◌≡◌, ◌≢◌, ℕ, ◌<◌, ◌≤◌, ◌^◌, ◌==◌, Bool, true, List, [], ◌∷◌, ◌++◌, length, codes, Ok}
use Rattle.std.specs.Char.{is_ascii_digit}
use Rattle.std.specs.List.{AllPass}
use Rattle.std.specs.Str.Parse.{digits_value}
use Rattle.hex.specs.Hex.{decode_of}
use Rattle.script_text.specs.declared.event.ScriptEvent.{ScriptEvent}
use Rattle.script_text.specs.declared.event.ScriptEvent.TheVariants.{Opened, Bytes, Ended}

-- the line says nothing: it is empty or begins with `#`
abbrev pub is_silent : List ℕ → Bool
is_silent [] = true
is_silent (octet ∷ octets) = octet == 35

-- the digits write the number of a connection: above 0, of 32 bits, in at most ten decimal digits
pub record IsNumber (digits : List ℕ) (number : ℕ) : Type 0 where
  pub digits_alone : AllPass is_ascii_digit digits
  pub at_most_ten : length digits ≤ 10
  pub value : number ≡ digits_value 10 digits
  pub above_zero : 1 ≤ number
  pub fits : number < 2 ^ 32

-- the digits write the octets, two for each octet, and there is at least one octet
pub record IsHexadecimal (digits octets : List ℕ) : Type 0 where
  pub pairs : decode_of digits ≡ Ok octets
  pub filled : octets ≢ []

-- the line is the text of the event
abbrev pub Spells : List ℕ → ScriptEvent → Type 0
Spells line (Opened number) = (digits : List ℕ) × (line ≡ codes "open " ++ digits) × IsNumber digits number
Spells line (Bytes number octets) =
    (digits : List ℕ) × (pairs : List ℕ) × (line ≡ codes "send " ++ digits ++ codes " " ++ pairs)
    × IsNumber digits number × IsHexadecimal pairs octets
Spells line (Ended number) = (digits : List ℕ) × (line ≡ codes "end " ++ digits) × IsNumber digits number
