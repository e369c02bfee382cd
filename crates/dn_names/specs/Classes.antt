-- The octets that the grammar of names tells apart (RFC 4514 section 3, RFC 4512 section 1.4).
use Rattle.std.specs.Prelude.{ℕ, Bool, true, false, ◌==◌, if◌then◌else◌}
use Rattle.std.specs.Int.{is_in_range}
use Rattle.dn_names.specs.declared.classes.Class.{Class}
use Rattle.dn_names.specs.declared.classes.Class.TheVariants.{HexLetter, Letter, Zero, Digit, Dash, Dot, Space, Equals, Plus, Comma, Hash, Backslash, Mark, Nul, Other}

-- the class of an octet
unfoldable pub class_of : ℕ → Class
class_of octet =
    if octet == 0 then Nul
    else if octet == 32 then Space
    else if octet == 34 then Mark
    else if octet == 35 then Hash
    else if octet == 43 then Plus
    else if octet == 44 then Comma
    else if octet == 45 then Dash
    else if octet == 46 then Dot
    else if octet == 48 then Zero
    else if is_in_range 49 57 octet then Digit
    else if octet == 59 then Mark
    else if octet == 60 then Mark
    else if octet == 61 then Equals
    else if octet == 62 then Mark
    else if is_in_range 65 70 octet then HexLetter
    else if is_in_range 71 90 octet then Letter
    else if octet == 92 then Backslash
    else if is_in_range 97 102 octet then HexLetter
    else if is_in_range 103 122 octet then Letter
    else Other

-- ALPHA
abbrev pub is_letter : Class → Bool
is_letter HexLetter = true
is_letter Letter = true
is_letter class = false

-- a letter, a digit or a hyphen: keychar of a descriptor
abbrev pub is_word : Class → Bool
is_word HexLetter = true
is_word Letter = true
is_word Zero = true
is_word Digit = true
is_word Dash = true
is_word class = false

-- DIGIT
abbrev pub is_digit : Class → Bool
is_digit Zero = true
is_digit Digit = true
is_digit class = false

-- HEX
abbrev pub is_hex : Class → Bool
is_hex HexLetter = true
is_hex Zero = true
is_hex Digit = true
is_hex class = false

-- an octet that stands for itself in a value
abbrev pub is_plain : Class → Bool
is_plain Plus = false
is_plain Comma = false
is_plain Backslash = false
is_plain Mark = false
is_plain Nul = false
is_plain class = true

-- an octet that stands for itself at a value's front
abbrev pub is_first : Class → Bool
is_first Space = false
is_first Hash = false
is_first class = is_plain class

-- an octet that stands for itself behind a backslash
abbrev pub is_escapable : Class → Bool
is_escapable Mark = true
is_escapable Plus = true
is_escapable Comma = true
is_escapable Space = true
is_escapable Hash = true
is_escapable Equals = true
is_escapable Backslash = true
is_escapable class = false

-- the digit 0
abbrev pub is_zero : Class → Bool
is_zero Zero = true
is_zero class = false

-- a digit from 1 to 9
abbrev pub is_nonzero : Class → Bool
is_nonzero Digit = true
is_nonzero class = false

-- a dot
abbrev pub is_dot : Class → Bool
is_dot Dot = true
is_dot class = false

-- a space
abbrev pub is_space : Class → Bool
is_space Space = true
is_space class = false

-- an equals sign
abbrev pub is_equals : Class → Bool
is_equals Equals = true
is_equals class = false

-- a plus sign
abbrev pub is_plus : Class → Bool
is_plus Plus = true
is_plus class = false

-- a comma
abbrev pub is_comma : Class → Bool
is_comma Comma = true
is_comma class = false

-- a backslash
abbrev pub is_backslash : Class → Bool
is_backslash Backslash = true
is_backslash class = false
