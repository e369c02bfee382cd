-- The octets that the grammar of filters tells apart (RFC 4515 section 3, RFC 4512 section 1.4).
use Rattle.std.specs.Prelude.{ℕ, Bool, true, false, ◌==◌, if◌then◌else◌}
use Rattle.std.specs.Int.{is_in_range}
use Rattle.filter_text.specs.declared.classes.Class.{Class}
use Rattle.filter_text.specs.declared.classes.Class.TheVariants.{HexLetter, Letter, Zero, Digit, Dash, Dot, Equals, Sign, Open, Close, Asterisk, Backslash, Ampersand, Vertbar, Exclamation, Nul, Other}

-- the class of an octet; what is no octet is taken as NUL, which no text has
unfoldable pub class_of : ℕ → Class
class_of octet =
    if octet == 33 then Exclamation
    else if octet == 38 then Ampersand
    else if octet == 40 then Open
    else if octet == 41 then Close
    else if octet == 42 then Asterisk
    else if octet == 45 then Dash
    else if octet == 46 then Dot
    else if octet == 48 then Zero
    else if is_in_range 49 57 octet then Digit
    else if octet == 60 then Sign
    else if octet == 61 then Equals
    else if octet == 62 then Sign
    else if is_in_range 65 70 octet then HexLetter
    else if is_in_range 71 90 octet then Letter
    else if octet == 92 then Backslash
    else if is_in_range 97 102 octet then HexLetter
    else if is_in_range 103 122 octet then Letter
    else if octet == 124 then Vertbar
    else if octet == 126 then Sign
    else if is_in_range 1 255 octet then Other
    else Nul

-- ALPHA
abbrev pub is_letter : Class → Bool
is_letter HexLetter = true
is_letter Letter = true
is_letter class = false

-- a letter, a digit or a hyphen: keychar of a descriptor
abbrev pub is_word : Class → Bool
is_word HexLetter = true
is_word Letter = true
is_word Zero = true
is_word Digit = true
is_word Dash = true
is_word class = false

-- DIGIT
abbrev pub is_digit : Class → Bool
is_digit Zero = true
is_digit Digit = true
is_digit class = false

-- HEX
abbrev pub is_hex : Class → Bool
is_hex HexLetter = true
is_hex Zero = true
is_hex Digit = true
is_hex class = false

-- an octet that stands for itself in a value
abbrev pub is_plain : Class → Bool
is_plain Nul = false
is_plain Open = false
is_plain Close = false
is_plain Asterisk = false
is_plain Backslash = false
is_plain class = true

-- the digit 0
abbrev pub is_zero : Class → Bool
is_zero Zero = true
is_zero class = false

-- a digit from 1 to 9
abbrev pub is_nonzero : Class → Bool
is_nonzero Digit = true
is_nonzero class = false

-- a dot
abbrev pub is_dot : Class → Bool
is_dot Dot = true
is_dot class = false

-- an equals sign
abbrev pub is_equals : Class → Bool
is_equals Equals = true
is_equals class = false

-- the first octet of >=, <= and ~=
abbrev pub is_sign : Class → Bool
is_sign Sign = true
is_sign class = false

-- an asterisk
abbrev pub is_asterisk : Class → Bool
is_asterisk Asterisk = true
is_asterisk class = false

-- a backslash
abbrev pub is_backslash : Class → Bool
is_backslash Backslash = true
is_backslash class = false
