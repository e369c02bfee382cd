-- The lexemes of a text under the generic string encoding rules (RFC 3641 section 3): spaces, marks, words, strings.
use Rattle.std.specs.Prelude.{◌≡◌, ℕ, Bool, true, false, ◌&&◌, ◌==◌, List, [], ◌∷◌, ◌++◌, if◌then◌else◌}
use Rattle.std.specs.Int.{is_in_range}
use Rattle.std.specs.List.{list_all}
use Rattle.std.specs.Str.{is_utf8}
use Rattle.gser_tree.specs.Strings.{quoted}
use Rattle.gser_tree.specs.declared.marks.Mark.{Mark}
use Rattle.gser_tree.specs.declared.marks.Mark.TheVariants.{Open, Close, Comma, Colon}
use Rattle.gser_tree.specs.declared.marks.Class.{Class}
use Rattle.gser_tree.specs.declared.marks.Class.TheVariants.{Blank, Letter, Quote, Sign, Other}

-- a space, a mark, a word (an identifier, a number, an object identifier), or a string
pub data Lexeme : Type 0 where
  Space : Lexeme
  Marked : Mark → Lexeme
  Word : List ℕ → Lexeme
  Quoted : List ℕ → Lexeme

-- what an octet is where it stands in no string
unfoldable pub class_of : ℕ → Class
class_of octet =
    if octet == 32 then Blank
    else if octet == 34 then Quote
    else if octet == 44 then Sign Comma
    else if octet == 45 then Letter
    else if octet == 46 then Letter
    else if is_in_range 48 57 octet then Letter
    else if octet == 58 then Sign Colon
    else if is_in_range 65 90 octet then Letter
    else if is_in_range 97 122 octet then Letter
    else if octet == 123 then Sign Open
    else if octet == 125 then Sign Close
    else Other

-- the octet of a mark
abbrev pub octet_of : Mark → ℕ
octet_of Open = 123
octet_of Close = 125
octet_of Comma = 44
octet_of Colon = 58

-- a letter, a digit, a hyphen or a dot
abbrev pub is_letter : Class → Bool
is_letter Letter = true
is_letter class = false

-- at least one of these, and nothing else
abbrev pub is_word : List ℕ → Bool
is_word [] = false
is_word (octet ∷ octets) = is_letter (class_of octet) && list_all (λ x. is_letter (class_of x)) octets

-- the octets of a lexeme
abbrev pub show : Lexeme → List ℕ
show Space = 32 ∷ []
show (Marked mark) = octet_of mark ∷ []
show (Word text) = text
show (Quoted text) = quoted text

-- a word or a string ends before these: no word, no string and no opening brace touches it
abbrev pub EndsBefore : List Lexeme → Type 0
EndsBefore (Word text ∷ rest) = ⊥
EndsBefore (Quoted text ∷ rest) = ⊥
EndsBefore (Marked Open ∷ rest) = ⊥
EndsBefore rest = Unit {0}

-- lexemes that may stand one behind the other
abbrev pub AreLexemes : List Lexeme → Type 0
AreLexemes [] = Unit {0}
AreLexemes (Space ∷ rest) = AreLexemes rest
AreLexemes (Marked mark ∷ rest) = AreLexemes rest
AreLexemes (Word text ∷ rest) = (is_word text ≡ true) × EndsBefore rest × AreLexemes rest
AreLexemes (Quoted text ∷ rest) = (is_utf8 text ≡ true) × EndsBefore rest × AreLexemes rest
