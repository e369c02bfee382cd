-- Laws of keys. On ASCII texts they say what a key is without Unicode's tables. Beyond ASCII a key has the laws
-- that the normalization and the folding have, and no other is stated.
use Rattle.std.specs.Prelude.{◌≡◌, ◌≢◌, ◌↔◌, ◌⊎◌, ◌<◌, ℕ, List, [], ◌∷◌, ◌++◌, map, All, IsAscii, Some, None}
use Rattle.std.specs.Char.{to_ascii_lowercase}
use Rattle.std.specs.Cmp.Lexicographic.{slice_cmp}
use Rattle.std.specs.Ordering.{MatchOrdering, nat_cmp}
use Rattle.match_rules.specs.declared.parts.Part.{Part}
use Rattle.match_rules.specs.declared.rules.Rule.{Rule}
use Rattle.match_rules.specs.declared.rules.Rule.TheVariants.{Text, Ascii, Phone, Country, Octets}
use Rattle.match_rules.specs.Keys.{without_separators, key_of}
use Rattle.match_rules.specs.Parts.{part_key_of}
use Rattle.match_rules.specs.Spaces.{cut_and_joined}
use Rattle.match_rules.specs.Syntaxes.{IsOf, IsPartOf}

-- the text in small letters
abbrev pub lower_case : List ℕ → List ℕ
lower_case = map to_ascii_lowercase

-- octets have no key exactly where they are not of the syntax
abbrev pub KeyNeedsSyntax : Type 0
KeyNeedsSyntax = (rule : Rule) (octets : List ℕ) → (key_of rule octets ≡ None) ↔ ¬ (IsOf rule octets)

-- a part has no key exactly where it is none of the syntax
abbrev pub PartKeyNeedsSyntax : Type 0
PartKeyNeedsSyntax = (rule : Rule) (part : Part) (octets : List ℕ) → (part_key_of rule part octets ≡ None) ↔ ¬ (IsPartOf rule octets)

-- the key of an ASCII text is the text in small letters, its spaces cut at both ends and joined within
abbrev pub TextKeyOfAscii : Type 0
TextKeyOfAscii = (octets : List ℕ) → IsOf Text octets → IsAscii octets → key_of Text octets ≡ Some (cut_and_joined (lower_case octets))

-- a value of the syntax of ASCII texts has this key too
abbrev pub AsciiKeyOfAscii : Type 0
AsciiKeyOfAscii = (octets : List ℕ) → IsOf Ascii octets → key_of Ascii octets ≡ Some (cut_and_joined (lower_case octets))

-- a telephone number's key is the number in small letters without separators
abbrev pub PhoneKeyOfAscii : Type 0
PhoneKeyOfAscii = (octets : List ℕ) → IsOf Phone octets → key_of Phone octets ≡ Some (without_separators (lower_case octets))

-- a country's key is its two letters as small ones
abbrev pub CountryKeyOfAscii : Type 0
CountryKeyOfAscii = (octets : List ℕ) → IsOf Country octets → key_of Country octets ≡ Some (lower_case octets)

-- the key of an ASCII text is its own key, unless it is empty, as that of spaces alone
abbrev pub KeyIsOwnKey : Type 0
KeyIsOwnKey = (rule : Rule) (octets key : List ℕ) → IsAscii octets → key_of rule octets ≡ Some key → key ≢ [] → key_of rule key ≡ Some key

-- ASCII texts that differ only in the case of letters have one key
abbrev pub CaseKeepsKey : Type 0
CaseKeepsKey = (rule : Rule) (left right : List ℕ) → rule ≢ Octets → IsAscii left → IsAscii right → lower_case left ≡ lower_case right → key_of rule left ≡ key_of rule right

-- the second text has one space more than the first: at its front, at its end, or beside a space within
abbrev pub HasSpaceMore : List ℕ → List ℕ → Type 0
HasSpaceMore text more =
    ((more ≡ 0x20 ∷ text) ⊎ (more ≡ text ++ 0x20 ∷ []))
    ⊎ ((left right : List ℕ) × (text ≡ left ++ 0x20 ∷ right) × (more ≡ left ++ 0x20 ∷ 0x20 ∷ right))

-- such a space changes no key of an ASCII text
abbrev pub SpaceKeepsKey : Type 0
SpaceKeepsKey = (rule : Rule) (text more : List ℕ) → rule ≢ Octets → IsAscii text → IsAscii more → IsOf rule text → IsOf rule more → HasSpaceMore text more → key_of rule text ≡ key_of rule more

-- the key of a telephone number has no space and no hyphen
abbrev pub PhoneKeyIsPlain : Type 0
PhoneKeyIsPlain = (octets key : List ℕ) → key_of Phone octets ≡ Some key → All (λ octet. (octet ≢ 0x20) × (octet ≢ 0x2D)) key

-- the second key goes on behind the first, or has the greater octet at the first place where they differ
abbrev pub IsBefore : List ℕ → List ℕ → Type 0
IsBefore left right =
    ((next : ℕ) × (rest : List ℕ) × (right ≡ left ++ next ∷ rest))
    ⊎ ((front lower higher : List ℕ) × (low high : ℕ) × (low < high) × (left ≡ front ++ low ∷ lower) × (right ≡ front ++ high ∷ higher))

-- the order of keys says which is before the other, or that they are equal
abbrev pub OrderSaysBefore : Type 0
OrderSaysBefore = (left right : List ℕ) → MatchOrdering (slice_cmp nat_cmp left right) (IsBefore left right) (left ≡ right) (IsBefore right left)
