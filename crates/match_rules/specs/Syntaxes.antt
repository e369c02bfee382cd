-- The syntaxes of values and of substring parts, one row a rule (after RFC 4517, section 3.3).
use Rattle.std.specs.Prelude.{◌≡◌, ◌≢◌, ◌≤◌, ◌⊎◌, ℕ, Bool, true, ◌==◌, ◌&&◌, ◌||◌, nat_lt, nat_le, List, [], length, All, IsAscii, IsUtf8}
use Rattle.std.specs.List.{list_all}
use Rattle.std.specs.Str.{is_utf8}
use Rattle.match_rules.specs.declared.rules.Rule.{Rule}
use Rattle.match_rules.specs.declared.rules.Rule.TheVariants.{Text, Ascii, Phone, Country, Octets}

-- the octet is a letter of ASCII, capital or small
abbrev pub IsLetter : ℕ → Type 0
IsLetter octet = ((65 ≤ octet) × (octet ≤ 90)) ⊎ ((97 ≤ octet) × (octet ≤ 122))

-- the octet is a printable character of ASCII, from the space to the tilde
abbrev pub IsPrintable : ℕ → Type 0
IsPrintable octet = (0x20 ≤ octet) × (octet ≤ 0x7E)

-- the octets are a value of the rule's syntax
abbrev pub IsOf : Rule → List ℕ → Type 0
IsOf Text octets = (octets ≢ []) × IsUtf8 octets
IsOf Ascii octets = (octets ≢ []) × IsAscii octets
IsOf Phone octets = (octets ≢ []) × All IsPrintable octets
IsOf Country octets = (length octets ≡ 2) × All IsLetter octets
IsOf Octets octets = Unit {0}

-- the octets may be a substring part of the rule: a part of a country may be one letter
abbrev pub IsPartOf : Rule → List ℕ → Type 0
IsPartOf Text octets = (octets ≢ []) × IsUtf8 octets
IsPartOf Ascii octets = (octets ≢ []) × IsAscii octets
IsPartOf Phone octets = (octets ≢ []) × All IsPrintable octets
IsPartOf Country octets = ((length octets ≡ 1) ⊎ (length octets ≡ 2)) × All IsLetter octets
IsPartOf Octets octets = Unit {0}

-- the same by tests, for the definitions of keys, and proved to agree with the above: a letter of ASCII
abbrev pub is_letter : ℕ → Bool
is_letter octet = nat_le 65 octet && nat_le octet 90 || nat_le 97 octet && nat_le octet 122

-- a printable character of ASCII, by a test that is proved to agree
abbrev pub is_printable : ℕ → Bool
is_printable octet = nat_le 0x20 octet && nat_le octet 0x7E

-- there is an octet
abbrev pub is_filled : List ℕ → Bool
is_filled octets = nat_lt 0 (length octets)

-- whether the octets are a value of the rule's syntax
unfoldable pub is_of : Rule → List ℕ → Bool
is_of Text octets = is_filled octets && is_utf8 octets
is_of Ascii octets = is_filled octets && list_all (λ octet. nat_lt octet 128) octets
is_of Phone octets = is_filled octets && list_all is_printable octets
is_of Country octets = length octets == 2 && list_all is_letter octets
is_of Octets octets = true

-- whether the octets may be a substring part of the rule
unfoldable pub is_part_of : Rule → List ℕ → Bool
is_part_of Text octets = is_filled octets && is_utf8 octets
is_part_of Ascii octets = is_filled octets && list_all (λ octet. nat_lt octet 128) octets
is_part_of Phone octets = is_filled octets && list_all is_printable octets
is_part_of Country octets = (length octets == 1 || length octets == 2) && list_all is_letter octets
is_part_of Octets octets = true
