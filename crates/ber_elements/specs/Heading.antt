-- What stands at the front of some octets: a whole header, the front of one, or neither (X.690 8.1.2 and 8.1.3).
use Rattle.std.specs.Prelude.{◌≡◌, ◌⊎◌, ℕ, ◌+◌, ◌-◌, ◌%◌, ◌<◌, ◌≤◌, List, [], ◌∷◌, ◌++◌, length, take, ◌==◌, ◌||◌, nat_lt, if◌then◌else◌}
use Rattle.ber_elements.specs.declared.kinds.Header.{Header}
use Rattle.ber_elements.specs.declared.kinds.Header.TheVariants.{Head, Short, Bad}
use Rattle.ber_elements.specs.write.Element.{number_after, IsHeader}

-- the octets begin with a header of so many octets
pub record Begins (bytes : List ℕ) (tag count len : ℕ) : Type 0 where
  pub within : count ≤ length bytes
  pub heads : IsHeader (take count bytes) tag len

-- the octets are less than a whole header, and go on to be one
pub record IsFront (bytes : List ℕ) : Type 0 where
  pub tag : ℕ
  pub len : ℕ
  pub tail : List ℕ
  pub more : 0 < length tail
  pub heads : IsHeader (bytes ++ tail) tag len

-- the tag is one of several octets, or the length is indefinite or of more than four octets behind its first
abbrev pub IsUnreadable : List ℕ → Type 0
IsUnreadable [] = ⊥
IsUnreadable (tag ∷ []) = tag % 32 ≡ 31
IsUnreadable (tag ∷ octet ∷ octets) = (tag % 32 ≡ 31) ⊎ ((octet ≡ 128) ⊎ (132 < octet))

-- the answer is the one that the octets have
abbrev pub IsHeading : List ℕ → Header → Type 0
IsHeading bytes (Head tag head len) = Begins bytes tag head len
IsHeading bytes Short = IsFront bytes
IsHeading bytes Bad = IsUnreadable bytes

-- what the length octets say behind a tag
unfoldable pub length_at : ℕ → List ℕ → Header
length_at tag [] = Short
length_at tag (octet ∷ octets) =
    if nat_lt octet 128 then Head tag 2 octet
    else if octet == 128 || nat_lt 132 octet then Bad
    else if nat_lt (length octets) (octet - 128) then Short
    else Head tag (octet - 128 + 2) (number_after 0 (take (octet - 128) octets))

-- the answer, computed
unfoldable pub header_at : List ℕ → Header
header_at [] = Short
header_at (tag ∷ octets) = if tag % 32 == 31 then Bad else length_at tag octets
