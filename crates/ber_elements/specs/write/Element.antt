-- Elements: a tag octet, a length and the content (X.690 8.1.2 to 8.1.4), with the tags and lengths that LDAP uses
-- (RFC 4511 5.1: no indefinite length).
use Rattle.std.specs.Prelude.{◌≡◌, ◌≢◌, ◌⊎◌, ℕ, ◌+◌, ◌*◌, ◌%◌, ◌<◌, ◌≤◌, List, [], ◌∷◌, ◌++◌, length}

-- the number that octets spell, the most significant first, after octets that spell another number
abbrev pub number_after : ℕ → List ℕ → ℕ
number_after number [] = number
number_after number (octet ∷ octets) = number_after (256 * number + octet) octets

-- the octets spell the length: one octet below 128 stands for itself (the short form), or an octet 128 + k is
-- followed by k octets of the number, k being 1 to 4 (the long form, shortest or not)
abbrev pub SpellsLength : List ℕ → ℕ → Type 0
SpellsLength [] len = ⊥
SpellsLength (octet ∷ octets) len = ((octet < 128) × (octets ≡ []) × (len ≡ octet))
    ⊎ ((0 < length octets) × (length octets ≤ 4) × (octet ≡ 128 + length octets) × (len ≡ number_after 0 octets))

-- a tag of one octet: it isn't of the form that goes on in further octets (X.690 8.1.2.4)
abbrev pub IsTag : ℕ → Type 0
IsTag tag = tag % 32 ≢ 31

-- the octets are a tag and a length
abbrev pub IsHeader : List ℕ → ℕ → ℕ → Type 0
IsHeader [] tag len = ⊥
IsHeader (first ∷ octets) tag len = (first ≡ tag) × IsTag tag × SpellsLength octets len

-- the bytes are a header and then the content
pub record Elem (tag : ℕ) (content bytes : List ℕ) : Type 0 where
  pub header : List ℕ
  pub heads : IsHeader header tag (length content)
  pub joined : bytes ≡ header ++ content
