-- The laws over the definitions that this crate's functions of laws state.
use Rattle.std.specs.Prelude.{◌≡◌, ℕ, ◌<◌, ◌≤◌, ◌^◌, List, ◌++◌, length, Some, ℤ, FitsSigned}
use Rattle.std.specs.Int.{w64}
use Rattle.std.specs.List.{AllByRecursion}
use Rattle.ber_elements.specs.declared.kinds.Header.{Header}
use Rattle.ber_elements.specs.declared.kinds.Header.TheVariants.{Head}
use Rattle.ber_elements.specs.write.Element.{SpellsLength, IsTag, IsHeader, Elem}
use Rattle.ber_elements.specs.Heading.{IsHeading, header_at}
use Rattle.ber_elements.specs.Integer.{IsInteger, int_at, int_octets}
use Rattle.ber_elements.specs.write.Spelling.{length_octets, header_octets}

-- equal octets that begin with elements begin with one element
pub record SameElement (tag tag' : ℕ) (content content' bytes bytes' rest rest' : List ℕ) : Type 0 where
  pub tags : tag ≡ tag'
  pub contents : content ≡ content'
  pub elements : bytes ≡ bytes'
  pub rests : rest ≡ rest'

-- each is a number below 256
abbrev pub AreOctets : List ℕ → Type 0
AreOctets octets = AllByRecursion (λ octet. octet < 256) octets

-- no element is the front of another
abbrev pub NoElementIsAFront : Type 0
NoElementIsAFront = (tag tag' : ℕ) (content content' bytes bytes' rest rest' : List ℕ)
    → Elem tag content bytes → Elem tag' content' bytes' → bytes ++ rest ≡ bytes' ++ rest'
    → SameElement tag tag' content content' bytes bytes' rest rest'

-- octets have one heading
abbrev pub OneHeading : Type 0
OneHeading = (bytes : List ℕ) (heading other : Header) → IsHeading bytes heading → IsHeading bytes other → heading ≡ other

-- a written header is one, and is read again, whatever follows it
pub record HeaderReadsAgain (tag len : ℕ) (rest : List ℕ) : Type 0 where
  pub spells : IsHeader (header_octets tag len) tag len
  pub again : header_at (header_octets tag len ++ rest) ≡ Head tag (length (header_octets tag len)) len

-- this holds of each tag, and of each length below 2^32
abbrev pub HeadersReadAgain : Type 0
HeadersReadAgain = (tag len : ℕ) (rest : List ℕ) → IsTag tag → len < 2 ^ 32 → HeaderReadsAgain tag len rest

-- a written integer stands for itself, in the shortest form, and is read again
pub record IntegerReadsAgain (value : ℤ) : Type 0 where
  pub stands : IsInteger (int_octets value) value
  pub again : int_at (int_octets value) ≡ Some value

-- this holds of each integer of 64 bits
abbrev pub IntegersReadAgain : Type 0
IntegersReadAgain = (value : ℤ) → FitsSigned w64 value → IntegerReadsAgain value

-- no spelling of a length is shorter than the written one
abbrev pub LengthsAreShortest : Type 0
LengthsAreShortest = (len : ℕ) (spelled : List ℕ) → AreOctets spelled → SpellsLength spelled len → length (length_octets len) ≤ length spelled

-- an integer has one content
abbrev pub OneInteger : Type 0
OneInteger = (content other : List ℕ) (value : ℤ) → AreOctets content → AreOctets other
    → IsInteger content value → IsInteger other value → content ≡ other
