-- The content of an INTEGER or an ENUMERATED: two's complement in the fewest octets (X.690 8.3).
use Rattle.std.specs.Prelude.{◌≡◌, ℕ, ◌-◌, ◌<◌, ◌≤◌, ℤ, pos, negsuc, List, [], ◌∷◌, length, map, Bool, true, false, Option, Some, None, ◌==◌, ◌&&◌, not, nat_lt, nat_le, int_lt, if◌then◌else◌}
use Rattle.std.specs.Int.{w64, to_be_bytes}
use Rattle.ber_elements.specs.write.Element.{number_after}

-- ---- the relation

-- each bit turned
abbrev pub turned : List ℕ → List ℕ
turned octets = map (λ octet. 255 - octet) octets

-- the number that octets stand for in two's complement: the first bit is the sign, and behind a set sign
-- the turned octets spell how far the number is below -1
abbrev pub signed_number : List ℕ → ℤ
signed_number [] = pos 0
signed_number (octet ∷ octets) =
    if nat_lt octet 128 then pos (number_after 0 (octet ∷ octets)) else negsuc (number_after 0 (turned (octet ∷ octets)))

-- there is an octet, and the first nine bits aren't all alike (X.690 8.3.2)
abbrev pub IsShortest : List ℕ → Type 0
IsShortest [] = ⊥
IsShortest (first ∷ []) = Unit {0}
IsShortest (first ∷ second ∷ octets) = (first ≡ 0 → second < 128 → ⊥) × (first ≡ 255 → 128 ≤ second → ⊥)

-- the octets are the content of an element that stands for the integer
pub record IsInteger (content : List ℕ) (value : ℤ) : Type 0 where
  pub shortest : IsShortest content
  pub stands : value ≡ signed_number content

-- ---- computed

-- the first of two octets only repeats the sign
abbrev pub is_spare : ℕ → ℕ → Bool
is_spare first second = if nat_lt second 128 then first == 0 else first == 255

-- there is an octet, and the first of several does more than repeat the sign
abbrev pub is_shortest : List ℕ → Bool
is_shortest [] = false
is_shortest (first ∷ []) = true
is_shortest (first ∷ second ∷ octets) = not (is_spare first second)

-- the integer of at most eight octets
unfoldable pub int_at : List ℕ → Option ℤ
int_at content = if is_shortest content && nat_le (length content) 8 then Some (signed_number content) else None

-- octets without the zeros in front that only repeat a clear sign
abbrev pub trimmed : List ℕ → List ℕ
trimmed [] = []
trimmed (first ∷ []) = first ∷ []
trimmed (first ∷ second ∷ octets) = if first == 0 && nat_lt second 128 then trimmed (second ∷ octets) else first ∷ second ∷ octets

-- how far an integer is above -1 or below 0
abbrev pub magnitude : ℤ → ℕ
magnitude (pos number) = number
magnitude (negsuc number) = number

-- the content octets of an integer from -2^63 to 2^63 - 1
unfoldable pub int_octets : ℤ → List ℕ
int_octets value =
    if int_lt value (pos 0) then turned (trimmed (to_be_bytes w64 (magnitude value))) else trimmed (to_be_bytes w64 (magnitude value))
