-- Layouts: what stands in the content of an element, as data (X.690 8.9; RFC 4511 section 4). A layout has values, a
-- relation of values to octets, a reading and a written spelling.
use Rattle.std.specs.Prelude.{◌≡◌, ℕ, ◌<◌, ◌≤◌, ◌%◌, ◌^◌, Bool, true, false, ◌&&◌, ◌||◌, not, List, [], ◌++◌, length, Option, Some, None, pos, ◌==◌, nat_lt, nat_le, if◌then◌else◌}
use Rattle.std.specs.List.{AllByRecursion}
use Rattle.ber_elements.specs.write.Element.{IsTag}
use Rattle.ber_elements.specs.Integer.{int_octets}
use Rattle.ber_layout.specs.element.Pieces.{IsFurther, IsNumberIn, ◌>>=◌, number_in, any_tag, other_than, are_pieces}
use Rattle.ber_layout.specs.components.Flags.{IsFlag, flag_of, flag_octets}
use Rattle.ber_layout.specs.components.Components.{Follows, MayFollow, MarkFollows, EachFollows, any_of, required_of, optional_of, marked_of, each_of}
use Rattle.ber_layout.specs.Spellings.{element_octets, optional_octets, marked_octets, each_octets}

-- any octets; octets that aren't kept, of which none are written; an INTEGER or ENUMERATED from low to high; one that
-- isn't kept, of which the least is written; a BOOLEAN; nothing; any further elements; further elements but with this
-- tag; an element with any tag; one with this tag; one that may be absent; a BOOLEAN that is absent for FALSE; any
-- number of elements with this tag
pub data Layout : Type 0 where
  AnyOctets : Layout
  Ignored : Layout
  Number : ℕ → ℕ → Layout
  Skipped : ℕ → ℕ → Layout
  Flag : Layout
  End : Layout
  Further : Layout
  FurtherBut : ℕ → Layout
  AnyElement : Layout → Layout
  Then : ℕ → Layout → Layout → Layout
  Maybe : ℕ → Layout → Layout → Layout
  Marked : ℕ → Layout → Layout
  Each : ℕ → Layout → Layout → Layout

-- the values of a layout
abbrev pub Value : Layout → Type 0
Value AnyOctets = List ℕ
Value Ignored = Unit {0}
Value (Number low high) = ℕ
Value (Skipped low high) = Unit {0}
Value Flag = Bool
Value End = Unit {0}
Value Further = Unit {0}
Value (FurtherBut tag) = Unit {0}
Value (AnyElement next) = (ℕ × List ℕ) × Value next
Value (Then tag inner next) = Value inner × Value next
Value (Maybe tag inner next) = Option (Value inner) × Value next
Value (Marked tag next) = Bool × Value next
Value (Each tag inner next) = List (Value inner) × Value next

-- the octets say the value
abbrev pub Says : (l : Layout) → Value l → List ℕ → Type 0
Says AnyOctets value bytes = value ≡ bytes
Says Ignored value bytes = Unit {0}
Says (Number low high) value bytes = IsNumberIn low high bytes value
Says (Skipped low high) value bytes = (number : ℕ) × IsNumberIn low high bytes number
Says Flag value bytes = IsFlag value bytes
Says End value bytes = bytes ≡ []
Says Further value bytes = IsFurther any_tag bytes
Says (FurtherBut tag) value bytes = IsFurther (other_than tag) bytes
Says (AnyElement next) ((tag, value), rest) bytes = Follows tag (λ content. value ≡ content) (Says next rest) bytes
Says (Then tag inner next) (value, rest) bytes = Follows tag (Says inner value) (Says next rest) bytes
Says (Maybe tag inner next) (value, rest) bytes = MayFollow tag (Says inner) (Says next rest) value bytes
Says (Marked tag next) (value, rest) bytes = MarkFollows tag (Says next rest) value bytes
Says (Each tag inner next) (values, rest) bytes = EachFollows tag (Says inner) (Says next rest) values bytes

-- what is made of the value that the octets say, if they say one
unfoldable pub reads_into : {B : Type 0} (l : Layout) → (Value l → Option B) → List ℕ → Option B
reads_into AnyOctets make bytes = make bytes
reads_into Ignored make bytes = make tt
reads_into (Number low high) make bytes = number_in low high bytes >>= λ number. make number
reads_into (Skipped low high) make bytes = number_in low high bytes >>= λ number. make tt
reads_into Flag make bytes = flag_of bytes >>= λ flag. make flag
reads_into End make bytes = if length bytes == 0 then make tt else None
reads_into Further make bytes = if are_pieces any_tag bytes then make tt else None
reads_into (FurtherBut tag) make bytes = if are_pieces (other_than tag) bytes then make tt else None
reads_into (AnyElement next) make bytes = any_of bytes >>= λ found. reads_into next (λ value. make (found.value, value)) found.rest
reads_into (Then tag inner next) make bytes =
    required_of tag (reads_into inner Some) bytes >>= λ found. reads_into next (λ value. make (found.value, value)) found.rest
reads_into (Maybe tag inner next) make bytes =
    optional_of tag (reads_into inner Some) bytes >>= λ found. reads_into next (λ value. make (found.value, value)) found.rest
reads_into (Marked tag next) make bytes = marked_of tag bytes >>= λ found. reads_into next (λ value. make (found.value, value)) found.rest
reads_into (Each tag inner next) make bytes =
    each_of tag (reads_into inner Some) bytes >>= λ found. reads_into next (λ value. make (found.value, value)) found.rest

-- the value that the octets say, if they say one
abbrev pub reads : (l : Layout) → List ℕ → Option (Value l)
reads l bytes = reads_into l Some bytes

-- the written octets of a value
abbrev pub writes : (l : Layout) → Value l → List ℕ
writes AnyOctets value = value
writes Ignored value = []
writes (Number low high) value = int_octets (pos value)
writes (Skipped low high) value = int_octets (pos low)
writes Flag value = flag_octets value
writes End value = []
writes Further value = []
writes (FurtherBut tag) value = []
writes (AnyElement next) ((tag, content), rest) = element_octets tag content ++ writes next rest
writes (Then tag inner next) (value, rest) = element_octets tag (writes inner value) ++ writes next rest
writes (Maybe tag inner next) (value, rest) = optional_octets tag (writes inner) value ++ writes next rest
writes (Marked tag next) (value, rest) = marked_octets tag value ++ writes next rest
writes (Each tag inner next) (values, rest) = each_octets tag (writes inner) values ++ writes next rest

-- the content of an element has a length that can be written
abbrev pub IsShort : List ℕ → Type 0
IsShort content = length content < 2 ^ 32

-- where there is a value, it fits
abbrev pub MayFit : {A : Type 0} → (A → Type 0) → Option A → Type 0
MayFit Inner None = Unit {0}
MayFit Inner (Some value) = Inner value

-- the value has a written spelling that says it
abbrev pub Fits : (l : Layout) → Value l → Type 0
Fits AnyOctets value = Unit {0}
Fits Ignored value = Unit {0}
Fits (Number low high) value = (low ≤ value) × (value ≤ high)
Fits (Skipped low high) value = Unit {0}
Fits Flag value = Unit {0}
Fits End value = Unit {0}
Fits Further value = Unit {0}
Fits (FurtherBut tag) value = Unit {0}
Fits (AnyElement next) ((tag, content), rest) = (IsTag tag × IsShort content) × Fits next rest
Fits (Then tag inner next) (value, rest) = (Fits inner value × IsShort (writes inner value)) × Fits next rest
Fits (Maybe tag inner next) (value, rest) = MayFit (λ part. Fits inner part × IsShort (writes inner part)) value × Fits next rest
Fits (Marked tag next) (value, rest) = Fits next rest
Fits (Each tag inner next) (values, rest) = AllByRecursion (λ part. Fits inner part × IsShort (writes inner part)) values × Fits next rest

-- ---- layouts that can be read in one way

-- a tag of one octet
abbrev pub is_tag : ℕ → Bool
is_tag tag = not (tag % 32 == 31)

-- octets of the layout may begin with this tag
abbrev pub may_begin : ℕ → Layout → Bool
may_begin tag AnyOctets = true
may_begin tag Ignored = true
may_begin tag (Number low high) = true
may_begin tag (Skipped low high) = true
may_begin tag Flag = true
may_begin tag End = false
may_begin tag Further = true
may_begin tag (FurtherBut other) = not (tag == other)
may_begin tag (AnyElement next) = true
may_begin tag (Then other inner next) = tag == other
may_begin tag (Maybe other inner next) = tag == other || may_begin tag next
may_begin tag (Marked other next) = tag == other || may_begin tag next
may_begin tag (Each other inner next) = tag == other || may_begin tag next

-- tags are tags, the numbers fit 63 bits, and what may be absent has another tag than what may come next
abbrev pub is_clear : Layout → Bool
is_clear AnyOctets = true
is_clear Ignored = true
is_clear (Number low high) = nat_lt high 9223372036854775808
is_clear (Skipped low high) = nat_le low high && nat_lt high 9223372036854775808
is_clear Flag = true
is_clear End = true
is_clear Further = true
is_clear (FurtherBut tag) = true
is_clear (AnyElement next) = is_clear next
is_clear (Then tag inner next) = is_tag tag && (is_clear inner && is_clear next)
is_clear (Maybe tag inner next) = is_tag tag && (not (may_begin tag next) && (is_clear inner && is_clear next))
is_clear (Marked tag next) = is_tag tag && (not (may_begin tag next) && is_clear next)
is_clear (Each tag inner next) = is_tag tag && (not (may_begin tag next) && (is_clear inner && is_clear next))
