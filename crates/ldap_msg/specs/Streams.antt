-- The messages of a stream of octets, what follows them, and when a stream can't go on (RFC 4511 5).
-- A message stands in an outer element: one with the tag of a SEQUENCE, whose content has at most 1,048,576 octets
-- (this limit is this server's).
use Rattle.std.specs.Prelude.{◌≡◌, ◌≢◌, ◌⊎◌, ℕ, zero, suc, ◌+◌, ◌<◌, ◌≤◌, Bool, true, false, List, [], ◌∷◌, ◌++◌, length, take, drop, All, ◌==◌, nat_lt, if◌then◌else◌}
use Rattle.ber_elements.specs.declared.kinds.Header.{Header}
use Rattle.ber_elements.specs.declared.kinds.Header.TheVariants as header
use Rattle.ber_elements.specs.write.Element.{Elem, SpellsLength}
use Rattle.ber_elements.specs.Heading.{header_at}
use Rattle.ldap_msg.specs.declared.kinds.Frame.{Frame}
use Rattle.ldap_msg.specs.declared.kinds.Frame.TheVariants.{Whole, More, Bad}

-- the most content octets of a message
abbrev pub most_content : ℕ
most_content = 1048576

-- ---- the relations

-- one outer element, whole
pub record IsOuter (bytes : List ℕ) : Type 0 where
  pub content : List ℕ
  pub element : Elem 48 content bytes
  pub fits : length content ≤ most_content

-- the octets of a list of messages, one after the other
abbrev pub joined : List (List ℕ) → List ℕ
joined [] = []
joined (message ∷ messages) = message ++ joined messages

-- the stream is these outer elements and then the rest
pub record Parts (stream : List ℕ) (messages : List (List ℕ)) (rest : List ℕ) : Type 0 where
  pub each : All IsOuter messages
  pub joins : stream ≡ joined messages ++ rest

-- the outer elements at the front of the stream, one behind the other and as many as there can be, and what follows
pub record IsWhole (stream : List ℕ) (messages : List (List ℕ)) (rest : List ℕ) : Type 0 where
  pub parts : Parts stream messages rest
  pub longest : (others : List (List ℕ)) (after : List ℕ) → Parts stream others after → length others ≤ length messages

-- octets that begin with the spelling of a length above the limit
pub record SpellsTooMuch (octets : List ℕ) : Type 0 where
  pub spelled : List ℕ
  pub after : List ℕ
  pub len : ℕ
  pub joins : octets ≡ spelled ++ after
  pub spells : SpellsLength spelled len
  pub above : most_content < len

-- a length that no message has: its first octet is 128 or above 132, or it is all there and above the limit
abbrev pub IsBrokenLength : List ℕ → Type 0
IsBrokenLength [] = ⊥
IsBrokenLength (octet ∷ octets) = ((octet ≡ 128) ⊎ (132 < octet)) ⊎ SpellsTooMuch (octet ∷ octets)

-- the octets are the front of no message: another tag, or a length that no message has
abbrev pub IsBroken : List ℕ → Type 0
IsBroken [] = ⊥
IsBroken (tag ∷ octets) = (tag ≢ 48) ⊎ IsBrokenLength octets

-- what stands at the front of a stream: a message of so many octets; the front of none; or neither
abbrev pub IsFrame : List ℕ → Frame → Type 0
IsFrame stream (Whole count) = (count ≤ length stream) × IsOuter (take count stream)
IsFrame stream More = ((message after : List ℕ) → IsOuter message → stream ≡ message ++ after → ⊥) × (IsBroken stream → ⊥)
IsFrame stream Bad = IsBroken stream

-- ---- computed

-- what a header says of a stream of so many octets
unfoldable pub framed : ℕ → Header → Frame
framed count (header.Head tag head len) =
    if nat_lt most_content len then Bad
    else if nat_lt count (head + len) then More
    else Whole (head + len)
framed count header.Short = More
framed count header.Bad = Bad

-- what stands at the front of a stream
unfoldable pub frame_at : List ℕ → Frame
frame_at [] = More
frame_at (tag ∷ octets) = if tag == 48 then framed (length (tag ∷ octets)) (header_at (tag ∷ octets)) else Bad

-- the message at the front and those behind it, and nothing where there is none
abbrev pub message_and : (List ℕ → List (List ℕ)) → List ℕ → Frame → List (List ℕ)
message_and behind stream (Whole count) = take count stream ∷ behind (drop count stream)
message_and behind stream More = []
message_and behind stream Bad = []

-- the same, of at most so many messages
unfoldable pub whole_of : ℕ → List ℕ → List (List ℕ)
whole_of zero stream = []
whole_of (suc most) stream = message_and (whole_of most) stream (frame_at stream)

-- what follows the message at the front and those behind it
abbrev pub rest_and : (List ℕ → List ℕ) → List ℕ → Frame → List ℕ
rest_and behind stream (Whole count) = behind (drop count stream)
rest_and behind stream More = stream
rest_and behind stream Bad = stream

-- the same, behind at most so many messages
unfoldable pub rest_behind : ℕ → List ℕ → List ℕ
rest_behind zero stream = stream
rest_behind (suc most) stream = rest_and (rest_behind most) stream (frame_at stream)

-- the whole messages of a stream, in order, each as its octets
unfoldable pub whole : List ℕ → List (List ℕ)
whole stream = whole_of (length stream) stream

-- what follows them
unfoldable pub rest_of : List ℕ → List ℕ
rest_of stream = rest_behind (length stream) stream

-- no message begins with such a front
abbrev pub is_bad : Frame → Bool
is_bad (Whole count) = false
is_bad More = false
is_bad Bad = true

-- what follows them is the front of no message
unfoldable pub is_broken : List ℕ → Bool
is_broken stream = is_bad (frame_at (rest_of stream))
