-- Where the content of a message begins, behind its header (X.690 8.1.2 and 8.1.3; RFC 4511 5).
use Rattle.std.specs.Prelude.{◌≡◌, ℕ, ◌≤◌, List, [], length, take, drop, Some}
use Rattle.ber_elements.specs.declared.kinds.Header.{Header}
use Rattle.ber_elements.specs.declared.kinds.Header.TheVariants as header
use Rattle.ber_elements.specs.Heading.{header_at}
use Rattle.ber_layout.specs.element.Pieces.{tagged_at}
use Rattle.ldap_msg.specs.declared.kinds.Frame.{Frame}
use Rattle.ldap_msg.specs.declared.kinds.Frame.TheVariants as frame
use Rattle.ldap_msg.specs.declared.kinds.Framed.{Framed}
use Rattle.ldap_msg.specs.declared.kinds.Framed.TheVariants as framed
use Rattle.ldap_msg.specs.reading.Messages.{message_in, message_of}

-- the frame, without where the content begins
abbrev pub frame_of : Framed → Frame
frame_of (framed.Whole head count) = frame.Whole count
frame_of framed.More = frame.More
frame_of framed.Bad = frame.Bad

-- the first octets are a whole message: an element with a header of so many octets, and nothing behind it; so what
-- they say is what the content of this element says
pub record IsHeaded (bytes : List ℕ) (head count : ℕ) : Type 0 where
  pub within : head ≤ count
  pub there : count ≤ length bytes
  pub element : tagged_at 0x30 (take count bytes) ≡ Some (record { tag = 0x30; content = drop head (take count bytes); rest = [] })
  pub message : message_of (take count bytes) ≡ message_in (drop head (take count bytes))

-- where there is a whole message, its content stands behind its header
abbrev pub HasContent : List ℕ → Framed → Type 0
HasContent bytes (framed.Whole head count) = IsHeaded bytes head count
HasContent bytes framed.More = Unit {0}
HasContent bytes framed.Bad = Unit {0}

-- ---- computed

-- how many octets a header has
abbrev pub head_of : Header → ℕ
head_of (header.Head tag head len) = head
head_of header.Short = 0
head_of header.Bad = 0

-- where there is a whole message, the header has so many octets
abbrev pub HasHead : List ℕ → Framed → Type 0
HasHead bytes (framed.Whole head count) = head_of (header_at bytes) ≡ head
HasHead bytes framed.More = Unit {0}
HasHead bytes framed.Bad = Unit {0}
