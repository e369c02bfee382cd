-- Requests' messages and their octets (RFC 4511 4.1.1).
use Rattle.std.specs.Prelude.{◌≡◌, ℕ, List, [], length, Option, Some, None, ◌==◌, if◌then◌else◌}
use Rattle.ber_layout.specs.element.Pieces.{◌>>=◌}
use Rattle.ber_layout.specs.components.Components.{Follows, required_of}
use Rattle.ber_layout.specs.Spellings.{element_octets}
use Rattle.ber_layout.specs.Layouts.{Layout, Value, Says as SaysLayout, reads, writes}
use Rattle.ber_layout.specs.Layouts.Layout.{Number, FurtherBut, AnyElement, Then, Maybe}
use Rattle.ldap_msg.specs.declared.kinds.Message.{Message}
use Rattle.ldap_msg.specs.declared.kinds.Request.{Request}
use Rattle.ldap_msg.specs.declared.kinds.Request.TheVariants as request
use Rattle.ldap_msg.specs.Binds.{HasTag}
use Rattle.ldap_msg.specs.operations.Operations.{request_tag}
use Rattle.ldap_msg.specs.Controls.{controls_layout, controls_from, controls_parts}
use Rattle.ldap_msg.specs.reading.Contents.{operation_for, SaysContent, request_of, content_octets}

-- LDAPMessage ::= SEQUENCE { messageID INTEGER (0 .. maxInt), protocolOp CHOICE, controls [0] Controls OPTIONAL, ... };
-- a request's messageID isn't 0 (here)
abbrev pub message_layout : Layout
message_layout = Then 0x02 (Number 1 2147483647) (AnyElement (Maybe 0xa0 controls_layout (FurtherBut 0xa0)))

-- the messageID of these parts, the tag and the content of their operation, and their controls
abbrev pub id_part : Value message_layout → ℕ
id_part (id, _) = id

abbrev pub tag_part : Value message_layout → ℕ
tag_part (_, ((tag, _), _)) = tag

abbrev pub content_part : Value message_layout → List ℕ
content_part (_, ((_, content), _)) = content

abbrev pub controls_part : Value message_layout → Option (Value controls_layout)
controls_part (_, (_, (controls, _))) = controls

-- the content of its element says the message
pub record SaysIn (message : Message) (content : List ℕ) : Type 0 where
  pub parts : Value message_layout
  pub says : SaysLayout message_layout parts content
  pub id : id_part parts ≡ message.id
  pub tag : tag_part parts ≡ request_tag (operation_for message.request)
  pub request : SaysContent message.request (content_part parts)
  pub controls : controls_from (controls_part parts) ≡ message.controls

-- the octets say the message
abbrev pub Says : Message → List ℕ → Type 0
Says message bytes = Follows 0x30 (SaysIn message) (λ rest. rest ≡ []) bytes

-- ---- computed

-- the message of these parts
abbrev pub message_from : Value message_layout → Option Message
message_from (id, (operation, (controls, _))) = request_of operation >>= λ request. Some (record { id = id; request = request; controls = controls_from controls })

-- the message that a content says
unfoldable pub message_in : List ℕ → Option Message
message_in content = reads message_layout content >>= message_from

-- the message that the octets say
unfoldable pub message_of : List ℕ → Option Message
message_of bytes = required_of 0x30 message_in bytes >>= λ found. if length found.rest == 0 then Some found.value else None

-- ---- written

-- the parts of a message
abbrev pub message_parts : Message → Value message_layout
message_parts message = (message.id, ((request_tag (operation_for message.request), content_octets message.request), (controls_parts message.controls, tt)))

-- the written octets of a message
unfoldable pub request_octets : Message → List ℕ
request_octets message = element_octets 0x30 (writes message_layout (message_parts message))

-- a bind's other method has a tag of its own
abbrev pub HasOwnTag : Request → Type 0
HasOwnTag (request.Bind bind) = HasTag bind.auth
HasOwnTag request.Unbind = Unit {0}
HasOwnTag (request.Search search) = Unit {0}
HasOwnTag (request.Update update) = Unit {0}
HasOwnTag (request.Compare compare) = Unit {0}
HasOwnTag (request.Abandon id) = Unit {0}
HasOwnTag (request.Extended name value) = Unit {0}
