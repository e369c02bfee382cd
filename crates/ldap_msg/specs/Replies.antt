-- Replies and their octets (RFC 4511 4.1.1, 4.1.9, 4.2.2, 4.5.2, 4.12).
use Rattle.std.specs.Prelude.{◌≡◌, ℕ, List, [], ◌∷◌, length, map, Option, Some, None, ◌==◌, if◌then◌else◌}
use Rattle.ber_layout.specs.element.Pieces.{◌>>=◌}
use Rattle.ber_layout.specs.components.Components.{Follows, required_of}
use Rattle.ber_layout.specs.Spellings.{element_octets}
use Rattle.ber_layout.specs.Layouts.{Layout, Value, Says as SaysLayout, IsShort, reads, writes}
use Rattle.ber_layout.specs.Layouts.Layout.{Number, FurtherBut, AnyElement, Then, Maybe}
use Rattle.ldap_msg.specs.declared.kinds.Reply.{Reply}
use Rattle.ldap_msg.specs.declared.kinds.Reply.TheVariants as reply
use Rattle.ldap_msg.specs.declared.operations.Response.{Response}
use Rattle.ldap_msg.specs.declared.operations.Response.TheVariants as response
use Rattle.ldap_msg.specs.declared.operations.ResultCode.TheVariants as code
use Rattle.ldap_msg.specs.operations.Operations.{response_tag, response_of}
use Rattle.ldap_msg.specs.operations.ResultCodes.{code_from}
use Rattle.ldap_msg.specs.Attributes.{attribute_from}
use Rattle.ldap_msg.specs.Results.{result_layout, result_parts, result_from, entry_layout, entry_parts, answered_layout, answered_parts}
use Rattle.ldap_msg.specs.Controls.{controls_layout}
use Rattle.ldap_msg.specs.reading.Contents.{SaysBy}
use Rattle.ldap_msg.specs.reading.Messages.{id_part, tag_part, content_part}

-- LDAPMessage, whose messageID may be 0 in a reply (4.4)
abbrev pub reply_layout : Layout
reply_layout = Then 0x02 (Number 0 2147483647) (AnyElement (Maybe 0xa0 controls_layout (FurtherBut 0xa0)))

-- the response of a reply
abbrev pub response_for : Reply → Response
response_for (reply.Entry name attributes) = response.Entry
response_for (reply.Ended ending result) = response.Ended ending
response_for (reply.Extended result name value) = response.Extended

-- the reply of an entry's parts
abbrev pub entry_from : Value entry_layout → Reply
entry_from (name, ((attributes, _), _)) = reply.Entry name (map attribute_from attributes)

-- the reply of the parts of what an extended operation answers
abbrev pub answered_from : Value answered_layout → Reply
answered_from (number, (matched, (_, (name, (value, _))))) = reply.Extended (record { code = code_from number; matched = matched }) name value

-- the content of its element says the reply
abbrev pub SaysReply : Reply → List ℕ → Type 0
SaysReply (reply.Entry name attributes) content = SaysBy entry_layout entry_from (reply.Entry name attributes) content
SaysReply (reply.Ended ending result) content = SaysLayout result_layout (result_parts result) content
SaysReply (reply.Extended result name value) content = SaysLayout answered_layout (answered_parts result name value) content

-- the content of its element says the reply with this messageID; its parts are those that a request's message has
pub record SaysIn (answer : ℕ × Reply) (content : List ℕ) : Type 0 where
  pub parts : Value reply_layout
  pub says : SaysLayout reply_layout parts content
  pub id : id_part parts ≡ answer.0
  pub tag : tag_part parts ≡ response_tag (response_for answer.1)
  pub reply : SaysReply answer.1 (content_part parts)

-- the octets say the reply with this messageID
abbrev pub Replies : ℕ → Reply → List ℕ → Type 0
Replies id answer bytes = Follows 0x30 (SaysIn (id, answer)) (λ rest. rest ≡ []) bytes

-- ---- computed

-- the reply of a response that a content says
abbrev pub reply_in : Response → List ℕ → Option Reply
reply_in response.Entry content = reads entry_layout content >>= λ parts. Some (entry_from parts)
reply_in (response.Ended ending) content = reads result_layout content >>= λ parts. Some (reply.Ended ending (result_from parts))
reply_in response.Extended content = reads answered_layout content >>= λ parts. Some (answered_from parts)

-- the reply that a tag and a content say
abbrev pub reply_at : ℕ × List ℕ → Option Reply
reply_at (tag, content) = response_of tag >>= λ response. reply_in response content

-- the messageID and the reply of these parts
abbrev pub answer_from : Value reply_layout → Option (ℕ × Reply)
answer_from (id, (response, _)) = reply_at response >>= λ answer. Some (id, answer)

-- the messageID and the reply that a content says
unfoldable pub answer_in : List ℕ → Option (ℕ × Reply)
answer_in content = reads reply_layout content >>= answer_from

-- the messageID and the reply that the octets say
unfoldable pub reply_of : List ℕ → Option (ℕ × Reply)
reply_of bytes = required_of 0x30 answer_in bytes >>= λ found. if length found.rest == 0 then Some found.value else None

-- the written content of a reply
abbrev pub reply_content : Reply → List ℕ
reply_content (reply.Entry name attributes) = writes entry_layout (entry_parts name attributes)
reply_content (reply.Ended ending result) = writes result_layout (result_parts result)
reply_content (reply.Extended result name value) = writes answered_layout (answered_parts result name value)

-- the parts of a reply's message
abbrev pub reply_parts : ℕ → Reply → Value reply_layout
reply_parts id answer = (id, ((response_tag (response_for answer), reply_content answer), (None, tt)))

-- the written content of a reply's message
abbrev pub message_content : ℕ → Reply → List ℕ
message_content id answer = writes reply_layout (reply_parts id answer)

-- the written octets of a reply's message
unfoldable pub reply_octets : ℕ → Reply → List ℕ
reply_octets id answer = element_octets 0x30 (message_content id answer)

-- its content has a length that can be written
abbrev pub IsShortReply : ℕ → Reply → Type 0
IsShortReply id answer = IsShort (message_content id answer)

-- 1.3.6.1.4.1.1466.20036
abbrev pub notice_name : List ℕ
notice_name = 49 ∷ 46 ∷ 51 ∷ 46 ∷ 54 ∷ 46 ∷ 49 ∷ 46 ∷ 52 ∷ 46 ∷ 49 ∷ 46 ∷ 49 ∷ 52 ∷ 54 ∷ 54 ∷ 46 ∷ 50 ∷ 48 ∷ 48 ∷ 51 ∷ 54 ∷ []

-- the notice of disconnection, with the code protocolError (RFC 4511 4.4.1)
unfoldable pub notice_octets : List ℕ
notice_octets = reply_octets 0 (reply.Extended (record { code = code.ProtocolError; matched = [] }) (Some notice_name) None)
