-- The messages that answer a request (RFC 4511 4.1.1): entries, which a search alone has, and then one response of its kind.
use Rattle.std.specs.Prelude.{◌≡◌, ◌≢◌, ℕ, List, [], ◌∷◌, ◌++◌, flat_map, Option, Some, None}
use Rattle.std.specs.List.{AllByRecursion}
use Rattle.ldap_msg.specs.declared.kinds.Request.{Request}
use Rattle.ldap_msg.specs.declared.kinds.Request.TheVariants as request
use Rattle.ldap_msg.specs.declared.kinds.Update.TheVariants as update
use Rattle.ldap_msg.specs.declared.kinds.Reply.{Reply}
use Rattle.ldap_msg.specs.declared.kinds.Reply.TheVariants as reply
use Rattle.ldap_msg.specs.declared.operations.ResultCode.TheVariants as code
use Rattle.ldap_msg.specs.declared.kinds.Update.{Update}
use Rattle.ldap_msg.specs.declared.operations.Ending.TheVariants as ending
use Rattle.ldap_msg.specs.declared.operations.Response.{Response}
use Rattle.ldap_msg.specs.declared.operations.Response.TheVariants as response
use Rattle.ldap_msg.specs.Replies.{response_for, reply_octets, reply_of, notice_name}
use Rattle.ldap_msg.specs.Ranges.{IsWritableReply}
use Rattle.ldap_msg.specs.Streams.{IsOuter}
use Rattle.page_core.specs.Endings.{done, page_end}
use Rattle.page_core.specs.Laws.{IsWritableEnd}

-- a message that is sent: a reply, or the end of a page, which is a search done that comes with the control of pages and a
-- cookie (RFC 2696 3)
pub data Sent : Type 0 where
  Plain : Reply → Sent
  PageEnd : List ℕ → Sent

-- the reply in it
abbrev pub reply_in : Sent → Reply
reply_in (Plain reply) = reply
reply_in (PageEnd cookie) = done

-- its written octets, with the messageID
abbrev pub octets_of : ℕ → Sent → List ℕ
octets_of id (Plain reply) = reply_octets id reply
octets_of id (PageEnd cookie) = page_end id cookie

-- it can be written so that it is read again
abbrev pub IsWritableSent : ℕ → Sent → Type 0
IsWritableSent id (Plain reply) = IsWritableReply id reply
IsWritableSent id (PageEnd cookie) = IsWritableEnd id cookie

-- it is a message that a stream may hold, and can be written so that it is read again
pub record IsReadable (id : ℕ) (one : Sent) : Type 0 where
  pub whole : IsOuter (octets_of id one)
  pub writable : IsWritableSent id one

-- the kind of the response that it is
abbrev pub kind_of : Sent → Response
kind_of sent = response_for (reply_in sent)

-- the kind of the response that a request for a change has
abbrev pub change_kind : Update → Response
change_kind (update.Modify modify) = response.Ended ending.Modify
change_kind (update.Add add) = response.Ended ending.Add
change_kind (update.Delete delete) = response.Ended ending.Delete
change_kind (update.Rename rename) = response.Ended ending.Rename

-- the kind of the response that a request has; an unbind and an abandon have none (4.3 and 4.11)
abbrev pub response_kind : Request → Option Response
response_kind (request.Bind bind) = Some (response.Ended ending.Bind)
response_kind request.Unbind = None
response_kind (request.Search search) = Some (response.Ended ending.Done)
response_kind (request.Update update) = Some (change_kind update)
response_kind (request.Compare compare) = Some (response.Ended ending.Compare)
response_kind (request.Abandon id) = None
response_kind (request.Extended name value) = Some response.Extended

-- one response of the kind, with nothing behind it and, where it ends a search, entries before it
pub record EndsWithOne (kind : Response) (sent : List Sent) : Type 0 where
  pub entries : List Sent
  pub last : Sent
  pub are : sent ≡ entries ++ last ∷ []
  pub each : AllByRecursion (λ one. kind_of one ≡ response.Entry) entries
  pub ends : kind_of last ≡ kind
  pub others_none : kind ≢ response.Ended ending.Done → entries ≡ []

-- the messages answer a request whose response is of this kind; one that has none is answered by no message
abbrev pub AreResponses : Option Response → List Sent → Type 0
AreResponses None sent = sent ≡ []
AreResponses (Some kind) sent = EndsWithOne kind sent

-- the octets are those of messages with this messageID that answer the request
pub record IsAnswered (asked : Request) (id : ℕ) (octets : List ℕ) : Type 0 where
  pub sent : List Sent
  pub responses : AreResponses (response_kind asked) sent
  pub written : octets ≡ flat_map (octets_of id) sent

-- the notice of disconnection (4.4.1): an extended response of its own name with protocolError, which is sent with the
-- messageID 0
abbrev pub notice : Reply
notice = reply.Extended (record { code = code.ProtocolError; matched = [] }) (Some notice_name) None

-- each of them is read again as its reply, with this messageID
abbrev pub AreReadAgain : ℕ → List Sent → Type 0
AreReadAgain id sent = AllByRecursion (λ one. reply_of (octets_of id one) ≡ Some (id, reply_in one)) sent

-- so the octets answer the request, and each message of them is read again
pub record IsReadAnswer (asked : Request) (id : ℕ) (octets : List ℕ) : Type 0 where
  pub answers : IsAnswered asked id octets
  pub again : AreReadAgain id answers.sent
