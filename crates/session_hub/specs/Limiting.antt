-- What a server that limits searches answers them as (RFC 4511 4.5.1.4): a sizeLimit of its own, beside that of the request.
use Rattle.std.specs.Prelude.{◌≡◌, ◌<◌, ◌≤◌, ℕ, ◌==◌, nat_lt, Bool, true, false, ◌||◌, List, length, filter, Option, if◌then◌else◌}
use Rattle.std.specs.Option.{option_map}
use Rattle.session_model.specs.ldap_msg.declared.kinds.SearchRequest.{SearchRequest}
use Rattle.session_model.specs.ldap_msg.declared.kinds.Request.{Request}
use Rattle.session_model.specs.ldap_msg.declared.kinds.Request.TheVariants as request
use Rattle.session_model.specs.ldap_msg.declared.kinds.Message.{Message}
use Rattle.session_model.specs.ldap_msg.declared.kinds.Reply.{Reply}
use Rattle.session_model.specs.ldap_msg.declared.kinds.Reply.TheVariants as reply

-- the lesser of the two, where 0 is no limit
abbrev pub lesser_limit : ℕ → ℕ → ℕ
lesser_limit limit size = if limit == 0 then size else if (size == 0) || nat_lt limit size then limit else size

-- a search as it is answered: its sizeLimit is at most the server's
abbrev pub limited : ℕ → SearchRequest → SearchRequest
limited limit search = record search { size = lesser_limit limit search.size }

-- a request as it is answered: a search with its limit, and any other as it is
abbrev pub limited_request : ℕ → Request → Request
limited_request limit (request.Bind bind) = request.Bind bind
limited_request limit request.Unbind = request.Unbind
limited_request limit (request.Search search) = request.Search (limited limit search)
limited_request limit (request.Update update) = request.Update update
limited_request limit (request.Compare compare) = request.Compare compare
limited_request limit (request.Abandon id) = request.Abandon id
limited_request limit (request.Extended name value) = request.Extended name value

-- a message as it is answered, with its number and its controls
abbrev pub limited_message : ℕ → Message → Message
limited_message limit message = record message { request = limited_request limit message.request }

-- the same of what was read, if it was a message
abbrev pub limited_read : ℕ → Option Message → Option Message
limited_read limit read = option_map (limited_message limit) read

-- the sizeLimit is one, and at most this
pub record IsWithin (limit size : ℕ) : Type 0 where
  pub some : 0 < size
  pub within : size ≤ limit

-- what is asked for stays, but for the sizeLimit of a search, which is within the server's, where it has one
abbrev pub IsLimitedTo : ℕ → Request → Request → Type 0
IsLimitedTo limit (request.Search search) now =
    (size : ℕ) × (now ≡ request.Search (record search { size = size })) × (0 < limit → IsWithin limit size)
IsLimitedTo limit asked now = now ≡ asked

-- a message keeps its number, its controls and what it asks for
pub record KeepsAsked (limit : ℕ) (asked now : Message) : Type 0 where
  pub id : now.id ≡ asked.id
  pub controls : now.controls ≡ asked.controls
  pub request : IsLimitedTo limit asked.request now.request

-- an entry, among the replies to a search
abbrev pub is_entry : Reply → Bool
is_entry (reply.Entry name attributes) = true
is_entry (reply.Ended ending result) = false
is_entry (reply.Extended result name value) = false

-- how many entries are among replies
abbrev pub entries_among : List Reply → ℕ
entries_among replies = length (filter is_entry replies)
