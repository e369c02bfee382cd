-- The messages that may change what a place shows: a change of entries, and of the connection's own a bind too.
use Rattle.std.specs.Prelude.{ℕ, Bool, true, false, ◌&&◌, ◌||◌, List}
use Rattle.std.specs.Option.{option_map_or}
use Rattle.session_hub.specs.session_model.ldap_msg.declared.kinds.Request.{Request}
use Rattle.session_hub.specs.session_model.ldap_msg.declared.kinds.Request.TheVariants as request
use Rattle.session_hub.specs.session_model.ldap_msg.reading.Messages.{message_of}
use Rattle.hush_laws.specs.Requests.{is_change}

-- a bind, after which another may ask
abbrev pub is_bind : Request → Bool
is_bind (request.Bind bind) = true
is_bind request.Unbind = false
is_bind (request.Search search) = false
is_bind (request.Update update) = false
is_bind (request.Compare compare) = false
is_bind (request.Abandon id) = false
is_bind (request.Extended name value) = false

-- a request, of the connection's own or of another's, that may change what a place shows
abbrev pub is_due_asked : Bool → Request → Bool
is_due_asked own asked = is_change asked || (own && is_bind asked)

-- so of a message; octets that are no message may not
abbrev pub is_due : Bool → List ℕ → Bool
is_due own octets = option_map_or (λ message. is_due_asked own message.request) (message_of octets) false
