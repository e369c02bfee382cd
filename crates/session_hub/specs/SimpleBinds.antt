-- Simple binds of version 3 that have no controls (RFC 4511 4.2).
use Rattle.std.specs.Prelude.{◌==◌, ℕ, Bool, false, List, [], ◌∷◌, length, Option, Some, None, if◌then◌else◌, ◌&&◌}
use Rattle.session_model.specs.ber_layout.element.Pieces.{◌>>=◌, Piece, tagged_at, are_pieces, other_than}
use Rattle.session_model.specs.ber_layout.components.Components.{begins}
use Rattle.session_model.specs.ldap_msg.declared.kinds.Auth.{Auth}
use Rattle.session_model.specs.ldap_msg.declared.kinds.Auth.TheVariants.{Simple, Other}
use Rattle.session_model.specs.ldap_msg.declared.kinds.BindRequest.{BindRequest}
use Rattle.session_model.specs.ldap_msg.declared.kinds.Control.{Control}
use Rattle.session_model.specs.ldap_msg.declared.kinds.Message.{Message}
use Rattle.session_model.specs.ldap_msg.declared.kinds.Request.{Request}
use Rattle.session_model.specs.ldap_msg.declared.kinds.Request.TheVariants as request
use Rattle.op_bind.specs.Binds.{with_password}
use Rattle.session_hub.specs.declared.simple.SimpleBind.{SimpleBind}

-- the message of such a bind
abbrev pub simple_message : ℕ → List ℕ → List ℕ → Message
simple_message id name password = record { id = id; request = request.Bind (with_password name password); controls = [] }

-- the message of the bind that was read
abbrev pub message_for : SimpleBind → Message
message_for bind = simple_message bind.id bind.name.now bind.password.now

-- ---- computed

-- a name and a password
abbrev pub Credentials : Type 0
Credentials = List ℕ × List ℕ

-- those of a bind by a password
abbrev pub by_password : List ℕ → Auth → Option Credentials
by_password name (Simple password) = Some (name, password)
by_password name (Other tag) = None

-- those of a bind that is a simple one of version 3
abbrev pub credentials_of : Option BindRequest → Option Credentials
credentials_of None = None
credentials_of (Some bind) = if bind.version == 3 then by_password bind.name bind.auth else None

-- those of a request that is one
abbrev pub credentials_in : Request → Option Credentials
credentials_in (request.Bind bind) = credentials_of (Some bind)
credentials_in request.Unbind = None
credentials_in (request.Search search) = None
credentials_in (request.Update update) = None
credentials_in (request.Compare compare) = None
credentials_in (request.Abandon id) = None
credentials_in (request.Extended name value) = None

-- what was found, where there are no controls
abbrev pub without : {A : Type 0} → List Control → Option A → Option A
without [] found = found
without (control ∷ controls) found = None

-- the number and the credentials of a message that is one, and has no controls
abbrev pub simple_in : Option Message → Option (ℕ × Credentials)
simple_in None = None
simple_in (Some message) = without message.controls (credentials_in message.request >>= λ credentials. Some (message.id, credentials))

-- a list of controls that has none, and behind it other elements
abbrev pub is_empty_list : Option Piece → Bool
is_empty_list None = false
is_empty_list (Some piece) = length piece.content == 0 && are_pieces (other_than 0xa0) piece.rest

-- what follows an operation says no controls (4.1.1): they are absent, or a list of none
abbrev pub says_no_controls : List ℕ → Bool
says_no_controls octets = if begins 0xa0 octets then is_empty_list (tagged_at 0xa0 octets) else are_pieces (other_than 0xa0) octets
