-- Bind requests (RFC 4511 4.2).
use Rattle.std.specs.Prelude.{◌≢◌, ℕ, List, [], Option, Some, ◌==◌, if◌then◌else◌}
use Rattle.ber_elements.specs.write.Element.{IsTag}
use Rattle.ber_layout.specs.element.Pieces.{◌>>=◌}
use Rattle.ber_layout.specs.Layouts.{Layout, Value, reads}
use Rattle.ber_layout.specs.Layouts.Layout.{AnyOctets, Number, Further, AnyElement, Then}
use Rattle.ldap_msg.specs.declared.kinds.Auth.{Auth}
use Rattle.ldap_msg.specs.declared.kinds.Auth.TheVariants.{Simple, Other}
use Rattle.ldap_msg.specs.declared.kinds.BindRequest.{BindRequest}

-- BindRequest ::= [APPLICATION 0] SEQUENCE { version INTEGER (1 .. 127), name LDAPDN, authentication, ... }
abbrev pub bind_layout : Layout
bind_layout = Then 0x02 (Number 1 127) (Then 0x04 AnyOctets (AnyElement Further))

-- AuthenticationChoice ::= CHOICE { simple [0] OCTET STRING, ... }
abbrev pub auth_from : ℕ × List ℕ → Auth
auth_from (tag, content) = if tag == 0x80 then Simple content else Other tag

-- the bind request of these parts
abbrev pub bind_from : Value bind_layout → BindRequest
bind_from (version, (name, (authentication, _))) = record { version = version; name = name; auth = auth_from authentication }

-- the bind request that a content says
abbrev pub bind_of : List ℕ → Option BindRequest
bind_of content = reads bind_layout content >>= λ parts. Some (bind_from parts)

-- another method is written with no content
abbrev pub auth_parts : Auth → ℕ × List ℕ
auth_parts (Simple password) = (0x80, password)
auth_parts (Other tag) = (tag, [])

-- the parts of a bind request
abbrev pub bind_parts : BindRequest → Value bind_layout
bind_parts request = (request.version, (request.name, (auth_parts request.auth, tt)))

-- another method has a tag of its own
abbrev pub HasTag : Auth → Type 0
HasTag (Simple password) = Unit {0}
HasTag (Other tag) = IsTag tag × (tag ≢ 0x80)
