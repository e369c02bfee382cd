-- What a bind comes to (RFC 4511 4.2, RFC 4513 5.1): the first row of the table that applies. A bind asks for no
-- permission, and each but a successful one with a name leaves the requester anonymous.
use Rattle.std.specs.Prelude.{ℕ, ◌==◌, Bool, List, [], ◌∷◌, Option, Some, None, Result, Ok, Err, if◌then◌else◌}
use Rattle.std.specs.List.{list_any}
use Rattle.dir_tree.specs.dn_names.name.Names.{RdnSequence}
use Rattle.dir_tree.specs.dn_names.declared.error.BadName.{BadName}
use Rattle.dir_tree.specs.dn_names.parsing.NameText.{read_name}
use Rattle.dir_tree.specs.Entry.{EntryInformation, values_of}
use Rattle.dir_tree.specs.tree.Trees.{named_in}
use Rattle.acdf_filters.specs.aci_item.declared.level.Level.TheVariants as level
use Rattle.ldap_msg.specs.declared.operations.ResultCode.{ResultCode}
use Rattle.ldap_msg.specs.declared.operations.ResultCode.TheVariants as code
use Rattle.ldap_msg.specs.declared.kinds.Auth.{Auth}
use Rattle.ldap_msg.specs.declared.kinds.Auth.TheVariants.{Simple, Other}
use Rattle.ldap_msg.specs.declared.kinds.BindRequest.{BindRequest}
use Rattle.op_bind.specs.declared.binds.Bound.{Bound}
use Rattle.op_bind.specs.Passwords.{accepts}

-- the number of userPassword in the table of attribute types
abbrev pub user_password : ℕ
user_password = 18

-- a value of the entry's userPassword accepts the password
abbrev pub has_password : List ℕ → EntryInformation → Bool
has_password password entry = list_any (λ value. accepts value.octets password) (values_of user_password entry.attributes)

-- a bind that leaves the requester anonymous
abbrev pub ended : ResultCode → Bound
ended result = record { code = result; who = record { name = None; level = level.Anyone } }

-- a bind as the entry of this name
abbrev pub bound_name : RdnSequence → Bound
bound_name name = record { code = code.Success; who = record { name = Some name; level = level.Simple } }

-- the entry has the password or not: then its own name counts, as the tree spells it
abbrev pub bound_password : List ℕ → EntryInformation → Bound
bound_password password entry = if has_password password entry then bound_name entry.name else ended code.InvalidCredentials

-- there is an entry of the name, or none
abbrev pub bound_found : List ℕ → Option EntryInformation → Bound
bound_found password None = ended code.InvalidCredentials
bound_found password (Some entry) = bound_password password entry

abbrev pub bound_entry : List EntryInformation → RdnSequence → List ℕ → Bound
bound_entry entries name password = bound_found password (named_in name entries)

-- no name: with no password either it is an anonymous bind
abbrev pub bound_nobody : List ℕ → Bound
bound_nobody [] = ended code.Success
bound_nobody (octet ∷ octets) = ended code.InvalidCredentials

-- a name and a password: a name alone is not taken for an anonymous bind
abbrev pub bound_named : List EntryInformation → RdnSequence → List ℕ → Bound
bound_named entries [] password = bound_nobody password
bound_named entries (rdn ∷ rdns) [] = ended code.UnwillingToPerform
bound_named entries (rdn ∷ rdns) (octet ∷ octets) = bound_entry entries (rdn ∷ rdns) (octet ∷ octets)

-- the text of a name, or of none
abbrev pub bound_text : List EntryInformation → Result RdnSequence BadName → List ℕ → Bound
bound_text entries (Err bad) password = ended code.InvalidDnSyntax
bound_text entries (Ok name) password = bound_named entries name password

-- a password, or another method
abbrev pub bound_auth : List EntryInformation → List ℕ → Auth → Bound
bound_auth entries name (Other tag) = ended code.AuthMethodNotSupported
bound_auth entries name (Simple password) = bound_text entries (read_name name) password

-- a bind
unfoldable pub bind_answer : List EntryInformation → BindRequest → Bound
bind_answer entries request =
    if request.version == 3 then bound_auth entries request.name request.auth else ended code.ProtocolError

-- a bind of version 3 with a password
abbrev pub with_password : List ℕ → List ℕ → BindRequest
with_password name password = record { version = 3; name = name; auth = Simple password }
