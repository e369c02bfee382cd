-- Extended operations (RFC 4511 4.12): Who am I (RFC 4532), and no other.
use Rattle.std.specs.Prelude.{ℕ, Bool, ◌&&◌, List, [], ◌∷◌, ◌++◌, codes, Option, Some, None, is_none, if◌then◌else◌}
use Rattle.std.specs.Option.{option_map_or}
use Rattle.std.specs.Str.{bytes_eq}
use Rattle.dir_tree.specs.dn_names.Printing.{print_name}
use Rattle.session_model.specs.ldap_msg.declared.kinds.Reply.{Reply}
use Rattle.session_model.specs.ldap_msg.declared.kinds.Reply.TheVariants as reply
use Rattle.session_model.specs.ldap_msg.declared.operations.ResultCode.TheVariants as code
use Rattle.op_read.specs.read_model.Views.{result_of}
use Rattle.session_hub.specs.Parties.{Requester}

-- a requester's authorization identity (RFC 4513 5.2.1.8): "dn:" and its name as text; no octets for one without a name
abbrev pub authz_id : Requester → List ℕ
authz_id who = option_map_or (λ name. codes "dn:" ++ print_name name) who.name []

-- an operation of this name asks who the requester is, where it has no value (RFC 4532 2.1)
abbrev pub asks_who : List ℕ → Option (List ℕ) → Bool
asks_who name value = bytes_eq name (codes "1.3.6.1.4.1.4203.1.11.3") && is_none value

-- the replies to an extended operation: success, no name and the requester's identity as value where it asks for this (RFC
-- 4532 2.2), and else protocolError, since no other is known
abbrev pub extended_replies : Requester → List ℕ → Option (List ℕ) → List Reply
extended_replies who name value =
    if asks_who name value then reply.Extended (result_of code.Success) None (Some (authz_id who)) ∷ []
    else reply.Extended (result_of code.ProtocolError) None None ∷ []
