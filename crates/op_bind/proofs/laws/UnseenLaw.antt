-- Leaving out a subtree changes no bind with a name outside it.
use Rattle.std.proofs.Common.{◌≡◌, ℕ, ◌==◌, false, List, [], ◌∷◌, Option, Result, Ok, Err, IfOk, refl, ap, if◌then◌else◌}
use Rattle.dir_tree.specs.dn_names.name.Names.{RdnSequence}
use Rattle.dir_tree.specs.dn_names.declared.error.BadName.{BadName}
use Rattle.dir_tree.specs.dn_names.NameOrder.{is_prefix_of}
use Rattle.dir_tree.specs.dn_names.parsing.NameText.{read_name}
use Rattle.dir_tree.specs.Entry.{EntryInformation}
use Rattle.acdf_filters.specs.admin_scope.Areas.{without_subtree}
use Rattle.ldap_msg.specs.declared.operations.ResultCode.TheVariants.{ProtocolError}
use Rattle.ldap_msg.specs.declared.kinds.Auth.{Auth}
use Rattle.ldap_msg.specs.declared.kinds.Auth.TheVariants.{Simple, Other}
use Rattle.ldap_msg.specs.declared.kinds.BindRequest.{BindRequest}
use Rattle.op_bind.specs.declared.binds.Bound.{Bound}
use Rattle.op_bind.specs.Binds.{ended, bound_found, bound_named, bound_text, bound_auth, bind_answer}
use Rattle.acdf_filters.proofs.Theorems.{named-without}

-- so the entry of such a name stays
bound_named-without : (top : RdnSequence) (entries : List EntryInformation) (name : RdnSequence) (password : List ℕ)
    → is_prefix_of top name ≡ false
    → bound_named (without_subtree top entries) name password ≡ bound_named entries name password
bound_named-without top entries [] password outside = refl
bound_named-without top entries (rdn ∷ rdns) [] outside = refl
bound_named-without top entries (rdn ∷ rdns) (octet ∷ octets) outside =
    ap (λ (found : Option EntryInformation). bound_found (octet ∷ octets) found) (named-without top (rdn ∷ rdns) entries outside)

bound_text-without : (top : RdnSequence) (entries : List EntryInformation) (name : Result RdnSequence BadName) (password : List ℕ)
    → IfOk name (λ name. is_prefix_of top name ≡ false)
    → bound_text (without_subtree top entries) name password ≡ bound_text entries name password
bound_text-without top entries (Err bad) password outside = refl
bound_text-without top entries (Ok name) password outside = bound_named-without top entries name password outside

bound_auth-without : (top : RdnSequence) (entries : List EntryInformation) (name : List ℕ) (auth : Auth)
    → IfOk (read_name name) (λ name. is_prefix_of top name ≡ false)
    → bound_auth (without_subtree top entries) name auth ≡ bound_auth entries name auth
bound_auth-without top entries name (Other tag) outside = refl
bound_auth-without top entries name (Simple password) outside = bound_text-without top entries (read_name name) password outside

pub bind_answer-without : (top : RdnSequence) (entries : List EntryInformation) (request : BindRequest)
    → IfOk (read_name request.name) (λ name. is_prefix_of top name ≡ false)
    → bind_answer (without_subtree top entries) request ≡ bind_answer entries request
unfolding bind_answer
bind_answer-without top entries request outside =
    ap (λ (bound : Bound). if request.version == 3 then bound else ended ProtocolError) (bound_auth-without top entries request.name request.auth outside)
