-- What a rename request says (RFC 4511 4.9): which entry gets which RDN, and whether it moves below another superior.
use Rattle.std.specs.Prelude.{ℕ, Bool, not, ◌||◌, nat_lt, List, length, Option, Some, None, is_some, if◌then◌else◌, unwrap_or}
use Rattle.std.specs.Option.{option_map, option_and_then}
use Rattle.std.specs.Result.{result_ok}
use Rattle.dir_tree.specs.dn_names.Limits.{most_rdns}
use Rattle.dir_tree.specs.dn_names.name.Names.{RdnSequence, last_rdn}
use Rattle.dir_tree.specs.dn_names.NameOrder.{is_same}
use Rattle.dir_tree.specs.dn_names.parsing.NameText.{read_name, read_rdn}
use Rattle.dir_tree.specs.tree.Trees.{superior_name}
use Rattle.ldap_msg.specs.declared.kinds.RenameRequest.{RenameRequest}
use Rattle.entry_changes.specs.Renaming.{is_same_rdn}
use Rattle.op_modify.specs.declared.renaming.Renaming.{Renaming}

-- the name, if another may stand below it
abbrev pub with_room : RdnSequence → Option RdnSequence
with_room name = if nat_lt (length name) most_rdns then Some name else None

-- the superior that a request gives, if it gives one; None where that is no name, or none below which another may stand
abbrev pub read_superior : Option (List ℕ) → Option (Option RdnSequence)
read_superior None = Some None
read_superior (Some text) = option_map (λ name. Some name) (option_and_then with_room (result_ok (read_name text)))

-- the superior that is given, unless it is the name's own
abbrev pub new_superior : RdnSequence → Option RdnSequence → Option RdnSequence
new_superior name None = None
new_superior name (Some superior) = if is_same (superior_name name) superior then None else Some superior

-- the request, read; None where a name or the new RDN is none
unfoldable pub read_renaming : RenameRequest → Option Renaming
read_renaming request =
    option_and_then (λ name. option_and_then (λ rdn. option_map
    (λ given. record { name = name; rdn = rdn; delete_old = request.delete_old; superior = new_superior name given })
    (read_superior request.superior)) (result_ok (read_rdn request.new_rdn))) (result_ok (read_name request.name))

-- the entry moves: another superior than the present one is asked for
abbrev pub moves : Renaming → Bool
moves renaming = is_some renaming.superior

-- the entry gets another RDN
abbrev pub changes_rdn : Renaming → Bool
changes_rdn renaming = not (is_same_rdn (last_rdn renaming.name) (last_rdn renaming.rdn))

-- it must be allowed to be renamed: it gets another RDN, or stays where it is
abbrev pub asks_rename : Renaming → Bool
asks_rename renaming = changes_rdn renaming || not (moves renaming)

-- the name of the superior that the entry is to have
abbrev pub above : Renaming → RdnSequence
above renaming = unwrap_or renaming.superior (superior_name renaming.name)
