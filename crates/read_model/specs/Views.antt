-- What a requester sees of a directory (X.511 7.11 and 10): the entries with what is allowed on each. What is read and
-- compared is said of a view, which knows no tree and no decision.
use Rattle.std.specs.Prelude.{Bool, ◌&&◌, List, [], map, reverse, find, if◌then◌else◌}
use Rattle.std.specs.List.{list_any}
use Rattle.std.specs.Option.{option_map_or}
use Rattle.dir_tree.specs.dn_names.name.Names.{RdnSequence}
use Rattle.dir_tree.specs.dn_names.Printing.{print_name}
use Rattle.dir_tree.specs.Entry.{EntryInformation}
use Rattle.dir_tree.specs.tree.Trees.{is_named, is_below}
use Rattle.acdf_filters.specs.aci_item.declared.permission.Permission.{Permission}
use Rattle.acdf_filters.specs.aci_item.declared.permission.Permission.TheVariants.{DiscloseOnError}
use Rattle.acdf_filters.specs.declared.asking.Requester.{Requester}
use Rattle.acdf_filters.specs.Asking.{Protected, Entry}
use Rattle.acdf_filters.specs.Granted.{granted}
use Rattle.ldap_msg.specs.declared.operations.ResultCode.{ResultCode}
use Rattle.ldap_msg.specs.declared.operations.ResultCode.TheVariants as code
use Rattle.ldap_msg.specs.declared.kinds.LdapResult.{LdapResult}

-- an entry, and what is allowed on it
pub record Row : Type 0 where
  pub entry : EntryInformation
  pub allows : Protected → Permission → Bool

-- the entries of a tree in their order
abbrev pub View : Type 0
View = List Row

-- what the requester sees of an entry, each decision taken over all entries
abbrev pub row_of : List EntryInformation → Requester → EntryInformation → Row
row_of entries who entry = record { entry = entry; allows = granted entries who entry }

-- what the requester sees of a tree
abbrev pub view_of : List EntryInformation → Requester → View
view_of entries who = map (row_of entries who) entries

-- the row has the name
abbrev pub has_name : RdnSequence → Row → Bool
has_name name row = is_named name row.entry

-- the requester may know of the entry
abbrev pub is_disclosed : Row → Bool
is_disclosed row = row.allows Entry DiscloseOnError

-- the name of the nearest entry above that may be known of: the last, since superiors come first; no name where there is
-- none
unfoldable pub matched_name : View → RdnSequence → RdnSequence
matched_name view name =
    option_map_or (λ row. row.entry.name) (find (λ row. is_below row.entry.name name && is_disclosed row) (reverse view)) []

-- a result with this code and this name
abbrev pub result_with : ResultCode → RdnSequence → LdapResult
result_with code name = record { code = code; matched = print_name name }

-- a result with this code and no name
abbrev pub result_of : ResultCode → LdapResult
result_of code = record { code = code; matched = [] }

-- noSuchObject, with the name of the nearest entry that may be known of
abbrev pub no_such_object : View → RdnSequence → LdapResult
no_such_object view name = result_with code.NoSuchObject (matched_name view name)

-- an entry of the name may be known of
abbrev pub discloses : View → RdnSequence → Bool
discloses view name = list_any (λ row. has_name name row && is_disclosed row) view

-- what is answered in place of what may not be done with the name: insufficientAccessRights where an entry of the name
-- may be known of, and otherwise what is answered where there is none
unfoldable pub hidden : View → RdnSequence → LdapResult
hidden view name = if discloses view name then result_of code.InsufficientAccessRights else no_such_object view name
