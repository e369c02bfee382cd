-- Which entries a search selects (RFC 4511 4.5.1, X.511 10.2).
use Rattle.std.specs.Prelude.{Bool, not, ◌&&◌, ◌||◌, filter, Option, Some, None, if◌then◌else◌}
use Rattle.dir_tree.specs.dn_names.name.Names.{RdnSequence}
use Rattle.dir_tree.specs.Entry.{EntryInformation}
use Rattle.dir_tree.specs.tree.Trees.{is_named}
use Rattle.dir_tree.specs.Points.{is_subentry}
use Rattle.dir_tree.specs.Scope.{is_child, is_within}
use Rattle.acdf_filters.specs.aci_item.declared.permission.Permission.TheVariants.{Browse, ReturnDn, FilterMatch}
use Rattle.acdf_filters.specs.Asking.{Entry, Kind, Value}
use Rattle.ldap_msg.specs.ldap_filter.filter.Filters.{Filter}
use Rattle.ldap_msg.specs.declared.kinds.SearchScope.{SearchScope}
use Rattle.ldap_msg.specs.declared.kinds.SearchScope.TheVariants.{BaseObject, SingleLevel, WholeSubtree}
use Rattle.ldap_msg.specs.declared.kinds.SearchRequest.{SearchRequest}
use Rattle.ldap_msg.specs.Search.{is_base}
use Rattle.filter_match.specs.Truth.{Permits, truth, is_true}
use Rattle.read_model.specs.Views.{Row, View}

-- the scope takes the entry in
abbrev pub takes_in : SearchScope → RdnSequence → EntryInformation → Bool
takes_in BaseObject base entry = is_named base entry
takes_in SingleLevel base entry = is_child base entry
takes_in WholeSubtree base entry = is_within base entry

-- whether a boolean is another
abbrev pub is_same : Bool → Bool → Bool
is_same one other = if one then other else not other

-- without the control of subentries (RFC 3672 3) they are seen by a search of the base alone; with it either they alone
-- are, or the other entries alone
abbrev pub is_seen : SearchScope → Option Bool → EntryInformation → Bool
is_seen scope None entry = is_base scope || not (is_subentry entry)
is_seen scope (Some wanted) entry = is_same wanted (is_subentry entry)

-- what a filter may match on the entry
abbrev pub permits_of : Row → Permits
permits_of row = record { kind = λ kind. row.allows (Kind kind) FilterMatch; value = λ kind value. row.allows (Value kind value) FilterMatch }

-- the entry may be browsed, matches the filter, and its name may be returned
abbrev pub is_found : Filter → Row → Bool
is_found filter row =
    row.allows Entry Browse && is_true (truth (permits_of row) row.entry filter) && row.allows Entry ReturnDn

-- an entry of the scope that is seen, and is found so
abbrev pub is_shown : SearchRequest → Option Bool → Row → Bool
is_shown request subentries row = is_seen request.scope subentries row.entry && is_found request.filter row

-- the entry is in the scope, and is selected of it
unfoldable pub is_selected : SearchRequest → Option Bool → RdnSequence → Row → Bool
is_selected request subentries base row = takes_in request.scope base row.entry && is_shown request subentries row

-- the entries that a search selects, in their order
unfoldable pub selected : View → SearchRequest → Option Bool → RdnSequence → View
selected view request subentries base = filter (is_selected request subentries base) view
