-- The access control decision function (X.501 18.8), and of which entries a requester may know (X.511 7.11.3).
use Rattle.std.specs.Prelude.{ℕ, Bool, ◌&&◌, List, map, reverse, find, Option}
use Rattle.dir_tree.specs.dn_names.name.Names.{Keyed, RdnSequence}
use Rattle.dir_tree.specs.Entry.{EntryInformation}
use Rattle.dir_tree.specs.tree.Trees.{is_below}
use Rattle.aci_item.specs.declared.permission.Permission.{Permission}
use Rattle.aci_item.specs.declared.permission.Permission.TheVariants.{Add, DiscloseOnError}
use Rattle.acdf_filters.specs.declared.asking.Requester.{Requester}
use Rattle.acdf_filters.specs.Asking.{Protected, Entry, Value, asked_on}
use Rattle.acdf_filters.specs.Tuples.{Listed, tuples_of, tuples_new}
use Rattle.acdf_filters.specs.users.Users.{ranks_of}
use Rattle.acdf_filters.specs.Filters.{Placed, decided}

-- tuples with the ranks of their classes, for a requester of this name and an entry
abbrev pub placed : List EntryInformation → EntryInformation → Option RdnSequence → List Listed → List Placed
placed entries entry name xs = map (λ x. record { listed = x; ranks = ranks_of entries entry x.tuple.classes name }) xs

-- the tuples of an entry, with them
abbrev pub placed_of : List EntryInformation → Requester → EntryInformation → List Placed
placed_of entries who entry = placed entries entry who.name (tuples_of entries entry)

-- those of an entry that is to be added
abbrev pub placed_new : List EntryInformation → Requester → EntryInformation → List Placed
placed_new entries who entry = placed entries entry who.name (tuples_new entries entry)

-- the requester has the permission for the item of the entry; a value that is added is added alone
unfoldable pub granted : List EntryInformation → Requester → EntryInformation → Protected → Permission → Bool
granted entries who entry item permission = decided (asked_on who entry item permission) (placed_of entries who entry)

-- the requester may add the value of the type to the entry, where the whole change would leave the entry `after`
unfoldable pub granted_after : List EntryInformation → Requester → EntryInformation → EntryInformation → ℕ → Keyed → Bool
granted_after entries who entry after kind value =
    decided (record { who = who; item = Value kind value; permission = Add; after = after }) (placed_of entries who entry)

-- the requester has the permission for the item of an entry that is to be added, which the change leaves as it is
unfoldable pub granted_new : List EntryInformation → Requester → EntryInformation → Protected → Permission → Bool
granted_new entries who entry item permission =
    decided (record { who = who; item = item; permission = permission; after = entry }) (placed_new entries who entry)

-- the requester may know of the entry
abbrev pub is_disclosed : List EntryInformation → Requester → EntryInformation → Bool
is_disclosed entries who entry = granted entries who entry Entry DiscloseOnError

-- the nearest entry above the name of which the requester may know: the last, since superiors come first
unfoldable pub matched : List EntryInformation → Requester → RdnSequence → Option EntryInformation
matched entries who name = find (λ entry. is_below entry.name name && is_disclosed entries who entry) (reverse entries)
