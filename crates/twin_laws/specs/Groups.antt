-- The groups that access control items name (X.501 18.4.2.5).
use Rattle.std.specs.Prelude.{ℕ, Bool, false, ◌||◌, List, flat_map}
use Rattle.std.specs.List.{list_any}
use Rattle.std.specs.Option.{option_map_or}
use Rattle.dir_tree.specs.dn_names.name.Names.{Keyed, RdnSequence}
use Rattle.dir_tree.specs.dn_names.NameOrder.{is_prefix_of}
use Rattle.dir_tree.specs.Entry.{EntryInformation, values_of}
use Rattle.acdf_filters.specs.aci_item.item.Items.{First, ItemFirst, UserFirst}
use Rattle.acdf_filters.specs.aci_item.AciText.{item_of}
use Rattle.acdf_filters.specs.Tuples.{prescriptive_aci, entry_aci, subentry_aci}

-- the groups among the user classes of an item
abbrev pub groups_of : First → List RdnSequence
groups_of (ItemFirst items permissions) = flat_map (λ permission. permission.classes.groups) permissions
groups_of (UserFirst classes permissions) = classes.groups

-- the value is an item, and one of its groups is at or below the name
abbrev pub names_group : RdnSequence → Keyed → Bool
names_group top value = option_map_or (λ item. list_any (is_prefix_of top) (groups_of item.first)) (item_of value.octets) false

-- a value of the type is so
abbrev pub names_group_in : RdnSequence → ℕ → EntryInformation → Bool
names_group_in top kind entry = list_any (names_group top) (values_of kind entry.attributes)

-- an item among the entry's prescriptiveACI, entryACI and subentryACI values is so
abbrev pub lists_group : RdnSequence → EntryInformation → Bool
lists_group top entry =
    names_group_in top prescriptive_aci entry || (names_group_in top entry_aci entry || names_group_in top subentry_aci entry)
