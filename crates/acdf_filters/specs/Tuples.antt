-- The tuples that count for an entry (X.501 18.4.1 and 18.8.2).
use Rattle.std.specs.Prelude.{ℕ, List, [], ◌++◌, map, flat_map, if◌then◌else◌}
use Rattle.std.specs.List.{filter_map}
use Rattle.std.specs.Option.{option_map, option_map_or}
use Rattle.dir_tree.specs.dn_names.name.Names.{RdnSequence}
use Rattle.dir_tree.specs.Entry.{EntryInformation, values_of}
use Rattle.dir_tree.specs.tree.Trees.{superior_name, named_in}
use Rattle.dir_tree.specs.Points.{is_subentry}
use Rattle.admin_scope.specs.InForce.{in_force}
use Rattle.aci_item.specs.item.Items.{Item}
use Rattle.aci_item.specs.AciText.{item_of}
use Rattle.aci_item.specs.AciTuples.{AciTuple, tuples_of_item}

-- the numbers of prescriptiveACI, entryACI and subentryACI in the table of attribute types
abbrev pub prescriptive_aci : ℕ
prescriptive_aci = 32

abbrev pub entry_aci : ℕ
entry_aci = 33

abbrev pub subentry_aci : ℕ
subentry_aci = 34

-- an item: its tag, and its tuples
pub record TaggedTuples : Type 0 where
  pub tag : List ℕ
  pub tuples : List AciTuple

abbrev pub tagged : Item → TaggedTuples
tagged item = record { tag = item.tag; tuples = tuples_of_item item }

-- the items of an entry's values of the type, in the order of the values; a value that is no item gives none
unfoldable pub items_in : ℕ → EntryInformation → List TaggedTuples
items_in kind entry = filter_map (λ value. option_map tagged (item_of value.octets)) (values_of kind entry.attributes)

-- a tuple, with the name of the entry that holds its item, and the item's tag
pub record Listed : Type 0 where
  pub source : RdnSequence
  pub tag : List ℕ
  pub tuple : AciTuple

-- those of an item
abbrev pub listed_by : RdnSequence → TaggedTuples → List Listed
listed_by source item = map (λ tuple. record { source = source; tag = item.tag; tuple = tuple }) item.tuples

-- those of an entry's values of the type
abbrev pub listed_in : ℕ → EntryInformation → List Listed
listed_in kind entry = flat_map (listed_by entry.name) (items_in kind entry)

-- those that an entry has from others: an ordinary entry from the subentries in force, in their order; a subentry from
-- the entry immediately above alone, where by X.501 18.5 prescriptiveACI of other points of the area counts for it too
unfoldable pub inherited : List EntryInformation → EntryInformation → List Listed
inherited entries entry =
    if is_subentry entry then option_map_or (listed_in subentry_aci) (named_in (superior_name entry.name) entries) []
    else flat_map (listed_in prescriptive_aci) (in_force entries entry)

-- those that count for an entry: these, and then those of its own entryACI
unfoldable pub tuples_of : List EntryInformation → EntryInformation → List Listed
tuples_of entries entry = inherited entries entry ++ listed_in entry_aci entry

-- those that count for an entry that is to be added: its own entryACI does not
unfoldable pub tuples_new : List EntryInformation → EntryInformation → List Listed
tuples_new entries entry = inherited entries entry
