-- The table of a requester's rights on an entry (X.501 18.2.3 and 18.2.4): a line for the entry, one for each of its
-- attribute types, and one for each value, each with the permissions that are granted for it.
use Rattle.std.specs.Prelude.{ℕ, ◌+◌, List, [], ◌∷◌, ◌++◌, filter, flat_map, codes, decimal}
use Rattle.std.specs.Option.{option_map_or}
use Rattle.dir_tree.specs.schema_tables.Attributes.{name_of}
use Rattle.dir_tree.specs.dn_names.name.Names.{Keyed, RdnSequence}
use Rattle.dir_tree.specs.Entry.{Attribute, EntryInformation}
use Rattle.dir_tree.specs.tree.Trees.{named_in}
use Rattle.acdf_filters.specs.aci_item.declared.permission.Permission.{Permission}
use Rattle.acdf_filters.specs.aci_item.ItemPrinted.{permission_name}
use Rattle.acdf_filters.specs.declared.asking.Requester.{Requester}
use Rattle.acdf_filters.specs.Asking.{Protected, Entry, Kind, Value}
use Rattle.acdf_filters.specs.Granted.{granted}
use Rattle.explanation.specs.PermissionWords.{asked_permissions}

-- the permissions that are granted for an item of the entry, in their order
abbrev pub granted_permissions : List EntryInformation → Requester → EntryInformation → Protected → List Permission
granted_permissions entries who entry item = filter (λ permission. granted entries who entry item permission) asked_permissions

-- a space and a permission's name
abbrev pub permission_text : Permission → List ℕ
permission_text permission = codes " " ++ permission_name permission

-- the line of an item
abbrev pub rights_line : List EntryInformation → Requester → EntryInformation → List ℕ → Protected → List ℕ
rights_line entries who entry words item =
    words ++ (flat_map permission_text (granted_permissions entries who entry item) ++ codes "\n")

-- `value NAME N`
abbrev pub value_words : ℕ → ℕ → List ℕ
value_words kind number = codes "value " ++ (name_of kind ++ (codes " " ++ decimal number))

-- the lines of values of a type, numbered from this number on
abbrev pub value_lines : List EntryInformation → Requester → EntryInformation → ℕ → ℕ → List Keyed → List ℕ
value_lines entries who entry kind number [] = []
value_lines entries who entry kind number (value ∷ values) =
    rights_line entries who entry (value_words kind number) (Value kind value) ++ value_lines entries who entry kind (number + 1) values

-- `type NAME`, and the lines of its values, numbered from 0 on
abbrev pub attribute_lines : List EntryInformation → Requester → EntryInformation → Attribute → List ℕ
attribute_lines entries who entry attribute =
    rights_line entries who entry (codes "type " ++ name_of attribute.kind) (Kind attribute.kind)
    ++ value_lines entries who entry attribute.kind 0 attribute.values

-- the table of an entry
unfoldable pub rights_text : List EntryInformation → Requester → EntryInformation → List ℕ
rights_text entries who entry =
    rights_line entries who entry (codes "entry") Entry ++ flat_map (attribute_lines entries who entry) entry.attributes

-- that of the entry of the name: `absent` where there is none
unfoldable pub rights_at : List EntryInformation → Requester → RdnSequence → List ℕ
rights_at entries who target = option_map_or (rights_text entries who) (named_in target entries) (codes "absent\n")
