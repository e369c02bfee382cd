-- Which protected items cover what is asked for (X.501 18.4.2.6), and which name it explicitly (X.501 18.8.4).
use Rattle.std.specs.Prelude.{ℕ, ◌==◌, Bool, true, false, not, ◌&&◌, ◌||◌, List, Option, Some, None}
use Rattle.std.specs.List.{list_any}
use Rattle.std.specs.Option.{option_map_or}
use Rattle.std.specs.Str.{bytes_eq}
use Rattle.dir_tree.specs.schema_tables.declared.kinds.Syntax.{Syntax}
use Rattle.dir_tree.specs.schema_tables.declared.kinds.Syntax.TheVariants.{Name}
use Rattle.dir_tree.specs.schema_tables.Attributes.{attribute_at, syntax_of}
use Rattle.dir_tree.specs.dn_names.name.Names.{Keyed, TypeAndValue, RdnSequence}
use Rattle.dir_tree.specs.dn_names.Printing.{name_key}
use Rattle.aci_item.specs.item.Items.{ProtectedItems}
use Rattle.acdf_filters.specs.Asking.{Protected, Entry, Kind, Value}

-- the type is listed
abbrev pub has_type : ℕ → List ℕ → Bool
has_type kind kinds = list_any (λ other. kind == other) kinds

-- a user attribute: one of the table that is not operational; a number past the table is none
abbrev pub is_user_attribute : ℕ → Bool
is_user_attribute kind = option_map_or (λ row. not row.operational) (attribute_at kind) false

-- the pair has the type, and an equal value
abbrev pub is_equal : ℕ → Keyed → TypeAndValue → Bool
is_equal kind value pair = (kind == pair.kind) && bytes_eq value.key pair.value.key

-- an equal value of the type is listed
abbrev pub has_equal : ℕ → Keyed → List TypeAndValue → Bool
has_equal kind value pairs = list_any (is_equal kind value) pairs

-- values of the syntax are names
abbrev pub is_name_syntax : Syntax → Bool
is_name_syntax Name = true
is_name_syntax other = false

-- values of the type are names
unfoldable pub has_names : ℕ → Bool
has_names kind = option_map_or is_name_syntax (syntax_of kind) false

-- the value is the requester's name, of a type that is listed, whose values are names
abbrev pub is_self : Option RdnSequence → ℕ → Keyed → List ℕ → Bool
is_self None kind value kinds = false
is_self (Some name) kind value kinds = has_type kind kinds && has_names kind && bytes_eq (name_key name) value.key

-- the items name what is asked for: attributeType a type, and attributeValue and selfValue a value; X.501 leaves open
-- that selfValue does
unfoldable pub is_explicit : Option RdnSequence → Protected → ProtectedItems → Bool
is_explicit name Entry items = false
is_explicit name (Kind kind) items = has_type kind items.kinds
is_explicit name (Value kind value) items = has_equal kind value items.values || is_self name kind value items.self_values

-- the items cover a type
abbrev pub covers_type : ℕ → ProtectedItems → Bool
covers_type kind items = has_type kind items.kinds || (is_user_attribute kind && (items.all_kinds || items.all_kinds_and_values))

-- the items cover a value of a type
abbrev pub covers_value : Option RdnSequence → ℕ → Keyed → ProtectedItems → Bool
covers_value name kind value items =
    has_type kind items.all_values || has_equal kind value items.values || is_self name kind value items.self_values
    || (is_user_attribute kind && items.all_kinds_and_values)

-- the items cover what is asked for
unfoldable pub covers : Option RdnSequence → Protected → ProtectedItems → Bool
covers name Entry items = items.entry
covers name (Kind kind) items = covers_type kind items
covers name (Value kind value) items = covers_value name kind value items
