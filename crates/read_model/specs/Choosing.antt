-- Which attributes of an entry are sent, and which of their values (RFC 4511 4.5.1.8, X.511 7.6 and 10.2).
use Rattle.std.specs.Prelude.{ℕ, ◌==◌, Bool, false, not, List, [], ◌∷◌, map, filter, codes, Option, Some, None, if◌then◌else◌}
use Rattle.std.specs.List.{list_any}
use Rattle.std.specs.Option.{option_map_or}
use Rattle.std.specs.Str.{bytes_eq}
use Rattle.dir_tree.specs.schema_tables.Attributes.{attr_of, name_of, is_operational}
use Rattle.dir_tree.specs.dn_names.name.Names.{Keyed}
use Rattle.dir_tree.specs.dn_names.Printing.{print_name}
use Rattle.dir_tree.specs.Entry.{Attribute}
use Rattle.acdf_filters.specs.aci_item.declared.permission.Permission.TheVariants.{Read}
use Rattle.acdf_filters.specs.Asking.{Kind, Value}
use Rattle.ldap_msg.specs.declared.kinds.KindValues.{KindValues}
use Rattle.ldap_msg.specs.declared.kinds.Reply.{Reply}
use Rattle.ldap_msg.specs.declared.kinds.Reply.TheVariants as reply
use Rattle.read_model.specs.Views.{Row}

-- one text chooses the type: `*` all user attributes, `+` all operational ones (RFC 3673), and a type itself; `1.1` and
-- a text of no type choose none
abbrev pub is_chosen_by : ℕ → List ℕ → Bool
is_chosen_by kind text =
    if bytes_eq text (codes "*") then not (is_operational kind)
    else if bytes_eq text (codes "+") then is_operational kind
    else option_map_or (λ chosen. chosen == kind) (attr_of text) false

-- the selection chooses the type; an empty one all user attributes
abbrev pub is_chosen : List (List ℕ) → ℕ → Bool
is_chosen [] kind = not (is_operational kind)
is_chosen (text ∷ texts) kind = list_any (is_chosen_by kind) (text ∷ texts)

-- the values of an attribute that may be read
abbrev pub readable_values : Row → Attribute → List Keyed
readable_values row attribute = filter (λ value. row.allows (Value attribute.kind value) Read) attribute.values

-- an attribute as it is sent: under the name of the table, without values where types alone are asked for
abbrev pub sent_attribute : Bool → Row → Attribute → KindValues
sent_attribute kinds_only row attribute = record {
  kind = name_of attribute.kind;
  values = if kinds_only then [] else map (λ value. value.octets) (readable_values row attribute);
}

-- the attribute is chosen, and its type may be read
abbrev pub is_sent : List (List ℕ) → Row → Attribute → Bool
is_sent selection row attribute = if is_chosen selection attribute.kind then row.allows (Kind attribute.kind) Read else false

-- the attributes that are sent, in the order of the entry
unfoldable pub sent_attributes : List (List ℕ) → Bool → Row → List KindValues
sent_attributes selection kinds_only row =
    map (sent_attribute kinds_only row) (filter (is_sent selection row) row.entry.attributes)

-- an entry as it is sent
unfoldable pub sent_entry : List (List ℕ) → Bool → Row → Reply
sent_entry selection kinds_only row = reply.Entry (print_name row.entry.name) (sent_attributes selection kinds_only row)
