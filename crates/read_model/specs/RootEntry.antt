-- The root DSE (RFC 4512 5.1): what a search of the empty name and of it alone is answered. It is under no access control.
use Rattle.std.specs.Prelude.{ℕ, ◌==◌, Bool, true, false, not, ◌&&◌, ◌||◌, List, [], ◌∷◌, ◌++◌, map, filter, codes, Option, Some, None, if◌then◌else◌}
use Rattle.std.specs.List.{list_any}
use Rattle.std.specs.Option.{option_map_or}
use Rattle.std.specs.Str.{bytes_eq}
use Rattle.dir_tree.specs.schema_tables.Attributes.{attr_of}
use Rattle.dir_tree.specs.schema_tables.Naming.{is_same_name}
use Rattle.dir_tree.specs.dn_names.Printing.{print_name}
use Rattle.dir_tree.specs.EntryClasses.{object_class}
use Rattle.ldap_msg.specs.ldap_filter.filter.Filters.{Filter}
use Rattle.ldap_msg.specs.ldap_filter.filter.Filters.Filter.{And, Or, Not, Equal, Parts, AtLeast, AtMost, Present, Approx, Extensible}
use Rattle.ldap_msg.specs.declared.operations.ResultCode.TheVariants as code
use Rattle.ldap_msg.specs.declared.kinds.KindValues.{KindValues}
use Rattle.ldap_msg.specs.declared.kinds.SearchRequest.{SearchRequest}
use Rattle.ldap_msg.specs.Search.{is_base}
use Rattle.ldap_msg.specs.declared.kinds.Reply.{Reply}
use Rattle.ldap_msg.specs.declared.kinds.Reply.TheVariants as reply
use Rattle.ldap_msg.specs.declared.operations.Ending.TheVariants as ending
use Rattle.read_model.specs.Views.{Row, View, result_of}

-- an attribute of the root DSE
pub record RootAttribute : Type 0 where
  pub name : List ℕ
  pub operational : Bool
  pub values : List (List ℕ)

-- the name of the suffix
abbrev pub suffix_name : View → List ℕ
suffix_name [] = []
suffix_name (row ∷ rows) = print_name row.entry.name

-- its attributes: what the server holds, and what it is able to do, with the controls of subentries (RFC 3672 3) and of
-- paged results (RFC 2696)
abbrev pub root_attributes : View → List RootAttribute
root_attributes view =
    record { name = codes "objectClass"; operational = false; values = codes "top" ∷ [] }
    ∷ record { name = codes "namingContexts"; operational = true; values = suffix_name view ∷ [] }
    ∷ record { name = codes "supportedControl"; operational = true; values = codes "1.3.6.1.4.1.4203.1.10.1" ∷ codes "1.2.840.113556.1.4.319" ∷ [] }
    ∷ record { name = codes "supportedLDAPVersion"; operational = true; values = codes "3" ∷ [] }
    ∷ []

-- one text chooses the attribute: `*` the user one, `+` the operational ones (RFC 3673), its name, and of objectClass
-- its object identifier
abbrev pub is_root_chosen_by : RootAttribute → List ℕ → Bool
is_root_chosen_by attribute text =
    if bytes_eq text (codes "*") then not attribute.operational
    else if bytes_eq text (codes "+") then attribute.operational
    else is_same_name attribute.name text || (not attribute.operational && bytes_eq text (codes "2.5.4.0"))

-- the selection chooses the attribute; an empty one the user one
abbrev pub is_root_chosen : List (List ℕ) → RootAttribute → Bool
is_root_chosen [] attribute = not attribute.operational
is_root_chosen (text ∷ texts) attribute = list_any (is_root_chosen_by attribute) (text ∷ texts)

-- an attribute as it is sent
abbrev pub sent_root : Bool → RootAttribute → KindValues
sent_root kinds_only attribute = record { kind = attribute.name; values = if kinds_only then [] else attribute.values }

-- the entry as it is sent
unfoldable pub root_entry : View → SearchRequest → Reply
root_entry view request =
    reply.Entry [] (map (sent_root request.kinds_only) (filter (is_root_chosen request.selection) (root_attributes view)))

-- the filter asks whether there is an objectClass
abbrev pub asks_for_root : Filter → Bool
asks_for_root (Present kind) = option_map_or (λ number. number == object_class) (attr_of kind) false
asks_for_root (And members) = false
asks_for_root (Or members) = false
asks_for_root (Not member) = false
asks_for_root (Equal kind value) = false
asks_for_root (Parts kind initial any final) = false
asks_for_root (AtLeast kind value) = false
asks_for_root (AtMost kind value) = false
asks_for_root (Approx kind value) = false
asks_for_root (Extensible content) = false

-- subentries alone are asked for
abbrev pub asks_subentries : Option Bool → Bool
asks_subentries None = false
asks_subentries (Some wanted) = wanted

-- the search finds the root DSE
abbrev pub finds_root : SearchRequest → Option Bool → Bool
finds_root request subentries = asks_for_root request.filter && not (asks_subentries subentries)

-- a search of the empty name: no entry of the tree has it, so scopes but the base alone find nothing
unfoldable pub root_replies : View → SearchRequest → Option Bool → List Reply
root_replies view request subentries =
    if is_base request.scope
    then (if finds_root request subentries then root_entry view request ∷ [] else []) ++ reply.Ended ending.Done (result_of code.Success) ∷ []
    else reply.Ended ending.Done (result_of code.NoSuchObject) ∷ []
