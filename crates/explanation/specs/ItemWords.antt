-- The word that says on what of the entry: `entry`, `type:NAME` or `value:NAME=TEXT`.
use Rattle.std.specs.Prelude.{ℕ, List, Option, Some, None, option_map, codes, if◌then◌else◌}
use Rattle.std.specs.Str.{bytes_eq}
use Rattle.dir_tree.specs.plain_values.Options.{◌>>=◌}
use Rattle.dir_tree.specs.schema_tables.Attributes.{attr_of}
use Rattle.dir_tree.specs.dn_names.NameValues.{value_of}
use Rattle.acdf_filters.specs.Asking.{Protected, Entry, Kind, Value}
use Rattle.explanation.specs.Cutting.{after, cut_at_equals}

-- an attribute type, by its name or object identifier
unfoldable pub kind_item : List ℕ → Option Protected
kind_item name = option_map Kind (attr_of name)

-- a value of a type's syntax: the name ends at the first `=`
unfoldable pub value_item : List ℕ → Option Protected
value_item body = do
  parts ← cut_at_equals body
  kind ← attr_of parts.0
  value ← value_of kind parts.1
  Some (Value kind value)

-- by what follows `type:` and what follows `value:`
abbrev pub item_by : Option (List ℕ) → Option (List ℕ) → Option Protected
item_by (Some name) body = kind_item name
item_by None (Some body) = value_item body
item_by None None = None

-- what is protected
unfoldable pub item_of : List ℕ → Option Protected
item_of word = if bytes_eq word (codes "entry") then Some Entry else item_by (after (codes "type:") word) (after (codes "value:") word)
