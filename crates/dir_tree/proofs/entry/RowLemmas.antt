-- What the map finds is what the attributes have.
use Rattle.std.proofs.Common.{◌≡◌, ℕ, ◌==◌, Bool, List, [], ◌∷◌, slice_get, Option, Some, None, refl, ap, ◌∙◌, arith}
use Rattle.std.specs.Option.{option_map, option_map_or}
use Rattle.std.specs.Map.{lookup}
use Rattle.std.proofs.lemmas.Option.{slice_get-map}
use Rattle.schema_tables.specs.declared.kinds.AttrId.{AttrId}
use Rattle.dn_names.specs.name.Names.{Keyed}
use Rattle.dir_tree.specs.Entry.{Attribute, kinds_of, values_of}
use Rattle.dir_tree.specs.attributes.Rows.{attribute_of, attributes_of}

-- the test of a type among the map's keys
abbrev pub is_kind : AttrId → AttrId → Bool
is_kind one other = one.0 == other.0

-- the values that the map finds, none where it finds nothing
abbrev pub found_values : Option (List Keyed) → List Keyed
found_values found = option_map_or (λ values. values) found []

-- the values of a type are those that the map finds
pub values_of-rows :
    (kind : AttrId) (rows : List (AttrId × List Keyed))
    → values_of kind.0 (attributes_of rows) ≡ found_values (lookup (is_kind kind) rows)
values_of-rows kind [] = refl
values_of-rows kind (row ∷ rows) = grind (arith, values_of-rows kind rows)

-- so one of them is the number of the key at its place
kind_of :
    (found : Option (AttrId × List Keyed))
    → option_map (λ attribute. attribute.kind) (option_map attribute_of found) ≡ option_map (λ row. row.0.0) found
kind_of None = refl
kind_of (Some row) = refl

pub slice_get-kinds :
    (rows : List (AttrId × List Keyed)) (index : ℕ)
    → slice_get (kinds_of (attributes_of rows)) index ≡ option_map (λ row. row.0.0) (slice_get rows index)
slice_get-kinds rows index =
    slice_get-map (λ (attribute : Attribute). attribute.kind) (attributes_of rows) index
    ∙ ap (option_map (λ (attribute : Attribute). attribute.kind)) (slice_get-map attribute_of rows index)
    ∙ kind_of (slice_get rows index)
