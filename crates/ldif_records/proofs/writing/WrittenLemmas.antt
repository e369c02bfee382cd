-- Lemmas on the written form of an entry, attribute by attribute.
use Rattle.std.proofs.Common.{◌≡◌, ℕ, ◌+◌, ◌<◌, sym, ◌∙◌, ap, arith, List, [], ◌∷◌, ◌++◌, length, take, get_or, Some, None, inl, inr}
use Rattle.std.specs.Prelude.{slice_get, option_map}
use Rattle.std.proofs.lemmas.Grind.{flat_map-append}
use Rattle.std.proofs.lemmas.List.{take_more, append-nil}
use Rattle.std.proofs.lemmas.Option.{slice_get-map, slice_get_cases}
use Rattle.dir_tree.specs.schema_tables.Attributes.{name_of}
use Rattle.dir_tree.specs.dn_names.name.Names.{Keyed}
use Rattle.dir_tree.specs.Entry.{Attribute, kinds_of, values_of, IsGoodAttributes}
use Rattle.dir_tree.proofs.Theorems.{values_of-slice_get}
use Rattle.ldif_records.specs.writing.Written.{written_values, written_attributes}

-- the lines of an attribute
abbrev lines_of : Attribute → List ℕ
lines_of attribute = written_values (name_of attribute.kind) attribute.values

-- those of one attribute more
attributes-at : (attributes : List Attribute) (index : ℕ) (attribute : Attribute) → index < length attributes → get_or attributes index attribute ≡ attribute
    → written_attributes (take (index + 1) attributes) ≡ written_attributes (take index attributes) ++ lines_of attribute
attributes-at attributes index attribute within is =
    ap written_attributes (take_more attributes index attribute within ∙ ap (λ last. take index attributes ++ last ∷ []) is)
    ∙ flat_map-append lines_of (take index attributes) (attribute ∷ [])
    ∙ ap (λ last. written_attributes (take index attributes) ++ last) (append-nil (lines_of attribute))

pub attributes-more : (attributes : List Attribute) (index kind : ℕ) (name : List ℕ) (values : List Keyed) → IsGoodAttributes attributes → Some kind ≡ slice_get (kinds_of attributes) index
    → name ≡ name_of kind → values ≡ values_of kind attributes
    → written_attributes (take (index + 1) attributes) ≡ written_attributes (take index attributes) ++ written_values name values
attributes-more attributes index kind name values good there named found =
    let mapped = slice_get-map (λ (attribute : Attribute). attribute.kind) attributes index in
    elim ((slice_get_cases attributes index).1) [
      | inl inside ↦
          let same : kind ≡ inside.0.kind = cc (there, mapped, ap (option_map (λ (attribute : Attribute). attribute.kind)) inside.2) in
          attributes-at attributes index inside.0 inside.1 inside.3
          ∙ ap (λ lines. written_attributes (take index attributes) ++ lines)
          (ap (λ text. written_values text inside.0.values) (ap name_of (sym same) ∙ sym named)
          ∙ ap (written_values name) (sym (values_of-slice_get attributes index inside.0 good.distinct inside.2) ∙ ap (λ number. values_of number attributes) (sym same) ∙ sym found))
      | inr past ↦ cc (there, mapped, ap (option_map (λ (attribute : Attribute). attribute.kind)) past.1)
    ]

-- within the attributes there is a type
pub kind-within : {A : Type 0} (attributes : List Attribute) (index : ℕ) → index < length attributes → None ≡ slice_get (kinds_of attributes) index → A
kind-within attributes index within none =
    let mapped = slice_get-map (λ (attribute : Attribute). attribute.kind) attributes index in
    elim ((slice_get_cases attributes index).1) [
      | inl inside ↦ cc (none, mapped, ap (option_map (λ (attribute : Attribute). attribute.kind)) inside.2)
      | inr past ↦ absurd (omega (arith, past.0))
    ]
