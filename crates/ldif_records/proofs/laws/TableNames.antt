-- No type of the table is named `changetype`.
use Rattle.std.proofs.Common.{◌≡◌, ℕ, not, ◌∙◌, ap, refl, true, false, [], ◌∷◌}
use Rattle.std.specs.List.{list_all}
use Rattle.std.specs.Option.{option_map_or}
use Rattle.std.proofs.lemmas.Bool.{not-true}
use Rattle.dir_tree.specs.schema_tables.Attributes.{Attribute, attributes, name_of, IsAttrId}
use Rattle.dir_tree.proofs.schema_tables_proofs.Theorems.{attribute_at-Some}
use Rattle.ldif_records.specs.Fields.{is_changetype}
use Rattle.dir_tree.proofs.base_laws_proofs.Theorems.{passes_at}

none-named : list_all (λ (row : Attribute). not (is_changetype row.name)) attributes ≡ true
unfolding attributes is_changetype
none-named = refl

pub not_changetype-name_of : (number : ℕ) → IsAttrId number → is_changetype (name_of number) ≡ false
not_changetype-name_of number is =
    let row = attribute_at-Some number is in
    ap (λ found. is_changetype (option_map_or (λ row. row.name) found [])) row.1
    ∙ not-true (is_changetype row.0.name) (passes_at (λ (row : Attribute). not (is_changetype row.name)) attributes number row.0 none-named row.1)
