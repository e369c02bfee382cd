-- What the program's rows find is what the table of attribute types has.
use Rattle.std.proofs.Common.{◌≡◌, ℕ, ◌<◌, List, map, position, Some, Fits, w8, ap, sym, ◌∙◌, arith}
use Rattle.std.proofs.lemmas.Simd.{map-map}
use Rattle.schema_tables.specs.declared.kinds.Row.{Row}
use Rattle.schema_tables.specs.Attributes.{attributes, attribute_of_row, attribute_at, attr_of}
use Rattle.schema_tables.specs.Naming.{is_named}
use Rattle.schema_tables.specs.Oids.{named_attribute}
use Rattle.schema_tables.proofs.attributes.TableLemmas.{position-map, position_within}
use Rattle.schema_tables.proofs.Theorems.{attr_of-name}

-- the first of the program's rows that a text names is the table's
pub position-rows :
    (rows : List Row) (text : List ℕ) → map attribute_of_row rows ≡ attributes
    → position (λ row. is_named row.name.now row.oid.now text) rows ≡ attr_of text
position-rows rows text same =
    let names = λ (row : _). is_named row.name row.oid text in
    sym (position-map names attribute_of_row rows) ∙ ap (position names) same

-- the number of an attribute type fits one octet
pub attr_of_fits : (text : List ℕ) (number : ℕ) → attr_of text ≡ Some number → Fits w8 number
unfolding attributes
attr_of_fits text number found =
    let within : number < 35 = position_within (λ row. is_named row.name row.oid text) attributes number found in
    omega arith

-- the names of the program's rows are the table's
pub named_rows :
    (rows : List Row) → map attribute_of_row rows ≡ attributes
    → map (λ row. named_attribute (attribute_of_row row)) rows ≡ map named_attribute attributes
named_rows rows same = sym (map-map named_attribute attribute_of_row rows) ∙ ap (map named_attribute) same

-- a name as the table spells it finds its row
pub attr_of-spelled :
    (row : Row) (number : ℕ) (text : List ℕ) → attribute_at number ≡ Some (attribute_of_row row) → row.name.now ≡ text
    → attr_of text ≡ Some number
attr_of-spelled row number text there same = ap attr_of (sym same) ∙ attr_of-name number (attribute_of_row row) there
