-- What the program's rows find is what the table of classes has.
use Rattle.std.proofs.Common.{◌≡◌, ℕ, ◌<◌, List, map, position, option_map, slice_get, Option, Some, None, IfSome, refl, Fits, w8, ap, sym, ◌∙◌, arith}
use Rattle.std.proofs.lemmas.Simd.{map-map}
use Rattle.std.proofs.lemmas.Option.{slice_get-map}
use Rattle.std.specs.Option.{option_and_then}
use Rattle.std.specs.Str.{bytes_eq}
use Rattle.schema_tables.specs.declared.kinds.ClassId.{ClassId}
use Rattle.schema_tables.specs.declared.classes.ClassRow.{ClassRow}
use Rattle.schema_tables.specs.classes.Classes.{Class, classes, class_at, class_of, class_with, superior_of}
use Rattle.schema_tables.specs.classes.ClassRows.{NumberedClass, numbered_of_row, named_number, numbered}
use Rattle.schema_tables.specs.Naming.{is_named}
use Rattle.schema_tables.specs.Oids.{named_class}
use Rattle.schema_tables.proofs.superclasses.HierarchyLemmas.{superior_of_below}
use Rattle.schema_tables.proofs.attributes.TableLemmas.{position-map, position_within}

-- the first of the program's rows that a text names is the table's
pub position-rows :
    (rows : List ClassRow) (text : List ℕ) → map numbered_of_row rows ≡ map numbered classes
    → position (λ row. is_named row.name.now row.oid.now text) rows ≡ class_of text
position-rows rows text same =
    let names = λ (row : NumberedClass). is_named row.name row.oid text in
    sym (position-map names numbered_of_row rows) ∙ ap (position names) same ∙ position-map names numbered classes

-- the first of them that has an object identifier is the table's
pub position-rows_with :
    (rows : List ClassRow) (oid : List ℕ) → map numbered_of_row rows ≡ map numbered classes
    → position (λ row. bytes_eq oid row.oid.now) rows ≡ class_with oid
position-rows_with rows oid same =
    let has = λ (row : NumberedClass). bytes_eq oid row.oid in
    sym (position-map has numbered_of_row rows) ∙ ap (position has) same ∙ position-map has numbered classes

-- the program's row of a number is the table's
pub slice_get_rows :
    (rows : List ClassRow) (number : ℕ) → map numbered_of_row rows ≡ map numbered classes
    → option_map numbered_of_row (slice_get rows number) ≡ option_map numbered (class_at number)
slice_get_rows rows number same =
    sym (slice_get-map numbered_of_row rows number)
    ∙ ap (λ table. slice_get table number) same
    ∙ slice_get-map numbered classes number

-- the number of a class fits one octet
pub class_of_fits : (text : List ℕ) (number : ℕ) → class_of text ≡ Some number → Fits w8 number
unfolding classes
class_of_fits text number found =
    let within : number < 19 = position_within (λ row. is_named row.name row.oid text) classes number found in
    omega arith

pub class_with_fits : (oid : List ℕ) (number : ℕ) → class_with oid ≡ Some number → Fits w8 number
unfolding classes
class_with_fits oid number found =
    let within : number < 19 = position_within (λ row. bytes_eq oid row.oid) classes number found in
    omega arith

-- the names of the program's rows are the table's
pub named_rows :
    (rows : List ClassRow) → map numbered_of_row rows ≡ map numbered classes
    → map (λ row. named_number (numbered_of_row row)) rows ≡ map named_class classes
named_rows rows same =
    sym (map-map named_number numbered_of_row rows) ∙ ap (map named_number) same ∙ map-map named_number numbered classes

-- the superior in a numbered row is the table's
superior_of_numbered :
    (found : Option Class)
    → option_and_then (λ row. row.superior) (option_map numbered found) ≡ option_and_then (λ row. class_of row.superior) found
superior_of_numbered None = refl
superior_of_numbered (Some row) = refl

-- so the superior in the program's row of a number is below that number
superior_below :
    (superior : Option ClassId) (number : ℕ) → option_map (λ class. class.0) superior ≡ superior_of number
    → IfSome superior (λ class. class.0 < number)
superior_below None number same = tt
superior_below (Some class) number same = superior_of_below number class.0 (sym same)

pub superior_of_row_below :
    (row : ClassRow) (number : ℕ) → Some (numbered_of_row row) ≡ option_map numbered (class_at number)
    → IfSome row.superior (λ class. class.0 < number)
superior_of_row_below row number same =
    superior_below row.superior number
    (ap (option_and_then (λ found. found.superior)) same ∙ superior_of_numbered (class_at number))
