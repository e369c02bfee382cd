-- The table of classes as the program holds it: superiors and attribute types by number.
use Rattle.std.specs.Prelude.{ℕ, List, Option, map, option_map}
use Rattle.schema_tables.specs.declared.kinds.ClassKind.{ClassKind}
use Rattle.schema_tables.specs.declared.classes.ClassRow.{ClassRow}
use Rattle.schema_tables.specs.Naming.{Named}
use Rattle.schema_tables.specs.classes.Classes.{Class, class_of, numbers_of}

-- the plain value of such a row
pub record NumberedClass : Type 0 where
  pub name : List ℕ
  pub oid : List ℕ
  pub kind : ClassKind
  pub superior : Option ℕ
  pub required : List ℕ
  pub allowed : List ℕ

-- of a row that the program holds
abbrev pub numbered_of_row : ClassRow → NumberedClass
numbered_of_row row = record {
  name = row.name.now;
  oid = row.oid.now;
  kind = row.kind;
  superior = option_map (λ superior. superior.0) row.superior;
  required = map (λ attribute. attribute.0) row.required.now;
  allowed = map (λ attribute. attribute.0) row.allowed.now;
}

-- such a row's name with its object identifier
abbrev pub named_number : NumberedClass → Named
named_number row = record { name = row.name; oid = row.oid }

-- of a row of the table
abbrev pub numbered : Class → NumberedClass
numbered row = record {
  name = row.name;
  oid = row.oid;
  kind = row.kind;
  superior = class_of row.superior;
  required = numbers_of row.required;
  allowed = numbers_of row.allowed;
}
