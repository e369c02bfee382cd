-- What the checker computes of the tables as they stand.
use Rattle.std.proofs.Common.{◌≡◌, ◌++◌, true, refl, map, drop, is_some}
use Rattle.std.specs.List.{list_all}
use Rattle.schema_tables.specs.Attributes.{attributes, attr_of}
use Rattle.schema_tables.specs.classes.Classes.{classes, class_of}
use Rattle.schema_tables.specs.roles.Roles.{roles}
use Rattle.schema_tables.specs.Naming.{are_distinct, is_keystring}
use Rattle.schema_tables.specs.Oids.{names, named_attribute, named_class, is_dotted_oid}

-- no row of the three tables is like a later one
pub names-are_distinct : are_distinct names ≡ true
unfolding attributes classes roles
names-are_distinct = refl

-- nor is one of the attribute types alone, or of the classes
pub attributes-are_distinct : are_distinct (map named_attribute attributes) ≡ true
unfolding attributes
attributes-are_distinct = refl

pub classes-are_distinct : are_distinct (map named_class classes) ≡ true
unfolding classes
classes-are_distinct = refl

-- each name is a keystring
pub names-are_keystrings : list_all (λ row. is_keystring row.name) names ≡ true
unfolding attributes classes roles
names-are_keystrings = refl

pub attributes-are_keystrings : list_all (λ row. is_keystring row.name) attributes ≡ true
unfolding attributes
attributes-are_keystrings = refl

-- each object identifier is dotted
pub names-are_dotted : list_all (λ row. is_dotted_oid row.oid) names ≡ true
unfolding attributes classes roles is_dotted_oid
names-are_dotted = refl

-- each attribute type that a class lists is in the table
pub classes-are_complete :
    list_all (λ row. list_all (λ name. is_some (attr_of name)) (row.required ++ row.allowed)) classes ≡ true
unfolding attributes classes
classes-are_complete = refl

-- each class but the first names a class as its superior
pub classes-have_superiors : list_all (λ row. is_some (class_of row.superior)) (drop 1 classes) ≡ true
unfolding classes
classes-have_superiors = refl
