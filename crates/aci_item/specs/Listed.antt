-- The classes that an entry lists, by their numbers in the table, and what they require and allow (X.501 13.3 and 13.4).
use Rattle.std.specs.Prelude.{ℕ, Bool, true, false, ◌||◌, List, ◌++◌, filter}
use Rattle.std.specs.List.{filter_map, flat_map}
use Rattle.std.specs.Option.{option_map_or}
pub use Rattle.dir_tree.specs.plain_values.Numbers.{has as is_among}
use Rattle.dir_tree.specs.schema_tables.declared.kinds.ClassKind.{ClassKind}
use Rattle.dir_tree.specs.schema_tables.declared.kinds.ClassKind.TheVariants.{Abstract, Structural, Auxiliary}
use Rattle.dir_tree.specs.schema_tables.classes.Classes.{class_with, kind_of, required_of, allowed_of}
use Rattle.dir_tree.specs.schema_tables.Superclasses.{with_superclasses}
use Rattle.dir_tree.specs.Entry.{Attribute, values_of}
use Rattle.dir_tree.specs.EntryClasses.{object_class}

-- the numbers of the listed classes that are in the table, in order
abbrev pub listed_classes : List Attribute → List ℕ
listed_classes attributes = filter_map (λ value. class_with value.key) (values_of object_class attributes)

-- the classes that are listed, and their superclasses
abbrev pub all_classes : List Attribute → List ℕ
all_classes attributes = flat_map with_superclasses (listed_classes attributes)

-- this kind of class is the structural one
abbrev pub is_structural_kind : ClassKind → Bool
is_structural_kind Abstract = false
is_structural_kind Structural = true
is_structural_kind Auxiliary = false

-- the class with this number is structural
abbrev pub is_structural : ℕ → Bool
is_structural number = option_map_or is_structural_kind (kind_of number) false

-- the structural classes that are listed
abbrev pub structural_classes : List Attribute → List ℕ
structural_classes attributes = filter is_structural (listed_classes attributes)

-- one of the two is the other, or a superclass of it
abbrev pub are_in_line : ℕ → ℕ → Bool
are_in_line one other = is_among one (with_superclasses other) || is_among other (with_superclasses one)

-- the attribute types that the classes require
abbrev pub required_by : List ℕ → List ℕ
required_by classes = flat_map required_of classes

-- the attribute types that the classes require or allow
abbrev pub permitted_by : List ℕ → List ℕ
permitted_by classes = flat_map (λ number. required_of number ++ allowed_of number) classes
