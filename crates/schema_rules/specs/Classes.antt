-- The classes of a list of values, as the functions inside this crate see them.
use Rattle.std.specs.Prelude.{◌≡◌, ℕ, Bool, false, not, ◌&&◌, ◌||◌, List, filter, get_or}
use Rattle.std.specs.List.{filter_map, list_any}
use Rattle.std.specs.Option.{option_map_or}
use Rattle.dir_tree.specs.dn_names.name.Names.{Keyed}
use Rattle.dir_tree.specs.Entry.{Attribute, has_kind}
use Rattle.dir_tree.specs.schema_tables.classes.Classes.{class_with}
use Rattle.dir_tree.specs.schema_tables.Superclasses.{with_superclasses}
use Rattle.aci_item.specs.Listed.{all_classes, is_structural, are_in_line, is_among, required_by, permitted_by}

-- the classes of the table that have the keys
abbrev pub classes_in : List Keyed → List ℕ
classes_in values = filter_map (λ value. class_with value.key) values

-- the structural ones of them
abbrev pub structural_in : List Keyed → List ℕ
structural_in values = filter is_structural (classes_in values)

-- an attribute is absent that the class or a superclass of it requires
abbrev pub class_lacks : List Attribute → ℕ → Bool
class_lacks attributes class = list_any (λ kind. not (has_kind kind attributes)) (required_by (with_superclasses class))

-- the class or a superclass of it requires or allows the type
abbrev pub class_permits : ℕ → ℕ → Bool
class_permits kind class = is_among kind (permitted_by (with_superclasses class))

-- besides the numbers that were marked, those that pass the test are
abbrev pub MarksAlso : List Bool → (ℕ → Bool) → List Bool → Type 0
MarksAlso old passes new = (number : ℕ) → get_or new number false ≡ (get_or old number false || passes number)

-- what the classes of the attributes require or allow is marked
abbrev pub AreOfClasses : List Bool → List Attribute → Type 0
AreOfClasses marks attributes =
    (number : ℕ) → get_or marks number false ≡ is_among number (permitted_by (all_classes attributes))

-- the key is that of a structural class that is not in line with the class
abbrev pub is_apart : ℕ → List ℕ → Bool
is_apart one key = option_map_or (λ other. is_structural other && not (are_in_line one other)) (class_with key) false

-- the key is that of a structural class that is not in line with a structural class of the values
abbrev pub is_apart_from : List Keyed → List ℕ → Bool
is_apart_from values key =
    option_map_or (λ one. is_structural one && list_any (λ value. is_apart one value.key) values) (class_with key) false
