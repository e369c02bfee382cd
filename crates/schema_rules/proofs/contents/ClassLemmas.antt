-- A class and its superclasses: the class first, and then those from its superior on.
use Rattle.std.proofs.Common.{◌≡◌, ℕ, ◌==◌, Bool, true, false, not, ◌&&◌, ◌||◌, List, [], ◌∷◌, length, Option, Some, None, refl, ap, sym, ◌∙◌}
use Rattle.std.specs.List.{list_any, list_all, flat_map, cons_option}
use Rattle.std.specs.Option.{option_map_or}
use Rattle.dir_tree.specs.schema_tables.classes.Classes.{class_with, superior_of}
use Rattle.dir_tree.specs.schema_tables.Superclasses.{with_superclasses}
use Rattle.dir_tree.proofs.schema_tables_proofs.Theorems.{with_superclasses-first}
use Rattle.std.proofs.lemmas.Grind.{flat_map-append}
use Rattle.std.proofs.lemmas.List.Folds.{list_any-append}
use Rattle.dir_tree.specs.dn_names.name.Names.{Keyed}
use Rattle.aci_item.specs.Listed.{is_structural, are_in_line}
use Rattle.schema_rules.specs.Classes.{classes_in, structural_in, is_apart, is_apart_from}
use Rattle.schema_rules.proofs.values.ListLemmas.{list_any-filter, list_any-filter_map, list_all-filter, list_all-filter_map, list_any-same, none_passes}

-- the same of a list that each class gives
pub flat_map-first :
    {Y : Type 0} (test : Y → Bool) (lists : ℕ → List Y) (number : ℕ) (found : Option ℕ) → found ≡ superior_of number
    → list_any test (flat_map lists (with_superclasses number))
    ≡ (list_any test (lists number) || list_any test (flat_map lists (option_map_or with_superclasses found [])))
flat_map-first test lists number found is =
    ap (λ classes. list_any test (flat_map lists classes)) (with_superclasses-first number)
    ∙ list_any-append test (lists number) (flat_map lists (option_map_or with_superclasses (superior_of number) []))
    ∙ ap (λ found. list_any test (lists number) || list_any test (flat_map lists (option_map_or with_superclasses found []))) (sym is)

pub flat_map-own :
    {Y : Type 0} (test : Y → Bool) (lists : ℕ → List Y) (number : ℕ) → list_any test (lists number) ≡ true
    → list_any test (flat_map lists (with_superclasses number)) ≡ true
flat_map-own test lists number own = flat_map-first test lists number (superior_of number) refl ∙ rw own refl

pub flat_map-above :
    {Y : Type 0} (test : Y → Bool) (lists : ℕ → List Y) (number : ℕ) (found : Option ℕ)
    → list_any test (lists number) ≡ false → found ≡ superior_of number
    → list_any test (flat_map lists (with_superclasses number))
    ≡ list_any test (flat_map lists (option_map_or with_superclasses found []))
flat_map-above test lists number found not_own is = flat_map-first test lists number found is ∙ rw not_own refl

-- the classes of the values, one value after another
next_value :
    {Y : Type 0} (test : Y → Bool) (lists : ℕ → List Y) (found : Option ℕ) (rest : List ℕ)
    → list_any test (flat_map lists (flat_map with_superclasses (cons_option found rest)))
    ≡ (option_map_or (λ class. list_any test (flat_map lists (with_superclasses class))) found false
    || list_any test (flat_map lists (flat_map with_superclasses rest)))
next_value test lists None rest = refl
next_value test lists (Some class) rest =
    ap (list_any test) (flat_map-append lists (with_superclasses class) (flat_map with_superclasses rest))
    ∙ list_any-append test (flat_map lists (with_superclasses class)) (flat_map lists (flat_map with_superclasses rest))

pub flat_map-all_classes :
    {Y : Type 0} (test : Y → Bool) (lists : ℕ → List Y) (values : List Keyed)
    → list_any test (flat_map lists (flat_map with_superclasses (classes_in values)))
    ≡ list_any (λ value. option_map_or (λ class. list_any test (flat_map lists (with_superclasses class))) (class_with value.key) false) values
flat_map-all_classes test lists [] = refl
flat_map-all_classes test lists (value ∷ values) =
    next_value test lists (class_with value.key) (classes_in values)
    ∙ ap (λ later. option_map_or (λ class. list_any test (flat_map lists (with_superclasses class))) (class_with value.key) false || later)
    (flat_map-all_classes test lists values)

-- structural classes
pub structural_tests :
    (test : ℕ → Bool) (values : List Keyed)
    → list_any test (structural_in values)
    ≡ list_any (λ value. option_map_or (λ class. is_structural class && test class) (class_with value.key) false) values
structural_tests test values =
    list_any-filter test is_structural (classes_in values)
    ∙ list_any-filter_map (λ class. is_structural class && test class) (λ value. class_with value.key) values

pub no_structural :
    (values : List Keyed)
    → (length (structural_in values) == 0)
    ≡ not (list_any (λ value. option_map_or is_structural (class_with value.key) false) values)
no_structural values =
    none_passes is_structural (classes_in values)
    ∙ ap not (list_any-filter_map is_structural (λ value. class_with value.key) values)

pub two_lines :
    (values : List Keyed)
    → list_any (λ one. list_any (λ other. not (are_in_line one other)) (structural_in values)) (structural_in values)
    ≡ list_any (λ value. is_apart_from values value.key) values
two_lines values =
    list_any-same _ (λ one. list_any (λ value. is_apart one value.key) values) (structural_in values)
    (λ one. structural_tests (λ other. not (are_in_line one other)) values)
    ∙ structural_tests (λ one. list_any (λ value. is_apart one value.key) values) values

pub all_structural :
    (test : ℕ → Bool) (values : List Keyed)
    → list_all (λ value. option_map_or (λ class. not (is_structural class) || test class) (class_with value.key) true) values
    ≡ list_all test (structural_in values)
all_structural test values =
    sym (list_all-filter_map (λ class. not (is_structural class) || test class) (λ value. class_with value.key) values)
    ∙ sym (list_all-filter test is_structural (classes_in values))
