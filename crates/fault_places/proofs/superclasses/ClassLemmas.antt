-- A class and its superclasses: the class first, and then those from its superior on.
use Rattle.std.proofs.Common.{◌≡◌, ℕ, Bool, false, ◌||◌, List, [], Option, ap, sym, ◌∙◌}
use Rattle.std.specs.List.{list_any, flat_map}
use Rattle.std.specs.Option.{option_map_or}
use Rattle.dir_tree.specs.schema_tables.classes.Classes.{superior_of}
use Rattle.dir_tree.specs.schema_tables.Superclasses.{with_superclasses}
use Rattle.dir_tree.proofs.schema_tables_proofs.Theorems.{with_superclasses-first}
use Rattle.std.proofs.lemmas.List.Folds.{list_any-append}

-- what its own row does not have, its superclasses have
pub from_above : (test : ℕ → Bool) (lists : ℕ → List ℕ) (number : ℕ) (found : Option ℕ) → list_any test (lists number) ≡ false → found ≡ superior_of number
    → list_any test (flat_map lists (with_superclasses number)) ≡ list_any test (flat_map lists (option_map_or with_superclasses found []))
from_above test lists number found not_own is =
    ap (λ classes. list_any test (flat_map lists classes)) (with_superclasses-first number)
    ∙ list_any-append test (lists number) (flat_map lists (option_map_or with_superclasses (superior_of number) []))
    ∙ ap (λ found. list_any test (lists number) || list_any test (flat_map lists (option_map_or with_superclasses found []))) (sym is)
    ∙ ap (λ own. own || list_any test (flat_map lists (option_map_or with_superclasses found []))) not_own
