-- The classes so far.
use Rattle.std.proofs.Common.{ℕ, ◌≡◌, false, take, get_or}
use Rattle.std.specs.List.{list_any}
use Rattle.std.specs.Option.{option_map_or}
use Rattle.dir_tree.specs.schema_tables.classes.Classes.{class_with}
use Rattle.schema_rules.specs.Classes.{class_permits}
use Rattle.schema_rules.proofs.marks.permitted_by.Given as goal

abbrev pub invariant-loop-value : goal.invariant-loop-value
invariant-loop-value l =
    (number : ℕ) → get_or l.marks number false
    ≡ list_any (λ value. option_map_or (class_permits number) (class_with value.key) false) (take l.value-index l.listed)
