-- The superclasses of a class (RFC 4512 section 2.4.1, X.501 8.3): its superior, the superior of that, and so on.
use Rattle.std.specs.Prelude.{ℕ, zero, suc, List, [], ◌∷◌}
use Rattle.std.specs.Option.{option_map_or}
use Rattle.schema_tables.specs.classes.Classes.{superior_of}

-- the class, and at most so many superclasses
abbrev pub classes_up : ℕ → ℕ → List ℕ
classes_up zero number = number ∷ []
classes_up (suc most) number = number ∷ option_map_or (classes_up most) (superior_of number) []

-- the class and all its superclasses: each superior has a smaller number
abbrev pub with_superclasses : ℕ → List ℕ
with_superclasses number = classes_up number number
