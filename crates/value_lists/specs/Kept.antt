-- One value, few, or many with their order, seen as the list of the values.
use Rattle.std.specs.Prelude.{List, [], ◌∷◌}
use Rattle.dn_names.specs.name.Names.{Keyed}
use Rattle.value_lists.specs.declared.kept.Kept.{Kept}
use Rattle.value_lists.specs.declared.kept.Kept.TheVariants.{One, Few, Many}

-- the values that are kept
abbrev pub values_in : Kept → List Keyed
values_in (One value) = value ∷ []
values_in (Few values) = values.items
values_in (Many values) = values.value
