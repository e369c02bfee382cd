-- One item, or a vector of them, seen as the list of the items.
use Rattle.std.specs.Prelude.{List, [], ◌∷◌}
use Rattle.plain_values.specs.declared.one_or_many.Kept.{Kept}
use Rattle.plain_values.specs.declared.one_or_many.Kept.TheVariants.{One, Many}

-- the items that are kept
abbrev pub items_in : {T : Type 0} → Kept T → List T
items_in (One item) = item ∷ []
items_in (Many items) = items.items
