-- The first place of the map is the first row's.
use Rattle.std.proofs.Common.{ℕ, ◌≡◌, List, [], ◌∷◌, Option, Some, sym, ap}
use Rattle.std.specs.Prelude.{slice_get}
use Rattle.std.specs.Option.{option_map}
use Rattle.std.specs.Map.{values_of}
use Rattle.dir_tree.specs.Entry.{EntryInformation}
use Rattle.dir_tree.specs.tree.Numbered.{suffix_of}
use Rattle.dir_tree.specs.slots.Slots.{rows_of}
use Rattle.dir_tree.proofs.tree.Tree.suffix.Goals as goal

first : {K : Type 0} (slots : List (Option EntryInformation)) (key : K) (id : ℕ) (places : List (K × ℕ)) → slice_get places 0 ≡ Some (key, id) → Some id ≡ suffix_of (rows_of slots (values_of places))
first slots key id [] e = absurd cc
first {K} slots key id (x ∷ places) e = sym (ap (option_map (λ (place : K × ℕ). place.1)) e)

pub returns-in-Some : goal.returns-in-Some
returns-in-Some c = record {
  exact = rw (← c.self.view_is) (first c.self.inside.slots.items _ _ c.self.inside.places.entries c.in-Some.ensures.first);
}
