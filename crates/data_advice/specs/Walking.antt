-- The entries of a tree, as a walk over their numbers finds them.
use Rattle.std.specs.Prelude.{ℕ, Bool, false, List, []}
use Rattle.std.specs.Option.{option_map_or}
use Rattle.dir_tree.specs.Entry.{EntryInformation}
use Rattle.dir_tree.specs.tree.Numbered.{Numbered, entry_of}

-- what the entry of the number gives
abbrev pub gives : (EntryInformation → List ℕ) → List Numbered → ℕ → List ℕ
gives said rows id = option_map_or said (entry_of id rows) []

-- the entry of the number passes the test
abbrev pub passes : (EntryInformation → Bool) → List Numbered → ℕ → Bool
passes test rows id = option_map_or test (entry_of id rows) false
