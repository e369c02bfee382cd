-- By the theorems.
use Rattle.dir_tree.proofs.TreeTheorems.{own_entries, entry_of-found, scoped-One-entries, scoped-Sub-entries}
use Rattle.dir_tree.proofs.laws.numbers_stand_for_entries.Goals as goal

pub returns : goal.returns
returns c = record { own = own_entries; found = entry_of-found; one = scoped-One-entries; sub = scoped-Sub-entries }
