-- By the theorems.
use Rattle.dir_tree.proofs.TreeTheorems.{entries_of-put_row, entries_of-without}
use Rattle.dir_tree.proofs.laws.entries_change_as_rows_do.Goals as goal

pub returns : goal.returns
returns c = record { put = λ id entry rows. entries_of-put_row (record { id = id; entry = entry }) rows; taken = entries_of-without }
