-- By the theorems.
use Rattle.dir_tree.proofs.TreeTheorems.{scoped-One, scoped-Sub}
use Rattle.dir_tree.proofs.laws.scopes_take_in_what_is_below.Goals as goal

pub returns : goal.returns
returns c = record { one = scoped-One; whole = scoped-Sub }
