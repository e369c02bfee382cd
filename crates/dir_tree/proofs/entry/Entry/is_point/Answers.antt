-- A role is there.
use Rattle.dir_tree.specs.Points.{is_point}
use Rattle.dir_tree.proofs.subentries.AccessLemmas.{some_values}
use Rattle.dir_tree.proofs.entry.Entry.is_point.Goals as goal

pub returns : goal.returns
unfolding is_point
returns c = record { exact = rw (c.is_empty.ensures, c.values.ensures.exact) (some_values _) }
