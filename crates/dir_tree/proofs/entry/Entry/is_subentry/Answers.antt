-- The class of subentries.
use Rattle.dir_tree.specs.Points.{is_subentry}
use Rattle.dir_tree.proofs.entry.Entry.is_subentry.Goals as goal

pub returns : goal.returns
unfolding is_subentry
returns c = record { exact = c.has_class.ensures.exact }
