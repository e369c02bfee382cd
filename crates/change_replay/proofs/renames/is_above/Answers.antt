-- Names are the same as they compare.
use Rattle.std.proofs.Common.{rules}
use Rattle.dir_tree.specs.dn_names.NameOrder.{is_same}
use Rattle.change_replay.proofs.renames.is_above.Goals as goal

pub returns-in-None : goal.returns-in-None
unfolding is_same
returns-in-None c = search rules
