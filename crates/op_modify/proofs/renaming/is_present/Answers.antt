-- Names are the same as they compare.
use Rattle.std.proofs.Common.{rules}
use Rattle.dir_tree.specs.dn_names.NameOrder.{is_same}
use Rattle.op_modify.proofs.renaming.is_present.Goals as goal

pub returns : goal.returns
unfolding is_same
returns c = search rules
