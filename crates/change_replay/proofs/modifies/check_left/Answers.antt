-- What the changes leave has the target's name.
use Rattle.dir_tree.proofs.TreeTheorems.{called_same}
use Rattle.change_replay.proofs.modifies.check_left.Goals as goal

pub returns-in-None-clause-named : goal.returns-in-None-clause-named
returns-in-None-clause-named c =
    called_same c.args.target.number.0 c.args.target.entry.now c.args.left.name c.args.tree.now c.requires.found c.requires.named
