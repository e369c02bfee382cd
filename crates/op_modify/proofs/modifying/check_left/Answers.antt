-- What the changes leave has the target's name.
use Rattle.dir_tree.proofs.TreeTheorems.{called_same}
use Rattle.op_modify.proofs.modifying.check_left.Goals as goal

pub returns-in-None-clause-named : goal.returns-in-None-clause-named
returns-in-None-clause-named g c =
    called_same c.args.target.now.number.0 c.args.target.now.entry.now c.args.left.name (g.D.Dir.rows c.args.target.now.asking.now.dir.now) c.args.target.now.found c.requires.named
