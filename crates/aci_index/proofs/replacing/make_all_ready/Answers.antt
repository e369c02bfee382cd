-- All numbers of the tree are below the bound.
use Rattle.aci_index.proofs.anew.NumberLemmas.{below-more}
use Rattle.aci_index.proofs.replacing.make_all_ready.Goals as goal

pub returns-clause-room : goal.returns-clause-room
returns-clause-room c =
    below-more c.bound.result _ c.args.tree.now c.in_ok-make_room.ensures.room c.bound.ensures.exact
