-- All numbers of the tree are below the bound.
use Rattle.aci_index.proofs.anew.NumberLemmas.{below-more}
use Rattle.aci_index.proofs.anew.AnewLemmas.{room-anew}
use Rattle.aci_index.proofs.anew.make_anew_with_room.Goals as goal

pub returns-clause-room : goal.returns-clause-room
returns-clause-room c =
    room-anew c.args.top.0 c.args.top.0 _ c.in_ok-anew.anew c.args.tree.now
    (below-more c.bound.result _ c.args.tree.now c.in_ok-make_room.ensures.room c.bound.ensures.exact) c.in_ok-anew.ensures.ok
