-- The place at the index is counted down, and the others stay.
use Rattle.std.proofs.Common.{arith, ap, ◌∙◌}
use Rattle.value_lists.specs.Orders.{place_after}
use Rattle.value_lists.proofs.drops.DropLemmas.{counted-next}
use Rattle.value_lists.proofs.drops.count_down.Goals as goal

pub loop-index-preserved : goal.loop-index-preserved
loop-index-preserved c =
    counted-next (place_after c.args.place) c.args.places.now.items c.loop-index.places.items c.loop-index.index
    c.index.result.now c.place_after.result (omega (arith, c.loop-index-test.true, c.len-index-end.ensures))
    c.loop-index.invariant (c.place_after.ensures.exact ∙ ap (place_after c.args.place) c.index.ensures)
