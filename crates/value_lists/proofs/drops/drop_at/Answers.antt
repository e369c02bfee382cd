-- The places after, without the one.
use Rattle.std.proofs.Common.{ap, map, ◌∙◌}
use Rattle.value_lists.specs.Orders.{place_after}
use Rattle.value_lists.proofs.drops.DropLemmas.{IsOrder-without}
use Rattle.value_lists.proofs.drops.drop_at.Goals as goal

pub returns-clause-order : goal.returns-clause-order
returns-clause-order c =
    rw (
      c.remove.ensures.items,
      c.count_down.ensures.exact ∙ ap (map (place_after c.args.place)) c.drop_place.ensures.exact,
    )
    (IsOrder-without c.args.values.now.items c.args.places.now.items c.args.place c.requires.within c.requires.order)
