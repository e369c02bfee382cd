-- The places so far are counted down.
use Rattle.std.proofs.Common.{◌≡◌, ◌++◌, take, drop, map}
use Rattle.value_lists.specs.Orders.{place_after}
use Rattle.value_lists.proofs.drops.count_down.Given as goal

abbrev pub invariant-loop-index : goal.invariant-loop-index
invariant-loop-index l =
    l.places.items ≡ map (place_after l.place) (take l.index l.initial.places.items) ++ drop l.index l.initial.places.items
