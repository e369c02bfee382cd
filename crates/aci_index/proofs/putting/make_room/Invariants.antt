-- The lists are as they were, and there are places up to the index.
use Rattle.std.proofs.Common.{◌≡◌, ℕ, length}
use Rattle.aci_lists.specs.kept.Lists.{lists_at}
use Rattle.aci_index.proofs.putting.make_room.Given as goal

abbrev pub invariant-loop-index : goal.invariant-loop-index
invariant-loop-index l = record {
  counted : length l.kept.items ≡ l.index;
  stay : (id : ℕ) → lists_at l.kept.items id ≡ lists_at l.fn.kept.items id;
}
