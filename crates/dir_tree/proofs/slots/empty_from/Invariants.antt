-- The slots passed over are full.
use Rattle.std.proofs.Common.{◌≡◌, ◌≤◌, ◌<◌, ◌-◌, ℕ, length, true}
use Rattle.std.specs.Prelude.{is_some}
use Rattle.dir_tree.specs.slots.Slots.{slot_of}
use Rattle.dir_tree.proofs.slots.empty_from.Given as goal

abbrev pub invariant-loop-id : goal.invariant-loop-id
invariant-loop-id l = (id : ℕ) → l.from ≤ id → id < l.id → is_some (slot_of l.slots id) ≡ true

abbrev pub decreases-loop-id : goal.decreases-loop-id
decreases-loop-id l = length l.slots - l.id
