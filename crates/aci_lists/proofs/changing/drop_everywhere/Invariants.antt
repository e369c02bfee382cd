-- The number is dropped from those before the index, and the others are as they were.
use Rattle.std.proofs.Common.{◌≡◌, ◌<◌, ◌≤◌, ℕ}
use Rattle.aci_lists.specs.kept.Lists.{lists_at}
use Rattle.aci_lists.specs.kept.Holdings.{without_number}
use Rattle.aci_lists.proofs.changing.drop_everywhere.Given as goal

abbrev pub invariant-loop-index : goal.invariant-loop-index
invariant-loop-index l = record {
  dropped : (id : ℕ) → id < l.index → lists_at l.kept id ≡ without_number l.number.0 (lists_at l.fn.kept id);
  others : (id : ℕ) → l.index ≤ id → lists_at l.kept id ≡ lists_at l.fn.kept id;
}
