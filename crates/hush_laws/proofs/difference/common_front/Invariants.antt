-- The octets so far are the same, so those that are left decide how many more are.
use Rattle.std.proofs.Common.{◌≡◌, ◌≤◌, ◌+◌, ◌-◌, length, drop}
use Rattle.hush_laws.specs.Audits.{common_front}
use Rattle.hush_laws.proofs.difference.common_front.Given as goal

abbrev pub invariant-loop-count : goal.invariant-loop-count
invariant-loop-count l = record {
  exact : l.count + common_front (drop l.count l.one) (drop l.count l.other) ≡ common_front l.one l.other;
  within_one : l.count ≤ length l.one;
  within_other : l.count ≤ length l.other;
}

abbrev pub decreases-loop-count : goal.decreases-loop-count
decreases-loop-count l = length l.one - l.count
