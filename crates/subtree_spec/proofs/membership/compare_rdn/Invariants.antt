-- The pairs so far are equal, so those that are left decide.
use Rattle.std.proofs.Common.{◌≡◌, ◌≤◌, drop, length}
use Rattle.dn_names.specs.NameOrder.{rdn_cmp}
use Rattle.subtree_spec.proofs.membership.compare_rdn.Given as goal

abbrev pub invariant-loop-index : goal.invariant-loop-index
invariant-loop-index l = record {
  within : l.index ≤ length l.other;
  exact : rdn_cmp (drop l.index l.one) (drop l.index l.other) ≡ rdn_cmp l.one l.other;
}
