-- The RDNs so far are equal, so those that are left decide.
use Rattle.std.proofs.Common.{◌≡◌, ◌+◌, drop}
use Rattle.subtree_spec.specs.membership.Fronts.{begins}
use Rattle.subtree_spec.proofs.membership.begins_at.Given as goal

abbrev pub invariant-loop-index : goal.invariant-loop-index
invariant-loop-index l = begins (drop l.index l.front) (drop (l.at + l.index) l.name) ≡ begins l.front (drop l.at l.name)
