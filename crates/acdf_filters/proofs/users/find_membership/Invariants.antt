-- The groups so far have other names, so those that are left decide.
use Rattle.std.proofs.Common.{◌≡◌, drop}
use Rattle.acdf_filters.specs.weighing.Weighing.{known_member}
use Rattle.acdf_filters.proofs.users.find_membership.Given as goal

abbrev pub invariant-loop-membership : goal.invariant-loop-membership
invariant-loop-membership l = known_member (drop l.membership-index l.known) l.group ≡ known_member l.known l.group
