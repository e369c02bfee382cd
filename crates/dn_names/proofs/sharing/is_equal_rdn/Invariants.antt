-- The pairs so far are equal.
use Rattle.std.proofs.Common.{◌≡◌, take}
use Rattle.dn_names.proofs.sharing.is_equal_rdn.Given as goal

abbrev pub invariant-loop-index : goal.invariant-loop-index
invariant-loop-index l = take l.index l.one ≡ take l.index l.other
