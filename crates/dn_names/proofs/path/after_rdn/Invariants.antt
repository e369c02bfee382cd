-- Where the octets begin with an RDN's part, what is left begins with one too, with the same octets behind it.
use Rattle.std.proofs.Common.{◌≡◌, ℕ, List, ◌++◌, length}
use Rattle.dn_names.specs.name.Names.{TypeAndValue}
use Rattle.dn_names.specs.path.PathKeys.{rdn_part}
use Rattle.dn_names.proofs.path.after_rdn.Given as goal

abbrev pub invariant-loop-mark : goal.invariant-loop-mark
invariant-loop-mark l = (rdn : List TypeAndValue) (more : List ℕ) → l.fn.octets ≡ rdn_part rdn ++ more → (later : List TypeAndValue) × (l.rest ≡ rdn_part later ++ more)

abbrev pub decreases-loop-mark : goal.decreases-loop-mark
decreases-loop-mark l = length l.rest
