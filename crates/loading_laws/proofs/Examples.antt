-- The definitions, computed on small cases.
use Rattle.std.proofs.Common.{[], ◌∷◌, arith}
use Rattle.loading_laws.specs.LoadableTrees.{AreOctets}

-- 0 and 255 are octets, and 256 is none
octets : AreOctets (0 ∷ 255 ∷ [])
octets = (omega arith, (omega arith, tt))

no_octet : ¬ (AreOctets (256 ∷ []))
no_octet are = let below = are.0 in absurd (omega arith)
