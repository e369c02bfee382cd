-- What is written behind what was written.
use Rattle.std.proofs.Common.{◌≡◌, ℕ, List, ◌++◌, ap, append_assoc, ◌∙◌}

pub written_more : (old new said rest : List ℕ) → new ≡ old ++ said → new ++ rest ≡ old ++ (said ++ rest)
written_more old new said rest is = ap (λ n. n ++ rest) is ∙ append_assoc old said rest
