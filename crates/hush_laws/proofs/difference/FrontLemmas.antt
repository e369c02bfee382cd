-- The longest common front of two texts.
use Rattle.std.proofs.Common.{◌≡◌, ◌≤◌, ℕ, List, [], ◌∷◌, length, drop, refl, drop_of_length-le}
use Rattle.hush_laws.specs.Audits.{common_front}

-- nothing is common where the second text has ended
common_front-empty : (xs : List ℕ) → common_front xs [] ≡ 0
common_front-empty [] = refl
common_front-empty (x ∷ xs) = refl

pub common_front-ended : (xs ys : List ℕ) (i : ℕ) → length ys ≤ i → common_front (drop i xs) (drop i ys) ≡ 0
common_front-ended xs ys i ended = rw (drop_of_length-le ys ended) (common_front-empty (drop i xs))
