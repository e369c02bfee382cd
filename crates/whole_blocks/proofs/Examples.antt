-- The whole part of small texts.
use Rattle.std.proofs.Common.{◌≡◌, refl, [], ◌∷◌}
use Rattle.whole_blocks.specs.Blocks.{blocks_text, whole_part}

-- two blocks, the first of two lines
two : blocks_text (((65 ∷ []) ∷ (66 ∷ 67 ∷ []) ∷ []) ∷ ((68 ∷ []) ∷ []) ∷ []) ≡ 65 ∷ 10 ∷ 66 ∷ 67 ∷ 10 ∷ 10 ∷ 68 ∷ 10 ∷ 10 ∷ []
two = refl

-- the second without its empty line, and with half of it
torn : whole_part (65 ∷ 10 ∷ 66 ∷ 67 ∷ 10 ∷ 10 ∷ 68 ∷ 10 ∷ []) ≡ 65 ∷ 10 ∷ 66 ∷ 67 ∷ 10 ∷ 10 ∷ []
unfolding whole_part
torn = refl

-- both, and zeros
zeros : whole_part (65 ∷ 10 ∷ 10 ∷ 68 ∷ 10 ∷ 10 ∷ 0 ∷ 0 ∷ []) ≡ 65 ∷ 10 ∷ 10 ∷ 68 ∷ 10 ∷ 10 ∷ []
unfolding whole_part
zeros = refl

-- no block is whole
none : whole_part (65 ∷ 10 ∷ 66 ∷ []) ≡ []
unfolding whole_part
none = refl
