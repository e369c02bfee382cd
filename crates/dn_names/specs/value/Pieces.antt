-- A value in one text: its octets, and behind them its key where that is not the octets again.
use Rattle.std.specs.Prelude.{ℕ, ◌+◌, ◌==◌, List, [], ◌∷◌, length, take, drop, if◌then◌else◌}

-- the octets stand before the split
abbrev pub octets_in : ℕ → List ℕ → List ℕ
octets_in split text = take split text

-- the key stands behind it; where the split is the text's end, the key is the octets
abbrev pub key_in : ℕ → List ℕ → List ℕ
key_in split text = if split == length text then text else drop split text

-- where octets and another key are split: at the end of the octets, or past it where the key is empty
abbrev pub split_of : List ℕ → List ℕ → ℕ
split_of octets [] = length octets + 1
split_of octets (first ∷ key) = length octets
