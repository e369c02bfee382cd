-- Substring matches (RFC 4511, section 4.5.1.7.2; RFC 4517, section 4.2.13), read on keys.
use Rattle.std.specs.Prelude.{◌≡◌, ℕ, List, [], ◌∷◌, ◌++◌}

-- the parts stand in the text one behind the other, with any octets before, between and after them
abbrev pub InOrder : List (List ℕ) → List ℕ → Type 0
InOrder [] text = Unit {0}
InOrder (part ∷ parts) text = (before rest : List ℕ) × (text ≡ before ++ (part ++ rest)) × InOrder parts rest

-- the key begins with the first part, ends with the last one, and has all middle parts in between, none over another
abbrev pub IsSubstring : List ℕ → List ℕ → List (List ℕ) → List ℕ → Type 0
IsSubstring key first middle last = (between : List ℕ) × (key ≡ first ++ (between ++ last)) × InOrder middle between
