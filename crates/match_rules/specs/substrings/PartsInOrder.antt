-- What a search for the parts of a substring match keeps: with one part found, the others are sought in a rest.
use Rattle.std.specs.Prelude.{◌≡◌, ◌≢◌, ◌↔◌, ℕ, List, ◌∷◌, ◌++◌, Option, None, Some}
use Rattle.match_rules.specs.substrings.Substrings.{InOrder}

-- behind the part there is this rest, in which any other parts stand in order where they do so behind the part;
-- no rest means that the part is not there
abbrev pub IsTextBehind : List ℕ → List ℕ → Option (List ℕ) → Type 0
IsTextBehind part text None = (parts : List (List ℕ)) → ¬ (InOrder (part ∷ parts) text)
IsTextBehind part text (Some rest) = (parts : List (List ℕ)) → InOrder parts rest ↔ InOrder (part ∷ parts) text

-- the key is the first part, this text and the last part; none means that it is so with no text
abbrev pub IsTextBetween : List ℕ → List ℕ → List ℕ → Option (List ℕ) → Type 0
IsTextBetween key first last None = (between : List ℕ) → key ≢ first ++ (between ++ last)
IsTextBetween key first last (Some between) = key ≡ first ++ (between ++ last)
