-- The lines of a data file (RFC 2849, notes 1 and 2): lines as they stand, and lines with what continues them.
use Rattle.std.specs.Prelude.{ℕ, ◌+◌, ◌==◌, Bool, false, if◌then◌else◌, List, [], ◌∷◌, ◌++◌, drop}

-- a line: its number, from 1, which is that of the first line as it stands, and its octets without the end
pub record Line : Type 0 where
  pub number : ℕ
  pub octets : List ℕ

-- lines as they stand, the first of which has the number
abbrev pub numbered : ℕ → List (List ℕ) → List Line
numbered number [] = []
numbered number (octets ∷ rest) = record { number = number; octets = octets } ∷ numbered (number + 1) rest

-- the octet is the first
abbrev pub begins_with : ℕ → List ℕ → Bool
begins_with octet [] = false
begins_with octet (first ∷ rest) = first == octet

-- the line begins with a space: it continues the line before it, without that space
abbrev pub is_continuation : Line → Bool
is_continuation line = begins_with 32 line.octets

-- the octets of the continuations at the front
unfoldable pub continued : List Line → List ℕ
continued [] = []
continued (line ∷ rest) = if is_continuation line then drop 1 line.octets ++ continued rest else []

-- a line with its continuations, which stand at the front of those after it
abbrev pub unfolded : Line → List Line → Line
unfolded line rest = record { number = line.number; octets = line.octets ++ continued rest }

-- the lines, each with its continuations, that begin at one that is no continuation
unfoldable pub beginning : List Line → List Line
beginning [] = []
beginning (line ∷ rest) = if is_continuation line then beginning rest else unfolded line rest ∷ beginning rest

-- the lines with their continuations; the first has none to continue, and stands for itself
unfoldable pub logical : List Line → List Line
logical [] = []
logical (line ∷ rest) = unfolded line rest ∷ beginning rest
