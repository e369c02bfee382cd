-- What is left of octets after others that they begin with.
use Rattle.std.specs.Prelude.{ℕ, ◌==◌, List, [], ◌∷◌, Option, Some, None, if◌then◌else◌}

-- the octets after the front; none where they begin otherwise
abbrev pub strip : List ℕ → List ℕ → Option (List ℕ)
strip [] octets = Some octets
strip (octet ∷ front) [] = None
strip (octet ∷ front) (other ∷ octets) = if octet == other then strip front octets else None
