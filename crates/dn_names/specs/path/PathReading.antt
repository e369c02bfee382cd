-- What is left of a path key behind a value's key: the other way round from writing it.
use Rattle.std.specs.Prelude.{ℕ, Bool, false, ◌&&◌, ◌==◌, List, [], ◌∷◌, if◌then◌else◌}

-- the octets behind the first 00 00; whether 00 stands before them
abbrev pub after_from : Bool → List ℕ → List ℕ
after_from zero [] = []
after_from zero (octet ∷ octets) = if octet == 0 && zero then octets else after_from (octet == 0) octets

-- the octets behind the end of a key
abbrev pub after_key : List ℕ → List ℕ
after_key octets = after_from false octets
