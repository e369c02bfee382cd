-- The content of a BOOLEAN: one octet, 0 for FALSE and any other for TRUE (X.690 8.2; RFC 4511 5.1 writes 255).
use Rattle.std.specs.Prelude.{◌≡◌, ℕ, Bool, true, false, not, List, [], ◌∷◌, Option, Some, None, ◌==◌}

-- the content says the flag
pub record IsFlag (flag : Bool) (content : List ℕ) : Type 0 where
  pub octet : ℕ
  pub alone : content ≡ octet ∷ []
  pub says : flag ≡ not (octet == 0)

-- the flag that a content says
abbrev pub flag_of : List ℕ → Option Bool
flag_of [] = None
flag_of (octet ∷ []) = Some (not (octet == 0))
flag_of (octet ∷ other ∷ octets) = None

-- the written content of a flag
abbrev pub flag_octets : Bool → List ℕ
flag_octets true = 255 ∷ []
flag_octets false = 0 ∷ []
