-- Spaces that are cut and joined.
use Rattle.std.proofs.Common.{◌≡◌, ℕ, true, false, List, ◌∷◌}
use Rattle.match_rules.specs.Spaces.{is_space, cut_front}

-- a space at the front is cut
pub cut_front-space : (octet : ℕ) (octets : List ℕ) → is_space octet ≡ true → cut_front (octet ∷ octets) ≡ cut_front octets
cut_front-space octet octets is = rw is

-- and another octet there is not
pub cut_front-other : (octet : ℕ) (octets : List ℕ) → is_space octet ≡ false → cut_front (octet ∷ octets) ≡ octet ∷ octets
cut_front-other octet octets is = rw is
