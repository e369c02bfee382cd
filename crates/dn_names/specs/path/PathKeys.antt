-- The path key of a name: octets that compare as names do, and of which one begins another exactly where the name
-- begins the other. No standard has them; they let an ordered map find names by octets alone.
use Rattle.std.specs.Prelude.{◌≡◌, ℕ, zero, suc, List, [], ◌∷◌, ◌++◌}
use Rattle.std.specs.List.{flat_map}
use Rattle.dn_names.specs.name.Names.{TypeAndValue, RdnSequence}
use Rattle.dn_names.specs.name.GoodNames.{IsGoodName}

-- an octet of a key: 00 is 00 FF, any other is itself
abbrev pub escape_octet : ℕ → List ℕ
escape_octet zero = 0 ∷ 255 ∷ []
escape_octet (suc n) = suc n ∷ []

-- the octets of a key, and 00 00 behind them
abbrev pub escape : List ℕ → List ℕ
escape [] = 0 ∷ 0 ∷ []
escape (octet ∷ octets) = escape_octet octet ++ escape octets

-- a pair: the octet 02, the type's number, and the value's key
abbrev pub pair_part : TypeAndValue → List ℕ
pair_part pair = 2 ∷ pair.kind ∷ escape pair.value.key

-- an RDN: its pairs, and the octet 01 behind them
abbrev pub rdn_part : List TypeAndValue → List ℕ
rdn_part [] = 1 ∷ []
rdn_part (pair ∷ pairs) = pair_part pair ++ rdn_part pairs

-- a name: its RDNs, root first
unfoldable pub path_key : RdnSequence → List ℕ
path_key name = flat_map rdn_part name

-- what holds of each name that is kept: it is good, and its path key is kept with it
pub record IsKept (name : RdnSequence) (octets : List ℕ) : Type 0 where
  pub good : IsGoodName name
  pub path : octets ≡ path_key name
