-- Names as the rules allow them: what reading gives, and what is read again from its printed form.
use Rattle.std.specs.Prelude.{◌≡◌, ◌≢◌, ◌<◌, ◌≤◌, List, [], ◌∷◌, length, Some}
use Rattle.std.specs.List.{AllByRecursion}
use Rattle.dn_names.specs.Limits.{most_rdns}
use Rattle.dn_names.specs.name.Names.{TypeAndValue, RdnSequence}
use Rattle.dn_names.specs.Resolving.{naming_value}

-- the value is one of the pair's type, which may name: of its syntax, with its key, and not too long
abbrev pub IsGoodPair : TypeAndValue → Type 0
IsGoodPair pair = naming_value pair.kind pair.value.octets ≡ Some pair.value

-- each type's number is above those before it: distinct types in the order of the table
abbrev pub IsInTableOrder : List TypeAndValue → Type 0
IsInTableOrder [] = Unit {0}
IsInTableOrder (pair ∷ pairs) = AllByRecursion (λ later. pair.kind < later.kind) pairs × IsInTableOrder pairs

-- at least one pair
pub record IsGoodRdn (rdn : List TypeAndValue) : Type 0 where
  pub filled : rdn ≢ []
  pub good : AllByRecursion IsGoodPair rdn
  pub ordered : IsInTableOrder rdn

-- not too many RDNs
pub record IsGoodName (name : RdnSequence) : Type 0 where
  pub fits : length name ≤ most_rdns
  pub good : AllByRecursion IsGoodRdn name
