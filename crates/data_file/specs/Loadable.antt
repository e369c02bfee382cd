-- Which entries the data file that is written of them gives again (RFC 2849).
use Rattle.std.specs.Prelude.{◌≡◌, ℕ, Some}
use Rattle.std.specs.List.{AllByRecursion}
use Rattle.base64.specs.GeneralPurpose.{IsBytes}
use Rattle.dir_tree.specs.dn_names.name.Names.{Keyed}
use Rattle.dir_tree.specs.dn_names.name.GoodNames.{IsGoodName}
use Rattle.dir_tree.specs.Entry.{EntryInformation, IsGoodAttributes}
use Rattle.ldif_load.specs.load.Loading.{loaded_value}

-- the value is of octets, of the syntax of its type, of at most 65,536 octets, and has their key
pub record IsLoadableValue (kind : ℕ) (value : Keyed) : Type 0 where
  pub octets : IsBytes value.octets
  pub value_read : loaded_value kind value.octets ≡ Some value

-- the name is a good one; no two attributes are of one type, and each has values of distinct keys, all loadable
pub record IsLoadable (entry : EntryInformation) : Type 0 where
  pub name : IsGoodName entry.name
  pub good : IsGoodAttributes entry.attributes
  pub values : AllByRecursion (λ attribute. AllByRecursion (IsLoadableValue attribute.kind) attribute.values) entry.attributes
