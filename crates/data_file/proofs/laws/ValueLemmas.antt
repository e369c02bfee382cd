-- Which values are loadable: those that are loaded of octets, and those of a good name.
use Rattle.std.proofs.Common.{◌≡◌, ℕ, ◌-◌, ◌&&◌, nat_le, Bool, true, false, if◌then◌else◌, List, length, drop, Option, Some, None, refl, sym, ap, subst, ◌∙◌}
use Rattle.std.specs.List.{AllByRecursion}
use Rattle.std.specs.Option.{option_map, option_and_then}
use Rattle.std.proofs.lemmas.Str.{IsUtf8-from_is_utf8}
use Rattle.dir_tree.proofs.base_laws_proofs.Theorems.{all_map}
use Rattle.base64.specs.GeneralPurpose.{IsBytes}
use Rattle.dir_tree.specs.schema_tables.declared.kinds.Syntax.{Syntax}
use Rattle.dir_tree.specs.schema_tables.declared.kinds.Syntax.TheVariants.{Text, Ascii, Phone, Country, Octets, Oid, Name, Subtree, Aci}
use Rattle.dir_tree.specs.schema_tables.Attributes.{is_naming, syntax_of}
use Rattle.dir_tree.specs.dn_names.name.Names.{Keyed, TypeAndValue, RdnSequence, last_rdn}
use Rattle.dir_tree.specs.dn_names.name.GoodNames.{IsGoodPair, IsGoodRdn, IsGoodName}
use Rattle.dir_tree.specs.dn_names.NameValues.{value_key, value_of}
use Rattle.dir_tree.specs.dn_names.Resolving.{naming_value}
use Rattle.dir_tree.specs.dn_names.value.Values.{plain_key}
use Rattle.dir_tree.proofs.dn_names_proofs.Theorems.{is_utf8-naming_value, value_of-octets}
use Rattle.ldif_load.specs.load.Loading.{loaded_value}
use Rattle.data_file.specs.Loadable.{IsLoadableValue}
use Rattle.data_file.proofs.laws.OctetLemmas.{IsBytes-from_IsUtf8}
use Rattle.data_file.proofs.laws.PartLemmas.{all_drop, all_joined}

-- the octets with their key, where there is one
abbrev with_key : List ℕ → Option (List ℕ) → Option Keyed
with_key octets key = option_map (λ key. record { octets = octets; key = key }) key

-- a value that is loaded of octets is loadable
loadable_within :
    (within : Bool) (kind : ℕ) (octets : List ℕ) (value : Keyed) → (if within then value_of kind octets else None) ≡ Some value
    → value.octets ≡ octets
loadable_within true kind octets value is = value_of-octets kind octets value is
loadable_within false kind octets value is = absurd cc

pub IsLoadableValue-loaded :
    (kind : ℕ) (octets : List ℕ) (value : Keyed) → IsBytes octets → loaded_value kind octets ≡ Some value
    → IsLoadableValue kind value
IsLoadableValue-loaded kind octets value bytes is =
    let same : value.octets ≡ octets = loadable_within (nat_le (length octets) 65536) kind octets value is in
    record { octets = subst IsBytes (sym same) bytes; value_read = ap (loaded_value kind) same ∙ is }

-- so is a value that may name
value_key-plain :
    (syntax : Syntax) (octets key : List ℕ) → plain_key syntax octets ≡ Some key → value_key syntax octets ≡ Some key
value_key-plain Text octets key is = is
value_key-plain Ascii octets key is = is
value_key-plain Phone octets key is = is
value_key-plain Country octets key is = is
value_key-plain Octets octets key is = is
value_key-plain Oid octets key is = is
value_key-plain Name octets key is = absurd cc
value_key-plain Subtree octets key is = is
value_key-plain Aci octets key is = is

value_key-found :
    (syntax : Syntax) (octets : List ℕ) (value : Keyed) (key : Option (List ℕ)) → plain_key syntax octets ≡ key
    → with_key octets key ≡ Some value
    → with_key octets (value_key syntax octets) ≡ Some value
value_key-found syntax octets value None found is = absurd cc
value_key-found syntax octets value (Some key) found is = rw (value_key-plain syntax octets key found) is

value_of-naming :
    (syntax : Option Syntax) (octets : List ℕ) (value : Keyed)
    → with_key octets (option_and_then (λ syntax. plain_key syntax octets) syntax) ≡ Some value
    → with_key octets (option_and_then (λ syntax. value_key syntax octets) syntax) ≡ Some value
value_of-naming None octets value is = absurd cc
value_of-naming (Some syntax) octets value is = value_key-found syntax octets value (plain_key syntax octets) refl is

both_tests :
    {A : Type 0} (one other : Bool) (found kept : Option A) (value : A) → (found ≡ Some value → kept ≡ Some value)
    → (if one && other then found else None) ≡ Some value → (if other then kept else None) ≡ Some value
both_tests true true found kept value each is = each is
both_tests true false found kept value each is = absurd cc
both_tests false other found kept value each is = absurd cc

loaded_value-naming :
    (kind : ℕ) (octets : List ℕ) (value : Keyed) → naming_value kind octets ≡ Some value
    → loaded_value kind octets ≡ Some value
unfolding naming_value value_of
loaded_value-naming kind octets value is =
    both_tests (is_naming kind) (nat_le (length octets) 65536) _ _ value (value_of-naming (syntax_of kind) octets value) is

-- the pair's value is loadable
abbrev pub IsOwn : TypeAndValue → Type 0
IsOwn pair = IsLoadableValue pair.kind pair.value

IsOwn-from_IsGoodPair : (pair : TypeAndValue) → IsGoodPair pair → IsOwn pair
IsOwn-from_IsGoodPair pair good = record {
  octets =
      IsBytes-from_IsUtf8 pair.value.octets
      (IsUtf8-from_is_utf8 pair.value.octets (is_utf8-naming_value pair.kind pair.value.octets pair.value good));
  value_read = loaded_value-naming pair.kind pair.value.octets pair.value good;
}

-- and so are those of the own RDN of a good name
own_pairs : (rdn : List TypeAndValue) → IsGoodRdn rdn → AllByRecursion IsOwn rdn
own_pairs rdn good = all_map IsGoodPair IsOwn IsOwn-from_IsGoodPair rdn good.good

pub last_rdn-own : (name : RdnSequence) → IsGoodName name → AllByRecursion IsOwn (last_rdn name)
last_rdn-own name good =
    all_joined IsOwn (drop (length name - 1) name)
    (all_map IsGoodRdn (λ rdn. AllByRecursion IsOwn rdn) own_pairs (drop (length name - 1) name)
    (all_drop IsGoodRdn (length name - 1) name good.good))
