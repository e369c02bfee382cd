-- Which values are loadable: those that are read of octets in a request, and those of a good name.
use Rattle.std.proofs.Common.{◌≡◌, ℕ, zero, suc, ◌-◌, ◌&&◌, nat_le, Bool, true, false, if◌then◌else◌, List, [], ◌∷◌, length, drop, flat_map, Option, Some, None, Ok, Err, refl, sym, ap, subst, ◌∙◌}
use Rattle.std.specs.List.{AllByRecursion}
use Rattle.std.specs.Option.{option_map, option_and_then}
use Rattle.std.proofs.lemmas.Str.{IsUtf8-from_is_utf8}
use Rattle.dir_tree.proofs.base_laws_proofs.Theorems.{all_map, all_append}
use Rattle.base64.specs.GeneralPurpose.{IsBytes}
use Rattle.dir_tree.specs.schema_tables.declared.kinds.Syntax.{Syntax}
use Rattle.dir_tree.specs.schema_tables.declared.kinds.Syntax.TheVariants.{Text, Ascii, Phone, Country, Octets, Oid, Name, Subtree, Aci}
use Rattle.dir_tree.specs.schema_tables.Attributes.{is_naming, syntax_of}
use Rattle.dir_tree.specs.dn_names.name.Names.{Keyed, TypeAndValue, RdnSequence, last_rdn}
use Rattle.dir_tree.specs.dn_names.name.GoodNames.{IsGoodPair, IsGoodRdn, IsGoodName}
use Rattle.dir_tree.specs.dn_names.NameValues.{value_key, value_of}
use Rattle.dir_tree.specs.dn_names.Resolving.{naming_value}
use Rattle.dir_tree.specs.dn_names.value.Values.{plain_key}
use Rattle.dir_tree.proofs.dn_names_proofs.Theorems.{is_utf8-naming_value, value_of-octets}
use Rattle.session_hub.specs.session_model.ldap_msg.declared.operations.ResultCode.{ResultCode}
use Rattle.session_hub.specs.session_model.ldap_msg.declared.operations.ResultCode.TheVariants as code
use Rattle.data_file.specs.ldif_load.load.Loading.{loaded_value}
use Rattle.change_laws.specs.op_add_delete.reading.NewEntries.{fitting, read_value}
use Rattle.data_file.specs.Loadable.{IsLoadableValue}
use Rattle.loading_laws.proofs.laws.OctetLemmas.{IsBytes-from_IsUtf8}

-- the octets with their key, where there is one
abbrev with_key : List ℕ → Option (List ℕ) → Option Keyed
with_key octets key = option_map (λ key. record { octets = octets; key = key }) key

-- a value that is read of octets is loadable
fits_loaded : (within : Bool) (found value : Keyed) (refusal : ResultCode) → (if within then Ok found else Err refusal) ≡ Ok value
    → (if within then Some found else None) ≡ Some value
fits_loaded true found value refusal is = cc
fits_loaded false found value refusal is = absurd cc

read_loaded : (kind : ℕ) (octets : List ℕ) (found : Option Keyed) (value : Keyed) → value_of kind octets ≡ found → fitting octets found ≡ Ok value
    → loaded_value kind octets ≡ Some value
read_loaded kind octets None value e is = absurd cc
read_loaded kind octets (Some found) value e is = rw e (fits_loaded (nat_le (length octets) 65536) found value code.ConstraintViolation is)

loaded_octets : (within : Bool) (kind : ℕ) (octets : List ℕ) (value : Keyed) → (if within then value_of kind octets else None) ≡ Some value → value.octets ≡ octets
loaded_octets true kind octets value is = value_of-octets kind octets value is
loaded_octets false kind octets value is = absurd cc

pub IsLoadableValue-read : (kind : ℕ) (octets : List ℕ) (value : Keyed) → IsBytes octets → read_value kind octets ≡ Ok value → IsLoadableValue kind value
IsLoadableValue-read kind octets value bytes is =
    let loaded : loaded_value kind octets ≡ Some value = read_loaded kind octets (value_of kind octets) value refl is in
    let same : value.octets ≡ octets = loaded_octets (nat_le (length octets) 65536) kind octets value loaded in
    record { octets = subst IsBytes (sym same) bytes; value_read = ap (loaded_value kind) same ∙ loaded }

-- so is a value that may name
value_key-plain :
    (syntax : Syntax) (octets key : List ℕ) → plain_key syntax octets ≡ Some key → value_key syntax octets ≡ Some key
value_key-plain Text octets key is = is
value_key-plain Ascii octets key is = is
value_key-plain Phone octets key is = is
value_key-plain Country octets key is = is
value_key-plain Octets octets key is = is
value_key-plain Oid octets key is = is
value_key-plain Name octets key is = absurd cc
value_key-plain Subtree octets key is = is
value_key-plain Aci octets key is = is

value_key-found :
    (syntax : Syntax) (octets : List ℕ) (value : Keyed) (key : Option (List ℕ)) → plain_key syntax octets ≡ key
    → with_key octets key ≡ Some value
    → with_key octets (value_key syntax octets) ≡ Some value
value_key-found syntax octets value None found is = absurd cc
value_key-found syntax octets value (Some key) found is = rw (value_key-plain syntax octets key found) is

value_of-naming :
    (syntax : Option Syntax) (octets : List ℕ) (value : Keyed)
    → with_key octets (option_and_then (λ syntax. plain_key syntax octets) syntax) ≡ Some value
    → with_key octets (option_and_then (λ syntax. value_key syntax octets) syntax) ≡ Some value
value_of-naming None octets value is = absurd cc
value_of-naming (Some syntax) octets value is = value_key-found syntax octets value (plain_key syntax octets) refl is

both_tests :
    {A : Type 0} (one other : Bool) (found kept : Option A) (value : A) → (found ≡ Some value → kept ≡ Some value)
    → (if one && other then found else None) ≡ Some value → (if other then kept else None) ≡ Some value
both_tests true true found kept value each is = each is
both_tests true false found kept value each is = absurd cc
both_tests false other found kept value each is = absurd cc

loaded_value-naming :
    (kind : ℕ) (octets : List ℕ) (value : Keyed) → naming_value kind octets ≡ Some value
    → loaded_value kind octets ≡ Some value
unfolding naming_value value_of
loaded_value-naming kind octets value is =
    both_tests (is_naming kind) (nat_le (length octets) 65536) _ _ value (value_of-naming (syntax_of kind) octets value) is

-- the pair's value is loadable
abbrev pub IsOwn : TypeAndValue → Type 0
IsOwn pair = IsLoadableValue pair.kind pair.value

IsOwn-from_IsGoodPair : (pair : TypeAndValue) → IsGoodPair pair → IsOwn pair
IsOwn-from_IsGoodPair pair good = record {
  octets =
      IsBytes-from_IsUtf8 pair.value.octets
      (IsUtf8-from_is_utf8 pair.value.octets (is_utf8-naming_value pair.kind pair.value.octets pair.value good));
  value_read = loaded_value-naming pair.kind pair.value.octets pair.value good;
}

-- and so are those of the own RDN of a good name
own_pairs : (rdn : List TypeAndValue) → IsGoodRdn rdn → AllByRecursion IsOwn rdn
own_pairs rdn good = all_map IsGoodPair IsOwn IsOwn-from_IsGoodPair rdn good.good

all_drop : {A : Type 0} (P : A → Type 0) (count : ℕ) (items : List A) → AllByRecursion P items → AllByRecursion P (drop count items)
all_drop P zero items all = all
all_drop P (suc count) [] all = tt
all_drop P (suc count) (item ∷ items) all = all_drop P count items all.1

all_joined : {A : Type 0} (P : A → Type 0) (lists : List (List A)) → AllByRecursion (λ list. AllByRecursion P list) lists
    → AllByRecursion P (flat_map (λ list. list) lists)
all_joined P [] all = tt
all_joined P (list ∷ lists) all = all_append P list (flat_map (λ list. list) lists) all.0 (all_joined P lists all.1)

pub last_rdn-own : (name : RdnSequence) → IsGoodName name → AllByRecursion IsOwn (last_rdn name)
last_rdn-own name good =
    all_joined IsOwn (drop (length name - 1) name)
    (all_map IsGoodRdn (λ rdn. AllByRecursion IsOwn rdn) own_pairs (drop (length name - 1) name)
    (all_drop IsGoodRdn (length name - 1) name good.good))
