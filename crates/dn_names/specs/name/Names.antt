-- What names are (X.501 9.2 and 9.3): RDNs one behind the other, from the root on, each of some types with values.
use Rattle.std.specs.Prelude.{◌≡◌, ℕ, ◌-◌, true, List, length, drop, map, flat_map}
use Rattle.std.specs.List.{AllByRecursion}
use Rattle.std.specs.Str.{is_utf8}
use Rattle.std.specs.declared.rc.Rc.{Rc}

-- a value: its octets, and the key by which it is compared
pub record Keyed : Type 0 where
  pub octets : List ℕ
  pub key : List ℕ

-- a type, by its number in the table, with a value
pub record TypeAndValue : Type 0 where
  pub kind : ℕ
  pub value : Keyed

-- a name
abbrev pub RdnSequence : Type 0
RdnSequence = List (List TypeAndValue)

-- the pairs of the last RDN; none of the empty name
abbrev pub last_rdn : RdnSequence → List TypeAndValue
last_rdn name = flat_map (λ rdn. rdn) (drop (length name - 1) name)

-- an RDN as the program keeps it: pairs that names may share
abbrev pub SharedRdn : Type 0 → Type 0
SharedRdn Z = Rc (List TypeAndValue) Z

-- the RDNs that the program keeps so
abbrev pub rdns_of : {Z : Type 0} → List (SharedRdn Z) → RdnSequence
rdns_of rdns = map (λ rdn. rdn.value) rdns

-- each value of an RDN is UTF-8
abbrev pub IsTextRdn : List TypeAndValue → Type 0
IsTextRdn rdn = AllByRecursion (λ pair. is_utf8 pair.value.octets ≡ true) rdn

-- each value of a name is UTF-8
abbrev pub IsTextName : RdnSequence → Type 0
IsTextName name = AllByRecursion IsTextRdn name
