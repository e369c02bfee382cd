-- When two names are the same, when one is a prefix of another, and which comes first. Types and keys alone
-- count: the octets of values say nothing (X.501 9.4 asks for matching; the order is this profile's).
use Rattle.std.specs.Prelude.{ℕ, Bool, List, map, length, take}
use Rattle.std.specs.Ordering.{nat_cmp, ordering_then, is_eq}
use Rattle.std.specs.Cmp.Lexicographic.{slice_cmp}
use Rattle.std.specs.declared.cmp.Ordering.{Ordering}
use Rattle.dn_names.specs.name.Names.{TypeAndValue, RdnSequence}

-- type numbers as numbers, and then keys by octets
abbrev pub pair_cmp : TypeAndValue → TypeAndValue → Ordering
pair_cmp one other = ordering_then (nat_cmp one.kind other.kind) (slice_cmp nat_cmp one.value.key other.value.key)

-- RDNs pair by pair, a front of another before it
abbrev pub rdn_cmp : List TypeAndValue → List TypeAndValue → Ordering
rdn_cmp = slice_cmp pair_cmp

-- names by their RDNs, those next to the root first; a front of another name comes before it
unfoldable pub name_cmp : RdnSequence → RdnSequence → Ordering
name_cmp = slice_cmp rdn_cmp

-- the names are the same
unfoldable pub is_same : RdnSequence → RdnSequence → Bool
is_same one other = is_eq (name_cmp one other)

-- the first name is a prefix of the second, or the same
unfoldable pub is_prefix_of : RdnSequence → RdnSequence → Bool
is_prefix_of front name = is_same (take (length front) name) front

-- what counts of a pair
abbrev pub type_and_key : TypeAndValue → ℕ × List ℕ
type_and_key pair = (pair.kind, pair.value.key)

-- what counts of a name
abbrev pub types_and_keys : RdnSequence → List (List (ℕ × List ℕ))
types_and_keys name = map (map type_and_key) name
