-- How an entry gets another name (RFC 4511 4.9, X.511 11.4): the values of the new RDN come, and where the old ones are to
-- go, those go that the new RDN does not name too.
use Rattle.std.specs.Prelude.{◌==◌, Bool, not, ◌&&◌, List, [], ◌∷◌, filter, if◌then◌else◌}
use Rattle.std.specs.List.{list_all, list_any}
use Rattle.std.specs.Str.{bytes_eq}
use Rattle.dir_tree.specs.dn_names.name.Names.{TypeAndValue, RdnSequence, last_rdn}
use Rattle.dir_tree.specs.Entry.{EntryInformation}
use Rattle.dir_tree.specs.attributes.Changes.{without_value}
use Rattle.ldif_load.specs.load.Loading.{with_own_values}

-- two pairs have one type and values that match
abbrev pub is_same_pair : TypeAndValue → TypeAndValue → Bool
is_same_pair one other = (one.kind == other.kind) && bytes_eq one.value.key other.value.key

-- one of the pairs is the same
abbrev pub has_pair : TypeAndValue → List TypeAndValue → Bool
has_pair pair pairs = list_any (is_same_pair pair) pairs

-- each of the pairs is among the others
abbrev pub are_among : List TypeAndValue → List TypeAndValue → Bool
are_among pairs others = list_all (λ pair. has_pair pair others) pairs

-- the two RDNs are the same: the pairs of each are among the other's
abbrev pub is_same_rdn : List TypeAndValue → List TypeAndValue → Bool
is_same_rdn one other = are_among one other && are_among other one

-- the pairs of the first list of which the second has none
abbrev pub gone_among : List TypeAndValue → List TypeAndValue → List TypeAndValue
gone_among old new = filter (λ pair. not (has_pair pair new)) old

-- the pairs of the old name's RDN that the new name's has not
abbrev pub gone_pairs : RdnSequence → RdnSequence → List TypeAndValue
gone_pairs old new = gone_among (last_rdn old) (last_rdn new)

-- the entry without the values of pairs
unfoldable pub without_pairs : EntryInformation → List TypeAndValue → EntryInformation
without_pairs entry [] = entry
without_pairs entry (pair ∷ pairs) = without_pairs (without_value pair.kind pair.value.key entry) pairs

-- the entry under another name: the values of its old RDN stay, or go, as is wished
unfoldable pub renamed_entry : RdnSequence → Bool → EntryInformation → EntryInformation
renamed_entry name delete_old entry =
    let came = with_own_values (record entry { name = name }) in
    if delete_old then without_pairs came (gone_pairs entry.name name) else came
