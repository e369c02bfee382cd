-- Whether two lists of entries are the same, by a test: their names with all types and values, and their attributes in their
-- order, octets and keys.
use Rattle.std.specs.Prelude.{◌==◌, Bool, ◌&&◌, List}
use Rattle.std.specs.Cmp.Lexicographic.{pointwise}
use Rattle.std.specs.Str.{bytes_eq}
use Rattle.dir_tree.specs.dn_names.name.Names.{Keyed, TypeAndValue, RdnSequence}
use Rattle.dir_tree.specs.Entry.{Attribute, EntryInformation}

-- two values have the same octets and the same key
abbrev pub are_equal_values : Keyed → Keyed → Bool
are_equal_values one other = bytes_eq one.octets other.octets && bytes_eq one.key other.key

-- two pairs of a type and a value are the same
abbrev pub are_equal_pairs : TypeAndValue → TypeAndValue → Bool
are_equal_pairs one other = (one.kind == other.kind) && are_equal_values one.value other.value

-- two names are
abbrev pub are_equal_names : RdnSequence → RdnSequence → Bool
are_equal_names one other = pointwise (pointwise are_equal_pairs) one other

-- two attributes are
abbrev pub are_equal_attributes : Attribute → Attribute → Bool
are_equal_attributes one other = (one.kind == other.kind) && pointwise are_equal_values one.values other.values

-- two entries are
abbrev pub are_equal_entries : EntryInformation → EntryInformation → Bool
are_equal_entries one other = are_equal_names one.name other.name && pointwise are_equal_attributes one.attributes other.attributes

-- two lists of entries are
abbrev pub are_all_equal : List EntryInformation → List EntryInformation → Bool
are_all_equal one other = pointwise are_equal_entries one other
