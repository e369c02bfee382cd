-- Administrative points and subentries (X.501 14.3, RFC 3672 section 2), as an entry's own attributes say.
use Rattle.std.specs.Prelude.{ℕ, nat_lt, Bool, ◌&&◌, ◌||◌, not, List, length, filter, codes}
use Prim.Native.String.{String}
use Rattle.dir_tree.specs.Entry.{EntryInformation, values_of, has_key}
use Rattle.dir_tree.specs.EntryClasses.{has_class}

-- the number of administrativeRole in the table of attribute types
abbrev pub administrative_role : ℕ
administrative_role = 29

-- an administrative point has a role
unfoldable pub is_point : EntryInformation → Bool
is_point entry = nat_lt 0 (length (values_of administrative_role entry.attributes))

-- the entry has the role of this object identifier
abbrev pub has_role : String → EntryInformation → Bool
has_role oid entry = has_key (codes oid) (values_of administrative_role entry.attributes)

-- a specific point: an autonomousArea or an accessControlSpecificArea
unfoldable pub is_specific_point : EntryInformation → Bool
is_specific_point entry = has_role "2.5.23.1" entry || has_role "2.5.23.2" entry

-- an inner point: an accessControlInnerArea that is no specific point
unfoldable pub is_inner_point : EntryInformation → Bool
is_inner_point entry = has_role "2.5.23.3" entry && not (is_specific_point entry)

-- a subentry
unfoldable pub is_subentry : EntryInformation → Bool
is_subentry entry = has_class (codes "2.5.17.0") entry

-- an access control subentry: a subentry that has this class too
unfoldable pub is_access_subentry : EntryInformation → Bool
is_access_subentry entry = is_subentry entry && has_class (codes "2.5.17.1") entry

-- how many access control subentries there are
abbrev pub access_subentries : List EntryInformation → ℕ
access_subentries entries = length (filter is_access_subentry entries)
