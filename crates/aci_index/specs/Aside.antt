-- What stands aside from an entry: what may come, go or change without changing the access control subentries in force
-- for that entry (X.501 14.3 and 18.3).
use Rattle.std.specs.Prelude.{◌≡◌, ℕ, Bool, true, false, ◌&&◌, if◌then◌else◌, List, length, Option, Some, None, IfSome}
use Rattle.std.specs.Option.{option_and_then}
use Rattle.dir_tree.specs.dn_names.name.Names.{RdnSequence}
use Rattle.dir_tree.specs.dn_names.NameOrder.{is_same}
use Rattle.dir_tree.specs.Entry.{EntryInformation}
use Rattle.dir_tree.specs.tree.Trees.{put_in}
use Rattle.dir_tree.specs.tree.Numbered.{Numbered, entry_of, without}
use Rattle.dir_tree.specs.Points.{is_specific_point, is_inner_point, is_access_subentry}
use Rattle.dir_tree.specs.Scope.{is_within, is_child}
use Rattle.acdf_filters.specs.admin_scope.Areas.{is_access_point}
use Rattle.acdf_filters.specs.admin_scope.InForce.{reaches}

-- the entries with the one put in, if there is one
abbrev pub put_some : Option EntryInformation → List EntryInformation → List EntryInformation
put_some None entries = entries
put_some (Some one) entries = put_in one entries

-- the one is a point for access control, and the entry is at or below it
abbrev pub is_point_over : EntryInformation → EntryInformation → Bool
is_point_over entry one = is_within one.name entry && is_access_point one

-- of such a point how many RDNs its name has, and whether it is specific; None for any other entry
abbrev pub point_over : EntryInformation → EntryInformation → Option (ℕ × Bool)
point_over entry one = if is_point_over entry one then Some (length one.name, is_specific_point one) else None

-- the one is in force for the entry under no point that the entry is at or below
abbrev pub IsNeverInForce : EntryInformation → EntryInformation → Type 0
IsNeverInForce entry one =
    (point : EntryInformation) → is_within point.name entry ≡ true → reaches point one entry ≡ false

-- the one and the other, if they are there, are the same as points over the entry, and neither is in force for it
pub record IsAside (entry : EntryInformation) (one other : Option EntryInformation) : Type 0 where
  pub points : option_and_then (point_over entry) one ≡ option_and_then (point_over entry) other
  pub first : IfSome one (IsNeverInForce entry)
  pub second : IfSome other (IsNeverInForce entry)

-- the entry is neither at nor below the one, which is no access control subentry
pub record IsBeside (entry one : EntryInformation) : Type 0 where
  pub outside : is_within one.name entry ≡ false
  pub ordinary : is_access_subentry one ≡ false

-- the two have the same name and the same roles, and neither is an access control subentry
pub record IsSamePoint (one other : EntryInformation) : Type 0 where
  pub named : is_same one.name other.name ≡ true
  pub specific : is_specific_point one ≡ is_specific_point other
  pub inner : is_inner_point one ≡ is_inner_point other
  pub first : is_access_subentry one ≡ false
  pub second : is_access_subentry other ≡ false

-- the one is immediately below a name, and the entry is neither at nor below that name
pub record IsUnderOther (entry one : EntryInformation) : Type 0 where
  pub top : RdnSequence
  pub outside : is_within top entry ≡ false
  pub under : is_child top one ≡ true

-- the trees are equal but for the number, whose entry was the one and is the other
pub record IsChangeOf (id : ℕ) (rows new : List Numbered) (one other : Option EntryInformation) : Type 0 where
  pub others : without id rows ≡ without id new
  pub before : entry_of id rows ≡ one
  pub after : entry_of id new ≡ other
