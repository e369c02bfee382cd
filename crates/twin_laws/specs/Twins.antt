-- Twins: two trees that differ in an ordinary subtree alone, which shows a requester nothing and of which no group is
-- named by an access control item outside it (X.501 18, X.511 7.11).
use Rattle.std.specs.Prelude.{◌≡◌, Bool, true, false, not, ◌&&◌, ◌||◌, List, [], ◌∷◌, filter}
use Rattle.std.specs.List.{list_any}
use Rattle.dir_tree.specs.dn_names.name.Names.{RdnSequence}
use Rattle.dir_tree.specs.Entry.{EntryInformation}
use Rattle.dir_tree.specs.tree.Trees.{is_below}
use Rattle.dir_tree.specs.Points.{is_subentry, is_point}
use Rattle.dir_tree.specs.Scope.{is_within}
use Rattle.acdf_filters.specs.admin_scope.Areas.{without_subtree, has_within}
use Rattle.acdf_filters.specs.aci_item.declared.permission.Permission.TheVariants.{Browse, Read, ReturnDn, DiscloseOnError}
use Rattle.acdf_filters.specs.declared.asking.Requester.{Requester}
use Rattle.acdf_filters.specs.Asking.{Entry}
use Rattle.read_model.specs.Views.{Row, View, view_of}
use Rattle.twin_laws.specs.Groups.{lists_group}

-- the name is below that of the suffix, which is the first entry
abbrev pub is_below_suffix : RdnSequence → List EntryInformation → Bool
is_below_suffix top [] = false
is_below_suffix top (first ∷ rest) = is_below first.name top

-- the entry as a whole may be browsed, read, returned by its name, or known of
abbrev pub is_shown : Row → Bool
is_shown row =
    row.allows Entry Browse || (row.allows Entry Read || (row.allows Entry ReturnDn || row.allows Entry DiscloseOnError))

-- an entry at or below the name is shown
abbrev pub shows_within : RdnSequence → View → Bool
shows_within top view = list_any (λ row. is_within top row.entry && is_shown row) view

-- an entry that is neither at the name nor below it passes the test
abbrev pub has_outside : (EntryInformation → Bool) → RdnSequence → List EntryInformation → Bool
has_outside test top entries = list_any (λ entry. not (is_within top entry) && test entry) entries

-- what the requester sees that is neither at the name nor below it
abbrev pub rows_outside : RdnSequence → View → View
rows_outside top view = filter (λ row. not (is_within top row.entry)) view

-- the requester sees nothing of the subtree of the name
pub record IsUnseen (who : Requester) (top : RdnSequence) (entries : List EntryInformation) : Type 0 where
  -- the name is below the suffix
  pub below : is_below_suffix top entries ≡ true
  -- no entry at or below it is a subentry
  pub subentries : has_within is_subentry top entries ≡ false
  -- and none has an administrative role
  pub points : has_within is_point top entries ≡ false
  -- and none is shown to the requester
  pub shown : shows_within top (view_of entries who) ≡ false
  -- and no access control item of any other entry names a group at or below it
  pub groups : has_outside (lists_group top) top entries ≡ false

-- two trees that are the same but for the subtree of the name, of which the requester sees nothing in either
pub record AreTwins (who : Requester) (one other : List EntryInformation) (top : RdnSequence) : Type 0 where
  pub same : without_subtree top one ≡ without_subtree top other
  pub first : IsUnseen who top one
  pub second : IsUnseen who top other
