-- Which subtrees count for no decision on an entry outside them: those without access control subentries, of which no
-- group is named outside.
use Rattle.std.specs.Prelude.{◌≡◌, ℕ, Bool, false, not, ◌&&◌, ◌||◌, List}
use Rattle.std.specs.List.{list_any}
use Rattle.dir_tree.specs.dn_names.name.Names.{RdnSequence}
use Rattle.dir_tree.specs.dn_names.NameOrder.{is_prefix_of}
use Rattle.dir_tree.specs.Entry.{EntryInformation}
use Rattle.dir_tree.specs.Points.{is_access_subentry}
use Rattle.dir_tree.specs.Scope.{is_within}
use Rattle.admin_scope.specs.Areas.{has_within}
use Rattle.acdf_filters.specs.Tuples.{Listed, prescriptive_aci, entry_aci, subentry_aci, listed_in}

-- the tuple names a group at or below the name
abbrev pub names_group : RdnSequence → Listed → Bool
names_group top listed = list_any (is_prefix_of top) listed.tuple.classes.groups

-- an item of the entry's values of the type does
abbrev pub names_group_in : RdnSequence → ℕ → EntryInformation → Bool
names_group_in top kind entry = list_any (names_group top) (listed_in kind entry)

-- an access control item of the entry does
abbrev pub has_group : RdnSequence → EntryInformation → Bool
has_group top entry =
    names_group_in top prescriptive_aci entry || (names_group_in top entry_aci entry || names_group_in top subentry_aci entry)

-- nothing at or below the name counts for an entry that is neither
pub record IsApart (top : RdnSequence) (entries : List EntryInformation) : Type 0 where
  pub subentries : has_within is_access_subentry top entries ≡ false
  pub groups : list_any (λ entry. not (is_within top entry) && has_group top entry) entries ≡ false
