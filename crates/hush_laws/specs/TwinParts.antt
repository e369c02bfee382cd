-- Whether two trees are twins for a requester, by tests: the parts of it in their order, and which of them fails first.
use Rattle.std.specs.Prelude.{◌≡◌, Bool, false, not, ◌||◌, List, [], ◌∷◌, find, Option}
use Rattle.dir_tree.specs.dn_names.name.Names.{RdnSequence}
use Rattle.dir_tree.specs.Entry.{EntryInformation}
use Rattle.dir_tree.specs.Points.{is_subentry, is_point}
use Rattle.op_read.specs.acdf_filters.admin_scope.Areas.{without_subtree, has_within}
use Rattle.op_read.specs.acdf_filters.declared.asking.Requester.{Requester}
use Rattle.op_read.specs.read_model.Views.{view_of}
use Rattle.op_read.specs.twin_laws.Groups.{lists_group}
use Rattle.op_read.specs.twin_laws.Twins.{shows_within, has_outside}
use Rattle.hush_laws.specs.Equality.{are_all_equal}
use Rattle.hush_laws.specs.declared.part.Part.{Part}
use Rattle.hush_laws.specs.declared.part.Part.TheVariants.{Suffix, Others, Governs, Shown, Groups, Change, Bind, TurnedAway}

-- the entry is a subentry, or has an administrative role
abbrev pub governs : EntryInformation → Bool
governs entry = is_subentry entry || is_point entry

-- an entry at or below the name is so
abbrev pub governs_within : RdnSequence → List EntryInformation → Bool
governs_within top entries = has_within governs top entries

-- an access control item of an entry that is neither at the name nor below it names a group that is
abbrev pub lists_group_outside : RdnSequence → List EntryInformation → Bool
lists_group_outside top entries = has_outside (lists_group top) top entries

-- whether a part of being twins fails: the entries that are neither at the name nor below it are the same; of those that are
-- none governs and none is shown to the requester, in either tree; and in neither does an item outside name a group there
abbrev pub fails_twins : RdnSequence → List EntryInformation → List EntryInformation → Requester → Part → Bool
fails_twins top before now who Suffix = false
fails_twins top before now who Others = not (are_all_equal (without_subtree top before) (without_subtree top now))
fails_twins top before now who Governs = governs_within top before || governs_within top now
fails_twins top before now who Shown = shows_within top (view_of before who) || shows_within top (view_of now who)
fails_twins top before now who Groups = lists_group_outside top before || lists_group_outside top now
fails_twins top before now who Change = false
fails_twins top before now who Bind = false
fails_twins top before now who TurnedAway = false

-- the parts of being twins, in their order
abbrev pub twin_parts : List Part
twin_parts = Others ∷ Governs ∷ Shown ∷ Groups ∷ []

-- the first of them that fails
abbrev pub failing_twins : RdnSequence → List EntryInformation → List EntryInformation → Requester → Option Part
failing_twins top before now who = find (fails_twins top before now who) twin_parts

-- what of the tree before counts whatever the tree is now and whoever asks: whether an entry at or below the name governs,
-- and whether an item outside names a group there
pub record IsBeginning (top : RdnSequence) (before : List EntryInformation) (governing grouping : Bool) : Type 0 where
  pub governs : governing ≡ governs_within top before
  pub groups : grouping ≡ lists_group_outside top before
