-- No part of being twins fails exactly where two trees are twins.
use Rattle.std.proofs.Common.{◌≡◌, if◌then◌else◌, Bool, true, false, not, ◌&&◌, ◌||◌, List, [], ◌∷◌, filter, find, Some, None, refl, ap, sym, ◌∙◌}
use Rattle.std.specs.List.{list_any}
use Rattle.std.proofs.lemmas.Bool.{or_parts, or_from}
use Rattle.dir_tree.specs.dn_names.name.Names.{RdnSequence}
use Rattle.dir_tree.specs.Entry.{EntryInformation}
use Rattle.dir_tree.specs.tree.Trees.{IsTree}
use Rattle.dir_tree.specs.Points.{is_subentry, is_point}
use Rattle.dir_tree.specs.Scope.{is_within}
use Rattle.op_read.specs.acdf_filters.admin_scope.Areas.{without_subtree, has_within}
use Rattle.op_read.specs.acdf_filters.declared.asking.Requester.{Requester}
use Rattle.op_read.specs.read_model.Views.{view_of}
use Rattle.op_read.specs.twin_laws.Groups.{lists_group}
use Rattle.op_read.specs.twin_laws.Twins.{is_below_suffix, shows_within, IsUnseen, AreTwins}
use Rattle.op_read.proofs.twin_laws_proofs.Theorems.{is_below_suffix-same}
use Rattle.hush_laws.specs.Equality.{are_all_equal}
use Rattle.hush_laws.specs.declared.part.Part.{Part}
use Rattle.hush_laws.specs.declared.part.Part.TheVariants.{Others, Governs, Shown, Groups}
use Rattle.hush_laws.specs.TwinParts.{governs, governs_within, lists_group_outside, fails_twins, failing_twins}
use Rattle.hush_laws.proofs.laws.EqualityLemmas.{are_all_equal-decide}

-- where nothing is found the first is not, and nothing is found behind it
pub not_found : {A : Type 0} (test : A → Bool) (x : A) (xs : List A) → find test (x ∷ xs) ≡ None → (test x ≡ false) × (find test xs ≡ None)
not_found {A} test x xs none = by (test x) refl none
  where
    by : (found : Bool) → test x ≡ found → (if found then Some x else find test xs) ≡ None → (test x ≡ false) × (find test xs ≡ None)
    by true is none = absurd cc
    by false is none = (is, none)

-- what is not found of two is found of none of them
both_of : (within one other : Bool) → (within && (one || other)) ≡ false → ((within && one) ≡ false) × ((within && other) ≡ false)
both_of false one other none = (refl, refl)
both_of true one other none = or_parts one other none

either_of : (within one other : Bool) → (within && one) ≡ false → (within && other) ≡ false → (within && (one || other)) ≡ false
either_of false one other first second = refl
either_of true one other first second = or_from one other first second

pub governs-none : (top : RdnSequence) (entries : List EntryInformation) → governs_within top entries ≡ false
    → (has_within is_subentry top entries ≡ false) × (has_within is_point top entries ≡ false)
governs-none top [] none = (refl, refl)
governs-none top (entry ∷ entries) none =
    let parts = or_parts (is_within top entry && governs entry) (governs_within top entries) none in
    let here = both_of (is_within top entry) (is_subentry entry) (is_point entry) parts.0 in
    let later = governs-none top entries parts.1 in (
      or_from (is_within top entry && is_subentry entry) (has_within is_subentry top entries) here.0 later.0,
      or_from (is_within top entry && is_point entry) (has_within is_point top entries) here.1 later.1,
    )

pub none-governs : (top : RdnSequence) (entries : List EntryInformation) → has_within is_subentry top entries ≡ false → has_within is_point top entries ≡ false
    → governs_within top entries ≡ false
none-governs top [] subentries points = refl
none-governs top (entry ∷ entries) subentries points =
    let ones = or_parts (is_within top entry && is_subentry entry) (has_within is_subentry top entries) subentries in
    let others = or_parts (is_within top entry && is_point entry) (has_within is_point top entries) points in
    or_from (is_within top entry && governs entry) (governs_within top entries)
    (either_of (is_within top entry) (is_subentry entry) (is_point entry) ones.0 others.0) (none-governs top entries ones.1 others.1)

-- what is asked of the entries outside is asked of the list of them
any-filter : {A : Type 0} (kept test : A → Bool) (xs : List A) → list_any (λ x. kept x && test x) xs ≡ list_any test (filter kept xs)
any-filter kept test [] = refl
any-filter {A} kept test (x ∷ xs) = by (kept x) (any-filter kept test xs)
  where
    by : (is : Bool) → list_any (λ x. kept x && test x) xs ≡ list_any test (filter kept xs)
        → ((is && test x) || list_any (λ x. kept x && test x) xs) ≡ list_any test (if is then x ∷ filter kept xs else filter kept xs)
    by true later = ap (λ rest. test x || rest) later
    by false later = later

pub lists_group_outside-same : (top : RdnSequence) (one other : List EntryInformation) → without_subtree top one ≡ without_subtree top other
    → lists_group_outside top one ≡ lists_group_outside top other
lists_group_outside-same top one other same =
    any-filter (λ entry. not (is_within top entry)) (lists_group top) one
    ∙ ap (list_any (lists_group top)) same
    ∙ sym (any-filter (λ entry. not (is_within top entry)) (lists_group top) other)

false-not : (b : Bool) → not b ≡ false → b ≡ true
false-not true h = refl
false-not false h = absurd cc

module _ (top : RdnSequence) (before now : List EntryInformation) (who : Requester) where
  unseen : (entries : List EntryInformation) → is_below_suffix top entries ≡ true → governs_within top entries ≡ false
      → shows_within top (view_of entries who) ≡ false → lists_group_outside top entries ≡ false → IsUnseen who top entries
  unseen entries below none hidden apart =
      let ordinary = governs-none top entries none in
      record { below = below; subentries = ordinary.0; points = ordinary.1; shown = hidden; groups = apart }

  -- none fails of trees that are no twins
  pub twins-from_none : IsTree now → is_below_suffix top before ≡ true → failing_twins top before now who ≡ None → AreTwins who now before top
  twins-from_none tree below none =
      let test : Part → Bool = fails_twins top before now who in
      let others = not_found test Others (Governs ∷ Shown ∷ Groups ∷ []) none in
      let governing = not_found test Governs (Shown ∷ Groups ∷ []) others.1 in
      let shown = not_found test Shown (Groups ∷ []) governing.1 in
      let groups = not_found test Groups [] shown.1 in
      let same : without_subtree top before ≡ without_subtree top now =
      (are_all_equal-decide (without_subtree top before) (without_subtree top now)).0
      (false-not (are_all_equal (without_subtree top before) (without_subtree top now)) others.0) in
      let governs = or_parts (governs_within top before) (governs_within top now) governing.0 in
      let shows = or_parts (shows_within top (view_of before who)) (shows_within top (view_of now who)) shown.0 in
      let lists = or_parts (lists_group_outside top before) (lists_group_outside top now) groups.0 in
      record {
        same = sym same;
        first = unseen now (is_below_suffix-same before now top tree same below) governs.1 shows.1 lists.1;
        second = unseen before below governs.0 shows.0 lists.0;
      }

  -- and none fails of twins
  pub none-from_twins : AreTwins who now before top → failing_twins top before now who ≡ None
  none-from_twins twins =
      let same : are_all_equal (without_subtree top before) (without_subtree top now) ≡ true =
      (are_all_equal-decide (without_subtree top before) (without_subtree top now)).1 (sym twins.same) in
      let governs : (governs_within top before || governs_within top now) ≡ false =
      or_from (governs_within top before) (governs_within top now)
      (none-governs top before twins.second.subentries twins.second.points) (none-governs top now twins.first.subentries twins.first.points) in
      let shows : (shows_within top (view_of before who) || shows_within top (view_of now who)) ≡ false =
      or_from (shows_within top (view_of before who)) (shows_within top (view_of now who)) twins.second.shown twins.first.shown in
      let lists : (lists_group_outside top before || lists_group_outside top now) ≡ false =
      or_from (lists_group_outside top before) (lists_group_outside top now) twins.second.groups twins.first.groups in
      rw (same, governs, shows, lists) refl
