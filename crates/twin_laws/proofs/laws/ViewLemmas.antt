-- What a requester sees of a tree without a subtree of which it sees nothing: what it sees of the tree, but for that.
use Rattle.std.proofs.Common.{◌≡◌, inl, inr, Bool, true, false, not, ◌&&◌, List, ap, ◌∙◌}
use Rattle.std.specs.List.{list_any}
use Rattle.std.proofs.lemmas.Bool.{and_cases, and_left, and_right, not-true}
use Rattle.dir_tree.proofs.base_laws_proofs.Theorems.{all_map, map-agree, filter-map}
use std.Path.{fun_ext}
use Rattle.dir_tree.specs.dn_names.name.Names.{RdnSequence}
use Rattle.dir_tree.specs.Entry.{EntryInformation}
use Rattle.dir_tree.specs.Points.{is_subentry, is_access_subentry}
use Rattle.dir_tree.specs.Scope.{is_within}
use Rattle.acdf_filters.specs.admin_scope.Areas.{without_subtree, has_within}
use Rattle.acdf_filters.specs.aci_item.declared.permission.Permission.{Permission}
use Rattle.acdf_filters.specs.declared.asking.Requester.{Requester}
use Rattle.acdf_filters.specs.Asking.{Protected}
use Rattle.acdf_filters.specs.Granted.{granted}
use Rattle.acdf_filters.specs.Unseen.{IsApart, has_group}
use Rattle.acdf_filters.proofs.Theorems.{granted-without}
use Rattle.read_model.specs.Views.{Row, view_of}
use Rattle.twin_laws.specs.Groups.{lists_group}
use Rattle.twin_laws.specs.Twins.{rows_outside, IsUnseen}
use Rattle.twin_laws.proofs.laws.ListLemmas.{list_any-from, all_left}
use Rattle.twin_laws.proofs.laws.GroupLemmas.{lists_group-none}

-- no access control subentry, where there is no subentry
pub access_none : (top : RdnSequence) (entries : List EntryInformation) → has_within is_subentry top entries ≡ false
    → has_within is_access_subentry top entries ≡ false
unfolding is_access_subentry
access_none top entries e =
    list_any-from (λ entry. is_within top entry && is_subentry entry)
    (λ entry. is_within top entry && is_access_subentry entry) fewer entries e
  where
    fewer : (entry : EntryInformation) → (is_within top entry && is_subentry entry) ≡ false
        → (is_within top entry && is_access_subentry entry) ≡ false
    fewer entry e = elim (and_cases (is_within top entry) (is_subentry entry) e) [
      | inl f ↦ and_left (is_within top entry) (is_access_subentry entry) f
      | inr f ↦ and_right (is_within top entry) (is_access_subentry entry) (and_left (is_subentry entry) _ f)
    ]

-- no tuple of an entry outside names a group of the subtree, where no item does
groups_none : (top : RdnSequence) (entries : List EntryInformation)
    → list_any (λ entry. not (is_within top entry) && lists_group top entry) entries ≡ false
    → list_any (λ entry. not (is_within top entry) && has_group top entry) entries ≡ false
groups_none top entries e =
    list_any-from (λ entry. not (is_within top entry) && lists_group top entry)
    (λ entry. not (is_within top entry) && has_group top entry) fewer entries e
  where
    fewer : (entry : EntryInformation) → (not (is_within top entry) && lists_group top entry) ≡ false
        → (not (is_within top entry) && has_group top entry) ≡ false
    fewer entry e = elim (and_cases (not (is_within top entry)) (lists_group top entry) e) [
      | inl f ↦ and_left (not (is_within top entry)) (has_group top entry) f
      | inr f ↦ and_right (not (is_within top entry)) (has_group top entry) (lists_group-none top entry f)
    ]

-- so an unseen subtree counts for no decision outside it
IsApart-from_IsUnseen : (who : Requester) (top : RdnSequence) (entries : List EntryInformation) → IsUnseen who top entries
    → IsApart top entries
IsApart-from_IsUnseen who top entries h = record {
  subentries = access_none top entries h.subentries;
  groups = groups_none top entries h.groups;
}

-- an entry with what is allowed on it
abbrev row_of : List EntryInformation → Requester → EntryInformation → Row
row_of entries who entry = record { entry = entry; allows = granted entries who entry }

-- it is the same without the subtree
row_of-without : (who : Requester) (top : RdnSequence) (entries : List EntryInformation) (entry : EntryInformation)
    → IsApart top entries → is_within top entry ≡ false → has_group top entry ≡ false
    → row_of (without_subtree top entries) who entry ≡ row_of entries who entry
row_of-without who top entries entry apart outside own =
    ap (λ (allows : Protected → Permission → Bool). let row : Row = record { entry = entry; allows = allows } in row)
    (fun_ext (λ item. fun_ext (λ permission. granted-without top entries entry apart outside own who item permission)))

pub view_of-without : (who : Requester) (top : RdnSequence) (entries : List EntryInformation) → IsUnseen who top entries
    → view_of (without_subtree top entries) who ≡ rows_outside top (view_of entries who)
view_of-without who top entries h =
    let apart = IsApart-from_IsUnseen who top entries h in
    map-agree (row_of (without_subtree top entries) who) (row_of entries who) (without_subtree top entries)
    (all_map (λ entry. (not (is_within top entry) ≡ true) × (has_group top entry ≡ false))
    (λ entry. row_of (without_subtree top entries) who entry ≡ row_of entries who entry)
    (λ entry left. row_of-without who top entries entry apart (not-true (is_within top entry) left.0) left.1)
    (without_subtree top entries) (all_left (λ entry. not (is_within top entry)) (has_group top) entries apart.groups))
    ∙ filter-map (row_of entries who) (λ row. not (is_within top row.entry)) entries
