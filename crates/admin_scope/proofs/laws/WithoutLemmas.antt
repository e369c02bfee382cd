-- Leaving out a subtree.
use Rattle.std.proofs.Common.{◌≡◌, Bool, true, false, not, ◌&&◌, List, [], ap, sym, ◌∙◌, filter, reverse, if◌then◌else◌}
use Rattle.std.specs.Prelude.{unwrap_or, flat_map}
use Rattle.std.proofs.lemmas.Bool.{false_from_ne_true, not-false}
use Rattle.dir_tree.proofs.base_laws_proofs.Theorems.{all_true, all_map, none_passes, filter-filter_kept, and_middle}
use Rattle.dir_tree.specs.dn_names.name.Names.{RdnSequence}
use Rattle.dir_tree.specs.dn_names.NameOrder.{is_prefix_of}
use Rattle.dir_tree.specs.Entry.{EntryInformation}
use Rattle.dir_tree.specs.Points.{is_subentry, is_access_subentry}
use Rattle.dir_tree.specs.Scope.{is_within, is_child}
use Rattle.admin_scope.specs.Areas.{line_of, is_access_point, to_specific, areas, without_subtree, has_within}
use Rattle.admin_scope.specs.InForce.{subtree_holds, reaches, in_force_at, in_force}
use Rattle.admin_scope.proofs.subentries.ListLemmas.{flat_map-agree}
use Rattle.admin_scope.proofs.laws.PrefixLemmas.{prefix_chain}

-- no entry of a subtree stands above a name outside it
line_of-without : (top name : RdnSequence) (entries : List EntryInformation) → is_prefix_of top name ≡ false → line_of name (without_subtree top entries) ≡ line_of name entries
line_of-without top name entries outside =
    filter-filter_kept (λ entry. is_prefix_of entry.name name) (λ entry. not (is_within top entry)) entries (all_true _ apart entries)
  where
    apart : (entry : EntryInformation) → not (is_within top entry) ≡ false → is_prefix_of entry.name name ≡ false
    apart entry e = false_from_ne_true (is_prefix_of entry.name name) (λ f. let clash = sym outside ∙ prefix_chain top entry.name name (not-false (is_within top entry) e) f in absurd cc)

-- so the areas of an entry outside it stay
pub areas-without : (top : RdnSequence) (entries : List EntryInformation) (entry : EntryInformation) → is_within top entry ≡ false → areas (without_subtree top entries) entry ≡ areas entries entry
unfolding areas
areas-without top entries entry outside =
    ap (λ line. unwrap_or (to_specific (filter is_access_point (reverse line))) []) (line_of-without top entry.name entries outside)

-- what a point has in force stays where the subtree has no access control subentry
in_force_at-without : (top : RdnSequence) (entries : List EntryInformation) (entry point : EntryInformation) → has_within is_access_subentry top entries ≡ false → in_force_at entry point (without_subtree top entries) ≡ in_force_at entry point entries
in_force_at-without top entries entry point none =
    filter-filter_kept (λ subentry. reaches point subentry entry) (λ other. not (is_within top other)) entries
    (all_map _ _ apart entries (none_passes (λ other. is_within top other && is_access_subentry other) entries none))
  where
    second : (a b : Bool) → a ≡ true → (a && b) ≡ false → b ≡ false
    second true b e f = f
    second false b e f = absurd cc

    apart : (other : EntryInformation) → (is_within top other && is_access_subentry other) ≡ false → not (is_within top other) ≡ false → reaches point other entry ≡ false
    apart other e f =
        and_middle (is_child point.name other) (is_access_subentry other) (subtree_holds point other entry)
        (second (is_within top other) (is_access_subentry other) (not-false (is_within top other) f) e)

-- and so do the subentries in force for an entry outside it
pub in_force-without : (top : RdnSequence) (entries : List EntryInformation) (entry : EntryInformation) → is_within top entry ≡ false → has_within is_access_subentry top entries ≡ false → in_force (without_subtree top entries) entry ≡ in_force entries entry
unfolding in_force
in_force-without top entries entry outside none =
    ap (λ (found : List EntryInformation). if is_subentry entry then [] else found)
    (flat_map-agree (λ point. in_force_at entry point (without_subtree top entries)) (λ point. in_force_at entry point entries)
    (λ point. in_force_at-without top entries entry point none) (areas (without_subtree top entries) entry)
    ∙ ap (flat_map (λ point. in_force_at entry point entries)) (areas-without top entries entry outside))
