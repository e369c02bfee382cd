-- Taking out an entry.
use Rattle.std.proofs.Common.{◌≡◌, Bool, true, false, not, ◌&&◌, List, [], ◌∷◌, ◌++◌, refl, ap, sym, ◌∙◌, filter, reverse, if◌then◌else◌}
use Rattle.std.specs.Prelude.{unwrap_or, flat_map}
use Rattle.std.proofs.lemmas.Bool.{false_from_ne_true, not-false}
use Rattle.std.proofs.lemmas.List.Elements.{filter-append, filter_agree}
use Rattle.dir_tree.proofs.base_laws_proofs.Theorems.{all_true, filter-filter_kept, filter-filter}
use Rattle.dir_tree.specs.dn_names.name.Names.{RdnSequence}
use Rattle.dir_tree.specs.dn_names.NameOrder.{is_prefix_of}
use Rattle.dir_tree.specs.Entry.{EntryInformation}
use Rattle.dir_tree.specs.tree.Trees.{is_named, taken_out}
use Rattle.dir_tree.specs.Points.{is_subentry}
use Rattle.dir_tree.specs.Scope.{is_within}
use Rattle.dir_tree.proofs.TreeTheorems.{prefix_same}
use Rattle.admin_scope.specs.Areas.{line_of, is_access_point, to_specific, areas}
use Rattle.admin_scope.specs.InForce.{reaches, in_force_at, in_force}
use Rattle.admin_scope.proofs.subentries.ListLemmas.{flat_map-agree}

-- two filters come in either order
and_swap : (a b : Bool) → (a && b) ≡ (b && a)
and_swap true true = refl
and_swap true false = refl
and_swap false true = refl
and_swap false false = refl

filter-swap : {A : Type 0} (p q : A → Bool) (xs : List A) → filter p (filter q xs) ≡ filter q (filter p xs)
filter-swap p q xs =
    filter-filter p q xs ∙ filter_agree (λ x. q x && p x) (λ x. p x && q x) (λ x. and_swap (q x) (p x)) xs ∙ sym (filter-filter q p xs)

-- a filter of many lists
filter-flat_map : {A B : Type 0} (p : B → Bool) (f : A → List B) (xs : List A) → filter p (flat_map f xs) ≡ flat_map (λ x. filter p (f x)) xs
filter-flat_map p f [] = refl
filter-flat_map p f (x ∷ xs) = filter-append p (f x) (flat_map f xs) ∙ ap (λ rest. filter p (f x) ++ rest) (filter-flat_map p f xs)

-- no entry of the name stands above a name outside it
line_of-taken : (top name : RdnSequence) (entries : List EntryInformation) → is_prefix_of top name ≡ false → line_of name (taken_out top entries) ≡ line_of name entries
line_of-taken top name entries outside =
    filter-filter_kept (λ entry. is_prefix_of entry.name name) (λ entry. not (is_named top entry)) entries (all_true _ apart entries)
  where
    apart : (entry : EntryInformation) → not (is_named top entry) ≡ false → is_prefix_of entry.name name ≡ false
    apart entry e = false_from_ne_true (is_prefix_of entry.name name) (λ f. let clash = sym outside ∙ (prefix_same top entry.name name (not-false (is_named top entry) e) ∙ f) in absurd cc)

-- so the areas of an entry outside it stay
pub areas-taken : (top : RdnSequence) (entries : List EntryInformation) (entry : EntryInformation) → is_within top entry ≡ false → areas (taken_out top entries) entry ≡ areas entries entry
unfolding areas
areas-taken top entries entry outside =
    ap (λ line. unwrap_or (to_specific (filter is_access_point (reverse line))) []) (line_of-taken top entry.name entries outside)

-- and of the subentries in force for it those of the name go
pub in_force-taken : (top : RdnSequence) (entries : List EntryInformation) (entry : EntryInformation) → is_within top entry ≡ false → in_force (taken_out top entries) entry ≡ taken_out top (in_force entries entry)
unfolding in_force
in_force-taken top entries entry outside =
    ap (λ (found : List EntryInformation). if is_subentry entry then [] else found)
    (ap (flat_map (λ point. in_force_at entry point (taken_out top entries))) (areas-taken top entries entry outside)
    ∙ flat_map-agree (λ point. in_force_at entry point (taken_out top entries)) (λ point. taken_out top (in_force_at entry point entries))
    (λ point. filter-swap (λ subentry. reaches point subentry entry) (λ other. not (is_named top other)) entries) (areas entries entry)
    ∙ sym (filter-flat_map (λ other. not (is_named top other)) (λ point. in_force_at entry point entries) (areas entries entry)))
    ∙ either (is_subentry entry) (flat_map (λ point. in_force_at entry point entries) (areas entries entry))
  where
    either : (b : Bool) (found : List EntryInformation) → (if b then [] else taken_out top found) ≡ taken_out top (if b then [] else found)
    either true found = refl
    either false found = refl
