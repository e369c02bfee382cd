-- Names that are the same: what is below them, and what is in force under them.
use Rattle.std.proofs.Common.{◌≡◌, ℕ, ◌+◌, Bool, true, false, ◌&&◌, ◌++◌, map, length, drop, refl, sym, ap, ◌∙◌, Option, Some, None}
use Rattle.std.specs.Option.{option_map_or}
use Rattle.std.proofs.lemmas.List.{map-append}
use Rattle.dir_tree.specs.dn_names.name.Names.{RdnSequence}
use Rattle.dir_tree.specs.dn_names.NameOrder.{is_same, is_prefix_of, type_and_key, types_and_keys}
use Rattle.dir_tree.proofs.dn_names_proofs.Theorems.{is_same-types_and_keys}
use Rattle.dir_tree.specs.Entry.{EntryInformation}
use Rattle.dir_tree.specs.Points.{is_access_subentry}
use Rattle.dir_tree.specs.Scope.{is_child}
use Rattle.dir_tree.proofs.TreeTheorems.{begins_both, child_same, length-same}
use Rattle.acdf_filters.specs.subtree_spec.Subtrees.{Subtree}
use Rattle.acdf_filters.specs.subtree_spec.membership.Membership.{holds_below, holds_rest}
use Rattle.acdf_filters.specs.admin_scope.Refinements.{holds, meets_filter}
use Rattle.acdf_filters.specs.admin_scope.InForce.{subtree_of_entry, subtree_holds, reaches}

-- a subtree holds below a name what it holds below what is the same
holds_below-same : (subtree : Subtree) (x y name : RdnSequence) → is_same x y ≡ true
    → holds_below subtree x name ≡ holds_below subtree y name
unfolding holds_below
holds_below-same subtree x y name e =
    let same = (is_same-types_and_keys x y).0 e in
    let joined : types_and_keys (x ++ subtree.base) ≡ types_and_keys (y ++ subtree.base) =
    map-append (map type_and_key) x subtree.base
    ∙ ap (λ t. t ++ types_and_keys subtree.base) same
    ∙ sym (map-append (map type_and_key) y subtree.base) in
    ap (λ (b : Bool). b && holds_rest subtree (drop (length x + length subtree.base) name))
    (begins_both (x ++ subtree.base) (y ++ subtree.base) name joined)
    ∙ ap (λ (n : ℕ). is_prefix_of (y ++ subtree.base) name && holds_rest subtree (drop (n + length subtree.base) name))
    (length-same x y e)

holds-same : (subtree : Subtree) (x y : RdnSequence) (entry : EntryInformation) → is_same x y ≡ true
    → holds subtree x entry ≡ holds subtree y entry
unfolding holds
holds-same subtree x y entry e =
    ap (λ (b : Bool). b && meets_filter subtree.filter entry) (holds_below-same subtree x y entry.name e)

subtree_holds-same : (x y subentry entry : EntryInformation) → is_same x.name y.name ≡ true
    → subtree_holds x subentry entry ≡ subtree_holds y subentry entry
unfolding subtree_holds
subtree_holds-same x y subentry entry e = by (subtree_of_entry subentry)
  where
    by : (o : Option Subtree) → option_map_or (λ subtree. holds subtree x.name entry) o false
        ≡ option_map_or (λ subtree. holds subtree y.name entry) o false
    by None = refl
    by (Some subtree) = holds-same subtree x.name y.name entry e

-- the same is in force under points of the same name
pub reaches-same : (x y subentry entry : EntryInformation) → is_same x.name y.name ≡ true
    → reaches x subentry entry ≡ reaches y subentry entry
reaches-same x y subentry entry e =
    ap (λ (b : Bool). b && (is_access_subentry subentry && subtree_holds x subentry entry))
    (child_same x.name y.name subentry e)
    ∙ ap (λ (b : Bool). is_child y.name subentry && (is_access_subentry subentry && b))
    (subtree_holds-same x y subentry entry e)
