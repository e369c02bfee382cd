-- What stands aside changes nothing in force.
use Rattle.std.proofs.Common.{◌≡◌, ℕ, Bool, true, false, List, [], refl, ap, sym, ◌∙◌, inl, inr, filter, length, Option, Some, None, if◌then◌else◌}
use Rattle.std.specs.Prelude.{IfSome}
use Rattle.std.specs.Option.{option_and_then}
use Rattle.std.proofs.lemmas.Bool.{cases_Bool, cond-true, cond-false, and_parts}
use Rattle.std.proofs.lemmas.List.Elements.{filter_agree}
use Rattle.dir_tree.specs.Entry.{EntryInformation}
use Rattle.dir_tree.specs.Points.{is_specific_point, is_subentry}
use Rattle.dir_tree.specs.Scope.{is_within}
use Rattle.acdf_filters.specs.admin_scope.Areas.{is_access_point, areas}
use Rattle.acdf_filters.specs.admin_scope.InForce.{reaches, in_force_at, in_force}
use Rattle.acdf_filters.proofs.admin_scope_proofs.Theorems.{same_fronts}
use Rattle.aci_index.specs.Aside.{put_some, is_point_over, point_over, IsNeverInForce, IsAside}
use Rattle.aci_index.proofs.laws.ListLemmas.{filter-put_some}
use Rattle.aci_index.proofs.laws.PlaceLemmas.{reaches-same}
use Rattle.aci_index.proofs.laws.AreaLemmas.{IsLike, AreLike, are_like_itself, like-put_in, like-areas, like-flat_map}

-- what the point says, where there is one and where there is none
point-there : (entry one : EntryInformation) → is_point_over entry one ≡ true
    → point_over entry one ≡ Some (length one.name, is_specific_point one)
point-there entry one e = cond-true (is_point_over entry one) (Some (length one.name, is_specific_point one)) None e

point-none : (entry one : EntryInformation) → is_point_over entry one ≡ false → point_over entry one ≡ None
point-none entry one e = cond-false (is_point_over entry one) (Some (length one.name, is_specific_point one)) None e

not_over : (entry one : EntryInformation) → point_over entry one ≡ None → is_point_over entry one ≡ false
not_over entry one e = elim (cases_Bool (is_point_over entry one)) [
  | inl f ↦ (let clash = sym e ∙ point-there entry one f in absurd cc)
  | inr f ↦ f
]

-- points that say the same are alike
like_points : (entry one other : EntryInformation) → is_point_over entry one ≡ true → is_point_over entry other ≡ true
    → point_over entry one ≡ point_over entry other → IsLike entry one other
like_points entry one other e f h =
    let same = sym (point-there entry one e) ∙ h ∙ point-there entry other f in
    let pair : (length one.name, is_specific_point one) ≡ (length other.name, is_specific_point other) = cc in
    let long : length one.name ≡ length other.name = ap (λ (said : ℕ × Bool). said.0) pair in
    let kind : is_specific_point one ≡ is_specific_point other = ap (λ (said : ℕ × Bool). said.1) pair in
    let over = (and_parts (is_within one.name entry) (is_access_point one) e).0 in
    let also = (and_parts (is_within other.name entry) (is_access_point other) f).0 in
    record { first = over; second = also; named = same_fronts one.name other.name entry.name over also long; specific = kind }

-- no point is left by the filter, where nothing is said
unseen : (entry : EntryInformation) (one : Option EntryInformation) → option_and_then (point_over entry) one ≡ None
    → IfSome one (λ point. is_point_over entry point ≡ false)
unseen entry None e = tt
unseen entry (Some one) e = not_over entry one e

like_unseen : (entry : EntryInformation) (one other : Option EntryInformation) (entries : List EntryInformation)
    → option_and_then (point_over entry) one ≡ None → option_and_then (point_over entry) other ≡ None
    → AreLike entry (filter (is_point_over entry) (put_some one entries)) (filter (is_point_over entry) (put_some other entries))
like_unseen entry one other entries e f =
    let here = filter-put_some (is_point_over entry) one entries (unseen entry one e) in
    let there = filter-put_some (is_point_over entry) other entries (unseen entry other f) in
    rw (here, there) (are_like_itself entry entries)

-- so the points over the entry are alike, whichever of the two is put in
like_put : (entry : EntryInformation) (one other : Option EntryInformation) (entries : List EntryInformation)
    → option_and_then (point_over entry) one ≡ option_and_then (point_over entry) other
    → AreLike entry (filter (is_point_over entry) (put_some one entries)) (filter (is_point_over entry) (put_some other entries))
like_put entry None other entries h = like_unseen entry None other entries refl (sym h)
like_put entry (Some one) None entries h = like_unseen entry (Some one) None entries h refl
like_put entry (Some one) (Some other) entries h = elim (cases_Bool (is_point_over entry one)) [
  | inl e ↦ elim (cases_Bool (is_point_over entry other)) [
    | inl f ↦ like-put_in entry one other entries (like_points entry one other e f h) e f
    | inr f ↦ (let clash = sym (point-there entry one e) ∙ h ∙ point-none entry other f in absurd cc)
  ]
  | inr e ↦ like_unseen entry (Some one) (Some other) entries (point-none entry one e) (sym h ∙ point-none entry one e)
]

-- neither is among those in force under a point
never : (entry point : EntryInformation) (one : Option EntryInformation) → is_within point.name entry ≡ true
    → IfSome one (IsNeverInForce entry) → IfSome one (λ subentry. reaches point subentry entry ≡ false)
never entry point None e h = tt
never entry point (Some one) e h = h point e

in_force_at-put : (entry : EntryInformation) (one other : Option EntryInformation) (entries : List EntryInformation)
    → IfSome one (IsNeverInForce entry) → IfSome other (IsNeverInForce entry)
    → (x y : EntryInformation) → IsLike entry x y
    → in_force_at entry x (put_some one entries) ≡ in_force_at entry y (put_some other entries)
in_force_at-put entry one other entries h k x y like =
    filter-put_some (λ subentry. reaches x subentry entry) one entries (never entry x one like.first h)
    ∙ filter_agree (λ subentry. reaches x subentry entry) (λ subentry. reaches y subentry entry)
    (λ subentry. reaches-same x y subentry entry like.named) entries
    ∙ sym (filter-put_some (λ subentry. reaches y subentry entry) other entries (never entry y other like.second k))

pub in_force-put_some : (entry : EntryInformation) (one other : Option EntryInformation) (entries : List EntryInformation)
    → IsAside entry one other → in_force (put_some one entries) entry ≡ in_force (put_some other entries) entry
unfolding in_force
in_force-put_some entry one other entries h =
    let before = put_some one entries in
    let after = put_some other entries in
    let points = like-areas entry before after (like_put entry one other entries h.points) in
    ap (λ (found : List EntryInformation). if is_subentry entry then [] else found)
    (like-flat_map entry (λ point. in_force_at entry point before) (λ point. in_force_at entry point after)
    (in_force_at-put entry one other entries h.first h.second) (areas before entry) (areas after entry) points)
