-- An entry in place of one that is the same as a point changes nothing in force for any entry.
use Rattle.std.proofs.Common.{◌≡◌, ◌⊎◌, inl, inr, Bool, true, false, not, ◌&&◌, ◌||◌, refl, ap, sym, ◌∙◌, length, Some, None}
use Rattle.std.proofs.lemmas.Bool.{cond-false, and_parts, or_cases, not-true}
use Rattle.dir_tree.specs.dn_names.NameOrder.{is_same}
use Rattle.dir_tree.specs.Entry.{EntryInformation}
use Rattle.dir_tree.specs.Points.{is_specific_point, is_inner_point, is_access_subentry}
use Rattle.dir_tree.specs.Scope.{is_within}
use Rattle.dir_tree.proofs.TreeTheorems.{same_itself}
use Rattle.acdf_filters.specs.admin_scope.Areas.{is_access_point}
use Rattle.aci_index.specs.Aside.{is_point_over, point_over, IsAside}
use Rattle.aci_index.proofs.laws.AsideLemmas.{aside-same}
use Rattle.aci_index.specs.Steps.{are_alike, are_ordinary, has_same_roles, is_same_point, is_own_change}
use Rattle.aci_index.proofs.inserting.SubtreeLemmas.{IsOrdinary}

alike : (a b : Bool) → are_alike a b ≡ true → a ≡ b
alike true b e = sym e
alike false b e = sym (not-true b e)

-- an entry that is no access control subentry is in force for none
never : (entry one : EntryInformation) → IsOrdinary one → IsAside entry (Some one) (Some one)
never entry one ordinary =
    aside-same entry one one (record {
      named = same_itself one.name;
      specific = refl;
      inner = refl;
      first = ordinary;
      second = ordinary;
    })

-- one that is no point is none over an entry
no_point_over : (entry one : EntryInformation) → is_access_point one ≡ false → point_over entry one ≡ None
no_point_over entry one e =
    cond-false (is_point_over entry one) (Some (length one.name, is_specific_point one)) None (second (is_within one.name entry) (is_access_point one) e)
  where
    second : (a b : Bool) → b ≡ false → (a && b) ≡ false
    second true b e = e
    second false b e = refl

-- two that are no points
aside_plain : (entry one other : EntryInformation) → IsOrdinary one → IsOrdinary other → is_access_point one ≡ false → is_access_point other ≡ false → IsAside entry (Some one) (Some other)
aside_plain entry one other first second e f = record {
  points = no_point_over entry one e ∙ sym (no_point_over entry other f);
  first = (never entry one first).first;
  second = (never entry other second).first;
}

-- what an entry is in place of another that changes no lists but its own
pub record IsOwnChange (one other : EntryInformation) : Type 0 where
  pub first : IsOrdinary one
  pub second : IsOrdinary other
  pub aside : (entry : EntryInformation) → IsAside entry (Some one) (Some other)

pub own-change : (one other : EntryInformation) → is_own_change one other ≡ true → IsOwnChange one other
unfolding is_own_change
own-change one other e =
    let parts = and_parts (are_ordinary one other) (is_same_point one other) e in
    let ordinary = and_parts (not (is_access_subentry one)) (not (is_access_subentry other)) parts.0 in
    let first = not-true (is_access_subentry one) ordinary.0 in
    let second = not-true (is_access_subentry other) ordinary.1 in
    let same = and_parts (has_same_roles one other) (not (is_access_point one) || is_same one.name other.name) parts.1 in
    let roles = and_parts (are_alike (is_specific_point one) (is_specific_point other)) (are_alike (is_inner_point one) (is_inner_point other)) same.0 in
    let specific = alike (is_specific_point one) (is_specific_point other) roles.0 in
    let inner = alike (is_inner_point one) (is_inner_point other) roles.1 in
    record {
      first = first;
      second = second;
      aside = λ entry. by entry first second specific inner (or_cases (not (is_access_point one)) (is_same one.name other.name) same.1);
    }
  where
    by : (entry : EntryInformation) → IsOrdinary one → IsOrdinary other → is_specific_point one ≡ is_specific_point other → is_inner_point one ≡ is_inner_point other
        → ((not (is_access_point one) ≡ true) ⊎ (is_same one.name other.name ≡ true)) → IsAside entry (Some one) (Some other)
    by entry first second specific inner (inl plain) =
        let none = not-true (is_access_point one) plain in
        let like : is_access_point other ≡ is_access_point one =
        ap (λ (b : Bool). b || is_inner_point other) (sym specific) ∙ ap (λ (b : Bool). is_specific_point one || b) (sym inner) in
        aside_plain entry one other first second none (like ∙ none)
    by entry first second specific inner (inr named) =
        aside-same entry one other (record { named = named; specific = specific; inner = inner; first = first; second = second })
