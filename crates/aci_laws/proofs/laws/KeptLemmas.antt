-- A sorted set keeps of equal texts the first, and loses no text.
use Rattle.std.proofs.Common.{◌≡◌, ℕ, List, [], ◌∷◌, refl, sym, ◌∙◌}
use Rattle.std.specs.Prelude.{find}
use Rattle.std.specs.Cmp.Lexicographic.{slice_cmp}
use Rattle.std.specs.List.Sorted.{IsStrictlySortedBy}
use Rattle.std.specs.Ordering.{nat_cmp, is_eq}
use Rattle.std.specs.Str.{bytes_eq}
use Rattle.std.proofs.lemmas.Cmp.{nat_list_cmp_total}
use Rattle.std.proofs.lemmas.Map.Text.{is_eq-slice_cmp}
use Rattle.aci_item.specs.Sets.{by_text, put_member}
use Rattle.aci_laws.specs.MembersSorted.{put_members, sorted}
use Rattle.aci_laws.proofs.laws.SetLemmas.{put-in_order, find-put_all, find-alike}

module _ {A : Type 0} (text : A → List ℕ) where
  put_members-ordered : (seen values : List A) → IsStrictlySortedBy (by_text text) seen → IsStrictlySortedBy (by_text text) (put_members text seen values)
  put_members-ordered seen [] sorted = sorted
  put_members-ordered seen (value ∷ values) sorted =
      put_members-ordered (put_member text value seen) values
      (put-in_order text (slice_cmp nat_cmp) nat_list_cmp_total (put_member text) (λ v. refl) (λ v first rest. refl) value seen sorted)

  pub sorted-ordered : (values : List A) → IsStrictlySortedBy (by_text text) (sorted text values)
  unfolding IsStrictlySortedBy
  sorted-ordered values = put_members-ordered [] values tt

  pub find-sorted : (values : List A) (sought : List ℕ)
      → find (λ value. bytes_eq (text value) sought) (sorted text values) ≡ find (λ value. bytes_eq (text value) sought) values
  unfolding IsStrictlySortedBy
  find-sorted values sought =
      let same : (value : A) → bytes_eq (text value) sought ≡ is_eq (slice_cmp nat_cmp (text value) sought) =
      λ value. sym (is_eq-slice_cmp (text value) sought) in
      find-alike (λ value. bytes_eq (text value) sought) (λ value. is_eq (slice_cmp nat_cmp (text value) sought)) same (sorted text values)
      ∙ find-put_all text (slice_cmp nat_cmp) nat_list_cmp_total (put_member text) (λ v. refl) (λ v first rest. refl)
      (put_members text) (λ seen. refl) (λ seen v rest. refl) sought [] values tt
      ∙ sym (find-alike (λ value. bytes_eq (text value) sought) (λ value. is_eq (slice_cmp nat_cmp (text value) sought)) same values)
