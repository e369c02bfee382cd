-- The entries of a tree stay a tree's where one is put in, taken out or changed.
use Rattle.std.proofs.Common.{◌≡◌, ◌≢◌, ◌⊎◌, inl, inr, ℕ, ◌-◌, ◌≤◌, zero, suc, true, false, ◌||◌, List, [], ◌∷◌, length, refl, sym, ◌∙◌, arith}
use Rattle.std.specs.List.{AllByRecursion}
use Rattle.std.proofs.lemmas.Bool.{cases_Bool, true_from_ne_false, or_parts, or_left, or_right, or_cases}
use Rattle.std.proofs.lemmas.List.{length-take-le}
use Rattle.dn_names.specs.name.Names.{RdnSequence}
use Rattle.dn_names.specs.NameOrder.{is_same}
use Rattle.dir_tree.specs.Entry.{EntryInformation}
use Rattle.dir_tree.specs.tree.Trees.{is_before, is_below, is_named, has_name, has_below, superior_name, put_in, IsInOrder}
use Rattle.dir_tree.specs.slots.Slots.{has_before, HasSuperiors, IsOrderedTree}
use Rattle.dir_tree.proofs.tree.NameLemmas.{same_itself, same_back, below_superior}
use Rattle.dir_tree.proofs.tree.OrderLemmas.{all_put, all_left, comes_before}
use Rattle.dir_tree.proofs.tree.RootLemmas.{any_put, has_name_like, has_before-named, has_below-named, named_filled, sorted_put, sorted_left, absent_from_sorted, rooted_put, rooted_rest, rooted_same}

-- where the first has none below, there is no other
module _ (entry : EntryInformation) (entries : List EntryInformation) (filled : AllByRecursion (λ other. other.name ≢ []) entries) (absent : has_name entry.name entries ≡ false) (rooted : HasSuperiors (put_in entry entries)) (none : has_below entry.name entries ≡ false) (first : has_before entry.name (put_in entry entries) ≡ false) where
  before_is : (name : RdnSequence) → has_before name (put_in entry entries) ≡ (is_before entry.name name || has_before name entries)
  before_is name = any_put (λ other. is_before other.name name) entry entries

  comes_after : (name : RdnSequence) → has_name name entries ≡ true → has_before name (put_in entry entries) ≡ true
  comes_after name here = before_is name ∙ or_left (is_before entry.name name) (has_before name entries) (true_from_ne_false (is_before entry.name name) (λ e.
      elim (cases_Bool (is_same name entry.name)) [
        | inl f ↦ (let same = sym (has_name_like name entry.name entries f) ∙ here in absurd cc)
        | inr f ↦ (
            let before = has_before-named name entry.name entries here (comes_before name entry.name e f) in
            let after = before_is entry.name ∙ or_right (is_before entry.name entry.name) (has_before entry.name entries) before in
            absurd cc)
      ]))

  descends : (most : ℕ) (name : RdnSequence) → length name ≤ most → has_name name entries ≡ true → ⊥
  descends zero name h here = named_filled name entries filled here (nothing name h)
    where
      nothing : (other : RdnSequence) → length other ≤ 0 → other ≡ []
      nothing [] k = refl
      nothing (r ∷ rs) k = absurd (omega arith)
  descends (suc most) name h here =
      let there = any_put (is_named name) entry entries ∙ or_right (is_named name entry) (has_name name entries) here in
      let full = named_filled name entries filled here in
      elim (or_cases (is_named (superior_name name) entry) (has_name (superior_name name) entries) (sym (any_put (is_named (superior_name name)) entry entries) ∙ rooted name there (comes_after name here))) [
        | inl e ↦ (
            let below = below_superior entry.name name full (same_back (superior_name name) entry.name e) in
            let some = has_below-named entry.name name entries here below in
            absurd cc)
        | inr e ↦ descends most (superior_name name) (shorter name h) e
      ]
    where
      shorter : (other : RdnSequence) → length other ≤ suc most → length (superior_name other) ≤ most
      shorter other k = rw (length-take-le (length other - 1) other (omega arith)) (omega arith)

  alone : (others : List EntryInformation) → entries ≡ others → entries ≡ []
  alone [] e = e
  alone (x ∷ others) e =
      let here : has_name x.name (x ∷ others) ≡ true = or_left (is_named x.name x) (has_name x.name others) (same_itself x.name) in
      absurd (descends (length x.name) x.name (omega arith) (rw e here))

  pub no_other : entries ≡ []
  no_other = alone entries refl

-- a entry put in
pub ordered_put : (entry : EntryInformation) (entries : List EntryInformation) → entry.name ≢ [] → IsOrderedTree entries → has_name entry.name entries ≡ false → (entries ≡ []) ⊎ (has_name (superior_name entry.name) entries ≡ true) → IsOrderedTree (put_in entry entries)
ordered_put entry entries filled ordered absent under = record {
  sorted = sorted_put entry entries ordered.sorted absent;
  named = all_put (λ other. other.name ≢ []) entry entries filled ordered.named;
  rooted = rooted_put entry entries filled ordered.rooted under;
}

-- of one of a tree's entries, and of the others
module _ (old : EntryInformation) (others : List EntryInformation) (ordered : IsOrderedTree (put_in old others)) where
  named_others : AllByRecursion (λ other. other.name ≢ []) others
  named_others = all_left (λ other. other.name ≢ []) old others ordered.named

  sorted_others : IsInOrder others
  sorted_others = sorted_left old others ordered.sorted

  pub absent_others : has_name old.name others ≡ false
  absent_others = absent_from_sorted old others ordered.sorted

  none_others : has_below old.name (put_in old others) ≡ false → has_below old.name others ≡ false
  none_others none =
      let parts = sym (any_put (λ other. is_below old.name other.name) old others) ∙ none in
      (or_parts (is_below old.name old.name) (has_below old.name others) parts).1

  -- the entry taken out
  pub ordered_without : has_below old.name (put_in old others) ≡ false → IsOrderedTree others
  ordered_without none = record {
    sorted = sorted_others;
    named = named_others;
    rooted = rooted_rest old others named_others ordered.rooted (none_others none);
  }

  -- another in its place under the same name
  pub ordered_same : (new : EntryInformation) → is_same new.name old.name ≡ true → new.name ≢ [] → IsOrderedTree (put_in new others)
  ordered_same new e filled = record {
    sorted = sorted_put new others sorted_others (has_name_like new.name old.name others e ∙ absent_others);
    named = all_put (λ other. other.name ≢ []) new others filled named_others;
    rooted = rooted_same old new others e ordered.rooted;
  }

  -- where nothing comes before it, it is alone
  pub others_none : has_below old.name (put_in old others) ≡ false → has_before old.name (put_in old others) ≡ false → others ≡ []
  others_none none first = no_other old others named_others absent_others ordered.rooted (none_others none) first

  -- another in its place under a free name whose superior is among the others
  pub ordered_moved : (new : EntryInformation) → has_below old.name (put_in old others) ≡ false → new.name ≢ [] → has_name new.name others ≡ false → (others ≡ []) ⊎ (has_name (superior_name new.name) others ≡ true) → IsOrderedTree (put_in new others)
  ordered_moved new none filled absent under = ordered_put new others filled (ordered_without none) absent under
