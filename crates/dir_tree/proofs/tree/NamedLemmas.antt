-- The entry that a name finds in a list of entries, and the names that are left where it is taken out.
use Rattle.std.proofs.Common.{◌≡◌, ◌≢◌, ◌⊎◌, Bool, true, false, ◌||◌, List, [], ◌∷◌, Some, None, find, if◌then◌else◌, refl, sym, ap, ◌∙◌, inl, inr}
use Rattle.std.specs.List.{AllByRecursion, list_any}
use Rattle.std.specs.Ordering.{is_eq, is_lt}
use Rattle.std.specs.declared.cmp.Ordering.TheVariants.{Less}
use Rattle.std.proofs.lemmas.Bool.{cases_Bool, cond-true, cond-false, false_from_ne_true, not_from_true, not-false, true≢false}
use Rattle.std.proofs.lemmas.Option.{same_Some}
use Rattle.dn_names.specs.name.Names.{RdnSequence}
use Rattle.dn_names.specs.NameOrder.{name_cmp, is_same}
use Rattle.dn_names.proofs.Theorems.{name_cmp_total}
use Rattle.dir_tree.specs.Entry.{EntryInformation}
use Rattle.dir_tree.specs.tree.Trees.{is_before, is_named, has_name, named_in, superior_name, lacks_superior, put_in, taken_out}
use Rattle.dir_tree.proofs.tree.NameLemmas.{Equal-from_same, same_itself}
use Rattle.dir_tree.proofs.tree.FrontLemmas.{same_over}
use Rattle.dir_tree.proofs.tree.OrderLemmas.{other_way}

-- what is found has the name, and is found by the name that it has
pub found_same : (name : RdnSequence) (target : EntryInformation) (entries : List EntryInformation) → named_in name entries ≡ Some target → is_same name target.name ≡ true
found_same name target [] found = absurd cc
found_same name target (first ∷ rest) found = elim (cases_Bool (is_named name first)) [
  | inl here ↦ (
      let is = same_Some first target (sym (cond-true (is_named name first) (Some first) (named_in name rest) here) ∙ found) in
      rw (← is) here)
  | inr other ↦ found_same name target rest (sym (cond-false (is_named name first) (Some first) (named_in name rest) other) ∙ found)
]

pub found_by_own_name : (name : RdnSequence) (target : EntryInformation) (entries : List EntryInformation) → named_in name entries ≡ Some target → named_in target.name entries ≡ Some target
found_by_own_name name target [] found = absurd cc
found_by_own_name name target (first ∷ rest) found = elim (cases_Bool (is_named name first)) [
  | inl here ↦ (
      let is = same_Some first target (sym (cond-true (is_named name first) (Some first) (named_in name rest) here) ∙ found) in
      cond-true (is_named target.name first) (Some first) (named_in target.name rest) (rw (← is) (same_itself first.name)) ∙ ap (λ entry. Some entry) is)
  | inr other ↦ (
      let later = sym (cond-false (is_named name first) (Some first) (named_in name rest) other) ∙ found in
      let apart : is_named target.name first ≡ false =
      false_from_ne_true (is_named target.name first) (λ same. true≢false (sym (same_over name target.name first.name (found_same name target rest later) same) ∙ other)) in
      cond-false (is_named target.name first) (Some first) (named_in target.name rest) apart ∙ found_by_own_name name target rest later)
]

-- a test that finds nothing holds of none
pub none_named : (test : EntryInformation → Bool) (entries : List EntryInformation) → find test entries ≡ None → list_any test entries ≡ false
none_named test [] none = refl
none_named test (first ∷ rest) none =
    (elim (test first) as (λ here. (if here then Some first else find test rest) ≡ None → (here || list_any test rest) ≡ false) [
      | true ↦ λ (none : Some first ≡ None). absurd cc
      | false ↦ λ none. none_named test rest none
    ]) none

-- a name that comes before another is not the same, either way round, and one of two entries in order alone has a name
pub not_same : (one other : RdnSequence) → name_cmp one other ≡ Less → is_same one other ≡ false
unfolding is_same
not_same one other less = ap is_eq less

pub not_same_back : (one other : RdnSequence) → name_cmp one other ≡ Less → is_same other one ≡ false
not_same_back one other less = other_way other one (ap is_lt less)

pub later-other : (name : RdnSequence) (first later : EntryInformation) → is_named name first ≡ true → name_cmp first.name later.name ≡ Less → is_named name later ≡ false
unfolding is_same
later-other name first later e h = ap is_eq (name_cmp_total.congr name first.name later.name (Equal-from_same name first.name e) ∙ h)

-- what is put in is there, and what is taken out is not
some_put : (before : Bool) (entry first : EntryInformation) (rest later : List EntryInformation) → (if before then first ∷ later else entry ∷ first ∷ rest) ≢ []
some_put true entry first rest later is = cc
some_put false entry first rest later is = cc

pub put_in-some : (entry : EntryInformation) (entries : List EntryInformation) → put_in entry entries ≢ []
put_in-some entry [] is = cc
put_in-some entry (first ∷ rest) is = some_put (is_before first.name entry.name) entry first rest (put_in entry rest) is

pub left_out : (name : RdnSequence) (entries : List EntryInformation) → AllByRecursion (λ entry. is_named name entry ≡ false) (taken_out name entries)
left_out name [] = tt
left_out name (x ∷ entries) = elim (cases_Bool (is_named name x)) [
  | inl e ↦ rw e (left_out name entries)
  | inr e ↦ rw e (e, left_out name entries)
]

-- a name whose superior an entry has does not lack it, and one that does not lack it has it, where there are entries
pub has_superior : (name : RdnSequence) (entries : List EntryInformation) → has_name (superior_name name) entries ≡ true → lacks_superior name entries ≡ false
has_superior name [] has = refl
has_superior name (first ∷ rest) has = not_from_true (has_name (superior_name name) (first ∷ rest)) has

pub none_or_under : (name : RdnSequence) (entries : List EntryInformation) → lacks_superior name entries ≡ false → (entries ≡ []) ⊎ (has_name (superior_name name) entries ≡ true)
none_or_under name [] e = inl refl
none_or_under name (first ∷ rest) e = inr (not-false (has_name (superior_name name) (first ∷ rest)) e)
