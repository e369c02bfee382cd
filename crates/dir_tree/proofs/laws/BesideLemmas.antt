-- The entries beside the one of a number: how many there are, what a test finds among them, and which has a name.
use Rattle.std.proofs.Common.{◌≡◌, ◌≢◌, ℕ, suc, ◌+◌, ◌==◌, Bool, true, false, ◌||◌, if◌then◌else◌, List, [], ◌∷◌, ◌⊎◌, length, map, filter, Some, None, refl, sym, ap, subst, ◌∙◌, inl, inr, arith}
use Rattle.std.specs.List.{AllByRecursion, list_any}
use Rattle.std.specs.Option.{option_map_or}
use Rattle.std.specs.declared.cmp.Ordering.TheVariants.{Less}
use Rattle.std.proofs.lemmas.Bool.{cases_Bool, eqb-true}
use Rattle.std.proofs.lemmas.List.{length-map}
use Rattle.std.proofs.lemmas.Option.{same_Some}
use Rattle.dn_names.specs.name.Names.{RdnSequence}
use Rattle.dn_names.specs.NameOrder.{name_cmp}
use Rattle.dir_tree.specs.Entry.{EntryInformation}
use Rattle.dir_tree.specs.Points.{is_access_subentry, access_subentries}
use Rattle.dir_tree.specs.tree.Trees.{is_named, named_in}
use Rattle.dir_tree.specs.tree.Numbered.{Numbered, AreDistinct, ids_of, entries_of, entry_of, subentry_rows, without}
use Rattle.dir_tree.specs.declared.number.EntryNo.{EntryNo}
use Rattle.dir_tree.proofs.tree.NumberedLemmas.{keep_all}
use Rattle.dir_tree.proofs.tree.NamedLemmas.{later-other}
use Rattle.dir_tree.proofs.walk.WalkLemmas.{filter_true}

-- the number of the first takes out none of the rest
pub rest_kept : (id : ℕ) (row : Numbered) (rows : List Numbered) → AreDistinct (row ∷ rows) → (row.id == id) ≡ true → without id rows ≡ rows
rest_kept id row rows distinct here =
    keep_all id rows (subst (λ (number : ℕ). AllByRecursion (λ later. later.id ≢ number) rows) (eqb-true row.id id here) distinct.0)

-- how many one is, that may pass a test
abbrev pub one_if : Bool → ℕ
one_if passes = if passes then 1 else 0

-- one that passes is among them, or is the one whose place is taken
pub count_beside :
    (test : EntryInformation → Bool) (id : ℕ) (rows : List Numbered) → AreDistinct rows
    → length (filter test (entries_of rows))
    ≡ length (filter test (entries_of (without id rows))) + option_map_or (λ old. one_if (test old)) (entry_of id rows) 0
count_beside test id [] distinct = refl
count_beside test id (row ∷ rows) distinct = by (cases_Bool (row.id == id)) (cases_Bool (test row.entry)) (count_beside test id rows distinct.1)
  where
    by :
        ((row.id == id) ≡ true) ⊎ ((row.id == id) ≡ false) → (test row.entry ≡ true) ⊎ (test row.entry ≡ false)
        → length (filter test (entries_of rows))
        ≡ length (filter test (entries_of (without id rows))) + option_map_or (λ old. one_if (test old)) (entry_of id rows) 0
        → length (filter test (entries_of (row ∷ rows)))
        ≡ length (filter test (entries_of (without id (row ∷ rows)))) + option_map_or (λ old. one_if (test old)) (entry_of id (row ∷ rows)) 0
    by (inl here) (inl passes) later = rw (here, passes, rest_kept id row rows distinct here) (omega arith)
    by (inl here) (inr fails) later = rw (here, fails, rest_kept id row rows distinct here) (omega arith)
    by (inr other) (inl passes) later = rw (other, passes) (omega (arith, later))
    by (inr other) (inr fails) later = rw (other, fails) later

-- so of all
pub length_beside :
    (id : ℕ) (rows : List Numbered) → AreDistinct rows
    → length (entries_of rows) ≡ length (entries_of (without id rows)) + option_map_or (λ old. 1) (entry_of id rows) 0
length_beside id rows distinct =
    sym (ap length (filter_true (entries_of rows))) ∙ count_beside (λ entry. true) id rows distinct
    ∙ ap (λ kept. length kept + option_map_or (λ old. 1) (entry_of id rows) 0) (filter_true (entries_of (without id rows)))

-- a test that the old entry fails finds the same beside it
pub any_beside :
    (test : EntryInformation → Bool) (id : ℕ) (old : EntryInformation) (rows : List Numbered) → AreDistinct rows
    → entry_of id rows ≡ Some old → test old ≡ false
    → list_any test (entries_of rows) ≡ list_any test (entries_of (without id rows))
any_beside test id old [] distinct known fails = refl
any_beside test id old (row ∷ rows) distinct known fails = elim (cases_Bool (row.id == id)) [
  | inl here ↦
      let same : row.entry ≡ old = same_Some row.entry old (rw here at known) in
      let not_here : test row.entry ≡ false = ap test same ∙ fails in
      rw (here, not_here, rest_kept id row rows distinct here) refl
  | inr other ↦
      rw other (ap (λ later. test row.entry || later) (any_beside test id old rows distinct.1 (rw other at known) fails))
]

-- after an entry of a name none has it
pub none_beside :
    (id : ℕ) (name : RdnSequence) (first : EntryInformation) (rows : List Numbered) → is_named name first ≡ true
    → AllByRecursion (λ later. name_cmp first.name later.name ≡ Less) (entries_of rows)
    → named_in name (entries_of (without id rows)) ≡ None
none_beside id name first [] same sorted = refl
none_beside id name first (row ∷ rows) same sorted =
    let apart : is_named name row.entry ≡ false = later-other name first row.entry same sorted.0 in
    elim (cases_Bool (row.id == id)) [
      | inl here ↦ rw here (none_beside id name first rows same sorted.1)
      | inr other ↦ rw (other, apart) (none_beside id name first rows same sorted.1)
    ]

-- as many numbers as access control subentries
pub count-subentry_rows : (rows : List Numbered) → length (subentry_rows rows) ≡ access_subentries (entries_of rows)
count-subentry_rows [] = refl
count-subentry_rows (row ∷ rows) = elim (cases_Bool (is_access_subentry row.entry)) [
  | inl here ↦ rw here (ap suc (count-subentry_rows rows))
  | inr other ↦ rw other (count-subentry_rows rows)
]

pub count-numbers :
    (numbers : List EntryNo) (rows : List Numbered) → map (λ no. no.0) numbers ≡ ids_of (subentry_rows rows)
    → length numbers ≡ access_subentries (entries_of rows)
count-numbers numbers rows are =
    sym (length-map numbers (λ number. number.0)) ∙ ap length are ∙ length-map (subentry_rows rows) (λ row. row.id)
    ∙ count-subentry_rows rows
