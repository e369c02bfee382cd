-- The numbers of a tree's access control subentries, while entries are put in and taken out.
use Rattle.std.proofs.Common.{◌≡◌, ℕ, suc, ◌+◌, ◌<◌, ◌≤◌, ◌==◌, get_or, nat_lt, Bool, true, false, not, inl, inr, List, [], ◌∷◌, ◌++◌, length, filter, insert, take, drop, Option, refl, sym, ap, ◌∙◌, arith, if◌then◌else◌}
use Rattle.std.specs.List.{AllByRecursion}
use Rattle.std.proofs.lemmas.Bool.{cases_Bool, cond-true, cond-false}
use Rattle.std.proofs.lemmas.Bool.Decides.{nat_tests}
use Rattle.std.proofs.lemmas.List.{map-append, take-map, drop-map, drop_more, drop_all}
use Rattle.base_laws.proofs.Theorems.{all_filter}
use Rattle.dn_names.specs.name.Names.{RdnSequence}
use Rattle.dir_tree.specs.Entry.{EntryInformation}
use Rattle.dir_tree.specs.Points.{is_access_subentry}
use Rattle.dir_tree.specs.tree.Trees.{is_before, IsInOrder}
use Rattle.dir_tree.specs.tree.Numbered.{Numbered, ids_of, entries_of, subentry_rows, put_row, without}
use Rattle.dir_tree.specs.slots.Places.{stands_before, place_of}
use Rattle.dir_tree.specs.slots.Slots.{entry_in, slot_of, row_at, rows_of, numbers_in, place_among, listed_in, unlisted}
use Rattle.dir_tree.specs.declared.number.EntryNo.{EntryNo}
use Rattle.dir_tree.proofs.replace.PlaceLemmas.{stands_before_down, fails_after}
use Rattle.dir_tree.proofs.tree.NumberedLemmas.{put_row-insert}

-- there are values exactly where there are not none
pub some_values : {X : Type 0} (xs : List X) → not (length xs == 0) ≡ nat_lt 0 (length xs)
some_values [] = grind (arith, nat_tests)
some_values (x ∷ xs) = grind (arith, nat_tests)

-- rows that are those of their numbers
abbrev pub AreOwn : List (Option EntryInformation) → List Numbered → Type 0
AreOwn slots rows = AllByRecursion (λ row. row_at slots row.id ≡ row) rows

pub own_rows_of : (slots : List (Option EntryInformation)) (order : List ℕ) → AreOwn slots (rows_of slots order)
own_rows_of slots [] = tt
own_rows_of slots (id ∷ order) = (refl, own_rows_of slots order)

pub own_filter : (slots : List (Option EntryInformation)) (test : Numbered → Bool) (rows : List Numbered) → AreOwn slots rows → AreOwn slots (filter test rows)
own_filter slots test [] own = tt
own_filter slots test (row ∷ rows) own = elim (cases_Bool (test row)) [
  | inl e ↦ rw e (own.0, own_filter slots test rows own.1)
  | inr e ↦ rw e (own_filter slots test rows own.1)
]

pub rows_of-ids : (slots : List (Option EntryInformation)) (rows : List Numbered) → AreOwn slots rows → rows_of slots (ids_of rows) ≡ rows
rows_of-ids slots [] own = refl
rows_of-ids slots (row ∷ rows) own = rw (own.0, rows_of-ids slots rows own.1) refl

-- a row that comes before all is put first
put_row-first : (row : Numbered) (rows : List Numbered) → AllByRecursion (λ later. stands_before row.entry.name later ≡ false) rows → put_row row rows ≡ row ∷ rows
put_row-first row [] none = refl
put_row-first row (x ∷ rows) none = rw none.0 refl

-- what passes a test of the rows with one put in
pub filter-put_row : (test : Numbered → Bool) (row : Numbered) (rows : List Numbered) → test row ≡ true → IsInOrder (entries_of rows) → filter test (put_row row rows) ≡ put_row row (filter test rows)
filter-put_row test row [] passes o = rw passes refl
filter-put_row test row (x ∷ rows) passes o = elim (cases_Bool (is_before x.entry.name row.entry.name)) [
  | inl e ↦ elim (cases_Bool (test x)) [
    | inl f ↦ rw (e, f, e) (ap (λ (xs : List Numbered). x ∷ xs) (filter-put_row test row rows passes o.1))
    | inr f ↦ rw (e, f) (filter-put_row test row rows passes o.1)
  ]
  | inr e ↦ (
      let later = fails_after (stands_before row.entry.name) (stands_before_down row.entry.name) x rows e o.0 in
      let all : AllByRecursion (λ (later : Numbered). stands_before row.entry.name later ≡ false) (x ∷ rows) = (e, later) in
      rw (e, passes) (sym (put_row-first row (filter test (x ∷ rows)) (all_filter (λ (later : Numbered). stands_before row.entry.name later ≡ false) test (x ∷ rows) all))))
]

pub filter-put_other : (test : Numbered → Bool) (row : Numbered) (rows : List Numbered) → test row ≡ false → filter test (put_row row rows) ≡ filter test rows
filter-put_other test row [] fails = rw fails refl
filter-put_other test row (x ∷ rows) fails = elim (cases_Bool (is_before x.entry.name row.entry.name)) [
  | inl e ↦ elim (cases_Bool (test x)) [
    | inl f ↦ rw (e, f) (ap (λ (xs : List Numbered). x ∷ xs) (filter-put_other test row rows fails))
    | inr f ↦ rw (e, f) (filter-put_other test row rows fails)
  ]
  | inr e ↦ rw (e, fails) refl
]

ids_of-insert : (row : Numbered) (rows : List Numbered) (place : ℕ) → ids_of (insert rows place row) ≡ insert (ids_of rows) place row.id
ids_of-insert row rows place =
    map-append (λ (row : Numbered). row.id) (take place rows) (row ∷ drop place rows)
    ∙ ap (λ (xs : List ℕ). xs ++ row.id ∷ ids_of (drop place rows)) (sym (take-map (λ (row : Numbered). row.id) place rows))
    ∙ ap (λ (xs : List ℕ). take place (ids_of rows) ++ row.id ∷ xs) (sym (drop-map (λ (row : Numbered). row.id) place rows))

-- the number of an entry that is put in is listed in its place
pub listed-put : (slots : List (Option EntryInformation)) (id : ℕ) (entry : EntryInformation) (rows : List Numbered) → AreOwn slots rows → IsInOrder (entries_of rows) → listed_in slots entry id (ids_of (subentry_rows rows)) ≡ ids_of (subentry_rows (put_row (record { id = id; entry = entry }) rows))
unfolding place_of
listed-put slots id entry rows own o = elim (cases_Bool (is_access_subentry entry)) [
  | inl e ↦ (
      let row : Numbered = record { id = id; entry = entry } in
      let kept : List Numbered = subentry_rows rows in
      let among : place_among entry.name slots (ids_of kept) ≡ place_of entry.name kept =
      ap (place_of entry.name) (rows_of-ids slots kept (own_filter slots (λ (row : Numbered). is_access_subentry row.entry) rows own)) in
      let put : subentry_rows (put_row row rows) ≡ insert kept (place_of entry.name kept) row =
      filter-put_row (λ (row : Numbered). is_access_subentry row.entry) row rows e o ∙ put_row-insert row kept in
      cond-true (is_access_subentry entry) (insert (ids_of kept) (place_among entry.name slots (ids_of kept)) id) (ids_of kept) e
      ∙ ap (λ (n : ℕ). insert (ids_of kept) n id) among
      ∙ sym (ids_of-insert row kept (place_of entry.name kept))
      ∙ sym (ap ids_of put))
  | inr e ↦
      cond-false (is_access_subentry entry) (insert (ids_of (subentry_rows rows)) (place_among entry.name slots (ids_of (subentry_rows rows))) id) (ids_of (subentry_rows rows)) e
      ∙ sym (ap ids_of (filter-put_other (λ (row : Numbered). is_access_subentry row.entry) (record { id = id; entry = entry }) rows e))
]

-- and that of one that is taken out goes
pub unlisted-without : (id : ℕ) (rows : List Numbered) → unlisted id (ids_of (subentry_rows rows)) ≡ ids_of (subentry_rows (without id rows))
unlisted-without id [] = refl
unlisted-without id (x ∷ rows) = elim (cases_Bool (is_access_subentry x.entry)) [
  | inl e ↦ elim (cases_Bool (x.id == id)) [
    | inl f ↦ rw (e, f) (unlisted-without id rows)
    | inr f ↦ rw (e, f, e) (ap (λ (xs : List ℕ). x.id ∷ xs) (unlisted-without id rows))
  ]
  | inr e ↦ elim (cases_Bool (x.id == id)) [
    | inl f ↦ rw (e, f) (unlisted-without id rows)
    | inr f ↦ rw (e, f, e) (unlisted-without id rows)
  ]
]

-- one number on
pub among-more : (name : RdnSequence) (slots : List (Option EntryInformation)) (numbers : List EntryNo) (i : ℕ) (d : EntryNo) → i < length numbers → place_among name slots (numbers_in (drop i numbers)) ≡ (if is_before (entry_in (slot_of slots (get_or numbers i d).0)).name name then suc (place_among name slots (numbers_in (drop (i + 1) numbers))) else 0)
unfolding place_of
among-more name slots numbers i d h = ap (λ (xs : List EntryNo). place_among name slots (numbers_in xs)) (drop_more numbers i d h)

pub among-none : (name : RdnSequence) (slots : List (Option EntryInformation)) (numbers : List EntryNo) (i : ℕ) → length numbers ≤ i → place_among name slots (numbers_in (drop i numbers)) ≡ 0
unfolding place_of
among-none name slots numbers i h = ap (λ (xs : List EntryNo). place_among name slots (numbers_in xs)) (drop_all i numbers h)

-- numbers as naturals, with one put in and without one
pub numbers_in-insert : (numbers : List EntryNo) (place : ℕ) (number : EntryNo) → numbers_in (insert numbers place number) ≡ insert (numbers_in numbers) place number.0
numbers_in-insert numbers place number =
    map-append (λ (number : EntryNo). number.0) (take place numbers) (number ∷ drop place numbers)
    ∙ ap (λ (xs : List ℕ). xs ++ number.0 ∷ numbers_in (drop place numbers)) (sym (take-map (λ (number : EntryNo). number.0) place numbers))
    ∙ ap (λ (xs : List ℕ). take place (numbers_in numbers) ++ number.0 ∷ xs) (sym (drop-map (λ (number : EntryNo). number.0) place numbers))

pub unlisted-numbers : (id : ℕ) (numbers : List EntryNo) → numbers_in (filter (λ other. not (other.0 == id)) numbers) ≡ unlisted id (numbers_in numbers)
unlisted-numbers id [] = refl
unlisted-numbers id (number ∷ numbers) = elim (cases_Bool (number.0 == id)) [
  | inl e ↦ rw e (unlisted-numbers id numbers)
  | inr e ↦ rw e (ap (λ (xs : List ℕ). number.0 ∷ xs) (unlisted-numbers id numbers))
]
