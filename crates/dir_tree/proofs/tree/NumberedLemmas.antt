-- Rows found, put in and taken out.
use Rattle.std.proofs.Common.{◌≡◌, ◌≢◌, inl, inr, ℕ, ◌<◌, ◌==◌, zero, suc, Bool, true, false, cond, ◌||◌, List, [], ◌∷◌, length, get_or, Some, None, refl, sym, ap, subst, ◌∙◌, arith, find, insert, remove}
use Rattle.std.specs.List.{AllByRecursion, list_any}
use Rattle.std.specs.Option.{option_map}
use Rattle.std.specs.Ordering.{is_lt}
use Rattle.std.proofs.lemmas.Bool.{cases_Bool, cond-true, cond-false, eqb-true, ne_eqb, eq-eqb}
use Rattle.std.specs.declared.cmp.Ordering.TheVariants.{Less}
use Rattle.dn_names.specs.name.Names.{RdnSequence}
use Rattle.dn_names.specs.NameOrder.{name_cmp}
use Rattle.dir_tree.specs.Entry.{EntryInformation}
use Rattle.dir_tree.specs.tree.Trees.{is_before, is_named, put_in, IsInOrder}
use Rattle.dir_tree.specs.tree.Numbered.{Numbered, entries_of, entry_of, put_row, without, AreDistinct}
use Rattle.dir_tree.specs.slots.Places.{front_count, stands_before, place_of, no_row}
use Rattle.dir_tree.proofs.tree.NameLemmas.{before_chain, before_not_back, before_not_itself, before_not_same}

-- whether a row's entry has the name
abbrev pub is_row_named : RdnSequence → Numbered → Bool
is_row_named name row = is_named name row.entry

-- the row that is found by a number
same_row : (x : Numbered) (id : ℕ) (entry : EntryInformation) → x.id ≡ id → x.entry ≡ entry → x ≡ record { id = id; entry = entry }
same_row x id entry e f = rw (← e, ← f) refl

pub found_row : (id : ℕ) (entry : EntryInformation) (x : Numbered) (rows : List Numbered) → (x.id == id) ≡ true → entry_of id (x ∷ rows) ≡ Some entry → x ≡ record { id = id; entry = entry }
found_row id entry x rows e f =
    let is : Some x.entry ≡ Some entry = sym (ap (option_map (λ (row : Numbered). row.entry)) (cond-true (x.id == id) (Some x) (find (λ row. row.id == id) rows) e)) ∙ f in
    same_row x id entry (eqb-true x.id id e) cc

pub found_later : (id : ℕ) (entry : EntryInformation) (x : Numbered) (rows : List Numbered) → (x.id == id) ≡ false → entry_of id (x ∷ rows) ≡ Some entry → entry_of id rows ≡ Some entry
found_later id entry x rows e f = sym (ap (option_map (λ (row : Numbered). row.entry)) (cond-false (x.id == id) (Some x) (find (λ row. row.id == id) rows) e)) ∙ f

-- what holds of all holds of the one at a place, and of the entry of a number
pub all_at : (P : Numbered → Type 0) (rows : List Numbered) (k : ℕ) → AllByRecursion P rows → k < length rows → P (get_or rows k no_row)
all_at P [] k h l = absurd (omega arith)
all_at P (row ∷ rows) zero h l = h.0
all_at P (row ∷ rows) (suc k) h l = all_at P rows k h.1 (omega arith)

pub all_known_entry : (P : EntryInformation → Type 0) (id : ℕ) (entry : EntryInformation) (rows : List Numbered) → AllByRecursion P (entries_of rows) → entry_of id rows ≡ Some entry → P entry
all_known_entry P id entry [] h f = absurd cc
all_known_entry P id entry (x ∷ rows) h f = elim (cases_Bool (x.id == id)) [
  | inl e ↦ subst P (ap (λ (row : Numbered). row.entry) (found_row id entry x rows e f)) h.0
  | inr e ↦ all_known_entry P id entry rows h.1 (found_later id entry x rows e f)
]

-- a test of the rows with one put in
pub any_put_row : (test : Numbered → Bool) (row : Numbered) (rows : List Numbered) → list_any test (put_row row rows) ≡ (test row || list_any test rows)
any_put_row test row [] = refl
any_put_row test row (x ∷ rows) = by (is_before x.entry.name row.entry.name) (any_put_row test row rows)
  where
    swap : (a b c : Bool) → (a || (b || c)) ≡ (b || (a || c))
    swap true true c = refl
    swap true false c = refl
    swap false true c = refl
    swap false false c = refl

    by : (b : Bool) → list_any test (put_row row rows) ≡ (test row || list_any test rows) → list_any test (cond b (x ∷ put_row row rows) (row ∷ x ∷ rows)) ≡ (test row || (test x || list_any test rows))
    by true later = ap (λ (t : Bool). test x || t) later ∙ swap (test x) (test row) (list_any test rows)
    by false later = refl

-- a row is put in at its place
pub put_row-insert : (row : Numbered) (rows : List Numbered) → put_row row rows ≡ insert rows (place_of row.entry.name rows) row
unfolding place_of
put_row-insert row [] = refl
put_row-insert row (x ∷ rows) = by (is_before x.entry.name row.entry.name) (put_row-insert row rows)
  where
    by : (b : Bool) → put_row row rows ≡ insert rows (front_count (stands_before row.entry.name) rows) row → cond b (x ∷ put_row row rows) (row ∷ x ∷ rows) ≡ insert (x ∷ rows) (cond b (suc (front_count (stands_before row.entry.name) rows)) 0) row
    by true later = ap (λ (xs : List Numbered). x ∷ xs) later
    by false later = refl

-- a name before all is not found
pub find_none : (name : RdnSequence) (row : Numbered) (rows : List Numbered) → is_before name row.entry.name ≡ true → AllByRecursion (λ later. name_cmp row.entry.name later.name ≡ Less) (entries_of rows) → find (is_row_named name) rows ≡ None
find_none name row [] e h = refl
find_none name row (x ∷ rows) e h =
    let before = before_chain name row.entry.name x.entry.name e (ap is_lt h.0) in
    cond-false (is_row_named name x) (Some x) (find (is_row_named name) rows) (before_not_same name x.entry.name before) ∙ find_none name row rows e h.1

-- the row of a number stands at the place of its name
pub record StandsAt (id : ℕ) (entry : EntryInformation) (rows : List Numbered) : Type 0 where
  pub within : place_of entry.name rows < length rows
  pub row : get_or rows (place_of entry.name rows) no_row ≡ record { id = id; entry = entry }

-- what holds of all rows holds of the row of a number
pub all_known : (P : Numbered → Type 0) (id : ℕ) (entry : EntryInformation) (rows : List Numbered) → AllByRecursion P rows → entry_of id rows ≡ Some entry → P (record { id = id; entry = entry })
all_known P id entry [] h f = absurd cc
all_known P id entry (x ∷ rows) h f = elim (cases_Bool (x.id == id)) [
  | inl e ↦ subst P (found_row id entry x rows e f) h.0
  | inr e ↦ all_known P id entry rows h.1 (found_later id entry x rows e f)
]

pub stands_at : (id : ℕ) (entry : EntryInformation) (rows : List Numbered) → IsInOrder (entries_of rows) → entry_of id rows ≡ Some entry → StandsAt id entry rows
unfolding place_of
stands_at id entry [] o f = absurd cc
stands_at id entry (x ∷ rows) o f = elim (cases_Bool (x.id == id)) [
  | inl e ↦ (
      let is = found_row id entry x rows e f in
      let name : x.entry.name ≡ entry.name = ap (λ (row : Numbered). row.entry.name) is in
      let not_before : is_before x.entry.name entry.name ≡ false = subst (λ (n : RdnSequence). is_before x.entry.name n ≡ false) name (before_not_itself x.entry.name) in
      record { within = rw not_before (omega arith); row = rw not_before is })
  | inr e ↦ (
      let known = found_later id entry x rows e f in
      let before : is_before x.entry.name entry.name ≡ true = ap is_lt (all_known_entry (λ later. name_cmp x.entry.name later.name ≡ Less) id entry rows o.0 known) in
      let later = stands_at id entry rows o.1 known in
      let within : front_count (stands_before entry.name) rows < length rows = later.within in
      record { within = rw before (omega arith); row = rw before later.row })
]

-- without the row of a number, and with it put back
pub keep_all : (id : ℕ) (rows : List Numbered) → AllByRecursion (λ later. later.id ≢ id) rows → without id rows ≡ rows
keep_all id [] h = refl
keep_all id (x ∷ rows) h = rw (ne_eqb x.id id h.0) (ap (λ (xs : List Numbered). x ∷ xs) (keep_all id rows h.1))

pub without-remove : (id : ℕ) (rows : List Numbered) (k : ℕ) → AreDistinct rows → k < length rows → (get_or rows k no_row).id ≡ id → without id rows ≡ remove rows k
without-remove id [] k d h e = absurd (omega arith)
without-remove id (x ∷ rows) zero d h e =
    let others = subst (λ (n : ℕ). AllByRecursion (λ later. later.id ≢ n) rows) e d.0 in
    rw (eq-eqb x.id id e) (keep_all id rows others)
without-remove id (x ∷ rows) (suc k) d h e =
    let other : x.id ≡ id → ⊥ = λ f. all_at (λ later. later.id ≢ x.id) rows k d.0 (omega arith) (e ∙ sym f) in
    rw (ne_eqb x.id id other) (ap (λ (xs : List Numbered). x ∷ xs) (without-remove id rows k d.1 (omega arith) e))

put_first : (row x : Numbered) (rows : List Numbered) → AllByRecursion (λ later. name_cmp row.entry.name later.name ≡ Less) (entries_of rows) → put_row row rows ≡ row ∷ rows
put_first row x [] h = refl
put_first row x (y ∷ rows) h = rw (before_not_back row.entry.name y.entry.name (ap is_lt h.0)) refl

pub put_row-without : (id : ℕ) (entry : EntryInformation) (rows : List Numbered) → IsInOrder (entries_of rows) → AreDistinct rows → entry_of id rows ≡ Some entry → put_row (record { id = id; entry = entry }) (without id rows) ≡ rows
put_row-without id entry [] o d f = absurd cc
put_row-without id entry (x ∷ rows) o d f = elim (cases_Bool (x.id == id)) [
  | inl e ↦ (
      let is = found_row id entry x rows e f in
      let others = subst (λ (n : ℕ). AllByRecursion (λ later. later.id ≢ n) rows) (eqb-true x.id id e) d.0 in
      rw (e, keep_all id rows others, ← is) (put_first x x rows o.0))
  | inr e ↦ (
      let known = found_later id entry x rows e f in
      let before : is_before x.entry.name entry.name ≡ true = ap is_lt (all_known_entry (λ later. name_cmp x.entry.name later.name ≡ Less) id entry rows o.0 known) in
      rw (e, before) (ap (λ (xs : List Numbered). x ∷ xs) (put_row-without id entry rows o.1 d.1 known)))
]

-- the entries of rows with one put in, and without one
pub entries_of-put_row : (row : Numbered) (rows : List Numbered) → entries_of (put_row row rows) ≡ put_in row.entry (entries_of rows)
entries_of-put_row row [] = refl
entries_of-put_row row (x ∷ rows) = elim (cases_Bool (is_before x.entry.name row.entry.name)) [
  | inl e ↦ rw e (ap (λ (xs : List EntryInformation). x.entry ∷ xs) (entries_of-put_row row rows))
  | inr e ↦ rw e refl
]

pub entries_of-others : (id : ℕ) (entry : EntryInformation) (rows : List Numbered) → IsInOrder (entries_of rows) → AreDistinct rows → entry_of id rows ≡ Some entry → put_in entry (entries_of (without id rows)) ≡ entries_of rows
entries_of-others id entry rows o d known =
    sym (entries_of-put_row (record { id = id; entry = entry }) (without id rows)) ∙ ap entries_of (put_row-without id entry rows o d known)
