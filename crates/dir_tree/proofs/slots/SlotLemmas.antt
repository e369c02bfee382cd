-- The rows of slots and numbers, and how they change with these.
use Rattle.std.proofs.Common.{◌≡◌, ◌≢◌, ◌⊎◌, inl, inr, ℕ, ◌<◌, ◌≤◌, ◌==◌, suc, Bool, true, false, ◌||◌, List, [], ◌∷◌, ◌++◌, length, take, drop, set, Option, Some, None, refl, sym, ap, subst, ◌∙◌, arith, insert, remove}
use Rattle.std.specs.Prelude.{is_some}
use Rattle.std.specs.List.{AllByRecursion, list_any}
use Rattle.std.specs.Ordering.{is_lt}
use Rattle.std.proofs.lemmas.Bool.{cases_Bool, false_from_ne_true, or_parts, or_left, or_right, or_cases, eqb-true, eqb-false, eq-eqb}
use Rattle.std.proofs.lemmas.List.{get_or-set_same, get_or-set_other, length-set, map-append, take-map, drop-map, length-map}
use Rattle.std.proofs.lemmas.List.Edits.{length-insert}
use Rattle.std.specs.declared.cmp.Ordering.TheVariants.{Less}
use Rattle.dn_names.specs.NameOrder.{name_cmp}
use Rattle.dir_tree.specs.Entry.{EntryInformation}
use Rattle.dir_tree.specs.tree.Trees.{is_before, IsInOrder}
use Rattle.dir_tree.specs.tree.Numbered.{Numbered, entry_of, put_row, AreDistinct, entries_of}
use Rattle.dir_tree.specs.slots.Places.{place_of}
use Rattle.dir_tree.specs.slots.Slots.{slot_of, entry_in, row_at, rows_of, has_id, IsOrderedTree, IsKept}
use Rattle.dir_tree.proofs.tree.NameLemmas.{before_not_itself}
use Rattle.dir_tree.proofs.tree.NumberedLemmas.{put_row-insert, any_put_row}
use Rattle.dir_tree.proofs.slots.CountLemmas.{count_full-le, count_full-fill}

module _ (slots : List (Option EntryInformation)) where
  known_row : (id : ℕ) (order : List ℕ) → has_id id order ≡ true → entry_of id (rows_of slots order) ≡ Some (entry_in (slot_of slots id))
  known_row id [] h = absurd cc
  known_row id (other ∷ order) h = elim (cases_Bool (other == id)) [
    | inl e ↦ rw (e, eqb-true other id e) refl
    | inr e ↦ rw e (known_row id order (elim (or_cases (other == id) (has_id id order) h) [ inl f ↦ absurd cc | inr f ↦ f ]))
  ]

  unknown_row : (id : ℕ) (order : List ℕ) → has_id id order ≡ false → entry_of id (rows_of slots order) ≡ None
  unknown_row id [] h = refl
  unknown_row id (other ∷ order) h =
      let parts = or_parts (other == id) (has_id id order) h in
      rw parts.0 (unknown_row id order parts.1)

  -- the entry of a number is what its slot has
  pub entry_of-rows_of : (order : List ℕ) (id : ℕ) → has_id id order ≡ is_some (slot_of slots id) → entry_of id (rows_of slots order) ≡ slot_of slots id
  entry_of-rows_of order id used = by (slot_of slots id) refl
    where
      by : (slot : Option EntryInformation) → slot_of slots id ≡ slot → entry_of id (rows_of slots order) ≡ slot
      by None e = unknown_row id order (used ∙ ap is_some e)
      by (Some entry) e = known_row id order (used ∙ ap is_some e) ∙ ap (λ (slot : Option EntryInformation). Some (entry_in slot)) e

  -- the numbers of rows in order are distinct
  others_differ : (id : ℕ) (order : List ℕ) → AllByRecursion (λ later. name_cmp (row_at slots id).entry.name later.name ≡ Less) (entries_of (rows_of slots order)) → AllByRecursion (λ later. later.id ≢ id) (rows_of slots order)
  others_differ id [] h = tt
  others_differ id (other ∷ order) h = (
    (λ e.
        let less : is_before (row_at slots id).entry.name (row_at slots id).entry.name ≡ true = subst (λ (n : ℕ). is_before (row_at slots id).entry.name (row_at slots n).entry.name ≡ true) e (ap is_lt h.0) in
        let not_less = before_not_itself (row_at slots id).entry.name in
        absurd cc),
    others_differ id order h.1,
  )

  pub distinct_rows : (order : List ℕ) → IsInOrder (entries_of (rows_of slots order)) → AreDistinct (rows_of slots order)
  distinct_rows [] o = tt
  distinct_rows (id ∷ order) o = (others_differ id order o.0, distinct_rows order o.1)

-- slots that are the same at each number give the same rows
pub rows_of-like : (slots other : List (Option EntryInformation)) (order : List ℕ) → ((id : ℕ) → has_id id order ≡ true → slot_of other id ≡ slot_of slots id) → rows_of other order ≡ rows_of slots order
rows_of-like slots other [] f = refl
rows_of-like slots other (id ∷ order) f =
    let here : row_at other id ≡ row_at slots id = ap (λ (slot : Option EntryInformation). record { id = id; entry = entry_in slot }) (f id (or_left (id == id) (has_id id order) (eq-eqb id id refl))) in
    let later = rows_of-like slots other order (λ id' h. f id' (or_right (id == id') (has_id id' order) h)) in
    cc

pub rows_of-insert : (slots : List (Option EntryInformation)) (order : List ℕ) (place id : ℕ) → rows_of slots (insert order place id) ≡ insert (rows_of slots order) place (row_at slots id)
rows_of-insert slots order place id =
    map-append (row_at slots) (take place order) (id ∷ drop place order)
    ∙ ap (λ (xs : List Numbered). xs ++ row_at slots id ∷ rows_of slots (drop place order)) (sym (take-map (row_at slots) place order))
    ∙ ap (λ (xs : List Numbered). take place (rows_of slots order) ++ row_at slots id ∷ xs) (sym (drop-map (row_at slots) place order))

pub rows_of-remove : (slots : List (Option EntryInformation)) (order : List ℕ) (place : ℕ) → rows_of slots (remove order place) ≡ remove (rows_of slots order) place
rows_of-remove slots order place =
    map-append (row_at slots) (take place order) (drop (suc place) order)
    ∙ ap (λ (xs : List Numbered). xs ++ rows_of slots (drop (suc place) order)) (sym (take-map (row_at slots) place order))
    ∙ ap (λ (xs : List Numbered). take place (rows_of slots order) ++ xs) (sym (drop-map (row_at slots) (suc place) order))

-- a tree's rows are not too many
pub rows_fit : (slots : List (Option EntryInformation)) (order : List ℕ) → IsKept slots order → length (rows_of slots order) ≤ 200000
rows_fit slots order kept =
    let same : length (rows_of slots order) ≡ length order = length-map order (row_at slots) in
    omega (arith, count_full-le slots, kept.count, kept.within)

-- whether a number is in use, by the rows
pub has_id-rows_of : (slots : List (Option EntryInformation)) (id : ℕ) (order : List ℕ) → has_id id order ≡ list_any (λ row. row.id == id) (rows_of slots order)
has_id-rows_of slots id [] = refl
has_id-rows_of slots id (other ∷ order) = ap (λ (b : Bool). (other == id) || b) (has_id-rows_of slots id order)

-- a slot that was set
pub slot_of-set : (slots : List (Option EntryInformation)) (id : ℕ) (slot : Option EntryInformation) → id < length slots → slot_of (set slots id slot) id ≡ slot
slot_of-set slots id slot h = get_or-set_same slots id slot None h

pub slot_of-set_other : (slots : List (Option EntryInformation)) (id other : ℕ) (slot : Option EntryInformation) → (id == other) ≡ false → slot_of (set slots id slot) other ≡ slot_of slots other
slot_of-set_other slots id other slot e = get_or-set_other slots id other slot None (λ f. eqb-false id other e (sym f))

-- numbers that are not in use have no row to change
pub rows_of-set : (slots : List (Option EntryInformation)) (order : List ℕ) (id : ℕ) (slot : Option EntryInformation) → has_id id order ≡ false → rows_of (set slots id slot) order ≡ rows_of slots order
rows_of-set slots order id slot unused = rows_of-like slots (set slots id slot) order (λ other h.
    slot_of-set_other slots id other slot (false_from_ne_true (id == other) (λ e.
    let same = ap (λ (n : ℕ). has_id n order) (eqb-true id other e) in
    absurd cc)))

-- an entry put into an empty slot, and its number into its place
module _ (slots : List (Option EntryInformation)) (order : List ℕ) (id place : ℕ) (entry : EntryInformation) (kept : IsKept slots order) (within : id < length slots) (empty : slot_of slots id ≡ None) (placed : place ≡ place_of entry.name (rows_of slots order)) (fits : place ≤ length order) where
  unused : has_id id order ≡ false
  unused = kept.used id ∙ ap is_some empty

  pub rows_put : rows_of (set slots id (Some entry)) (insert order place id) ≡ put_row (record { id = id; entry = entry }) (rows_of slots order)
  rows_put =
      rows_of-insert (set slots id (Some entry)) order place id
      ∙ ap (λ (rows : List Numbered). insert rows place (row_at (set slots id (Some entry)) id)) (rows_of-set slots order id (Some entry) unused)
      ∙ ap (λ (slot : Option EntryInformation). insert (rows_of slots order) place (record { id = id; entry = entry_in slot })) (slot_of-set slots id (Some entry) within)
      ∙ ap (λ (n : ℕ). insert (rows_of slots order) n (record { id = id; entry = entry })) placed
      ∙ sym (put_row-insert (record { id = id; entry = entry }) (rows_of slots order))

  used_put : (other : ℕ) → has_id other (insert order place id) ≡ is_some (slot_of (set slots id (Some entry)) other)
  used_put other =
      has_id-rows_of (set slots id (Some entry)) other (insert order place id)
      ∙ ap (λ (rows : List Numbered). list_any (λ row. row.id == other) rows) rows_put
      ∙ any_put_row (λ row. row.id == other) (record { id = id; entry = entry }) (rows_of slots order)
      ∙ ap (λ (b : Bool). (id == other) || b) (sym (has_id-rows_of slots other order) ∙ kept.used other)
      ∙ by (cases_Bool (id == other))
    where
      by : ((id == other) ≡ true) ⊎ ((id == other) ≡ false) → ((id == other) || is_some (slot_of slots other)) ≡ is_some (slot_of (set slots id (Some entry)) other)
      by (inl e) = rw e (sym (ap (λ (n : ℕ). is_some (slot_of (set slots id (Some entry)) n)) (sym (eqb-true id other e)) ∙ ap is_some (slot_of-set slots id (Some entry) within)))
      by (inr e) = rw e (sym (ap is_some (slot_of-set_other slots id other (Some entry) e)))

  pub kept_put : IsOrderedTree (entries_of (put_row (record { id = id; entry = entry }) (rows_of slots order))) → IsKept (set slots id (Some entry)) (insert order place id)
  kept_put ordered = record {
    within = rw (length-set slots id (Some entry)) kept.within;
    used = used_put;
    count = count_full-fill slots id entry within empty ∙ omega (arith, length-insert order place id fits, kept.count);
    ordered = rw rows_put ordered;
  }
