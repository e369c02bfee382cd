-- Slots and numbers stay a tree's where an entry is put in, taken out or changed.
use Rattle.std.proofs.Common.{◌≡◌, ◌≢◌, ◌⊎◌, inl, inr, ℕ, ◌<◌, ◌≤◌, ◌==◌, Bool, true, false, ◌||◌, List, [], ◌∷◌, length, get_or, set, Option, Some, None, refl, sym, ap, subst, ◌∙◌, arith, insert, remove}
use Rattle.std.specs.Prelude.{is_some, IsSome}
use Rattle.std.specs.List.{list_any}
use Rattle.std.specs.Option.{option_map}
use Rattle.std.proofs.lemmas.Bool.{cases_Bool, eqb-true, eqb-false}
use Rattle.std.proofs.lemmas.List.{length-map, length-set}
use Rattle.std.proofs.lemmas.List.Edits.{length-remove}
use Rattle.dn_names.specs.name.Names.{RdnSequence}
use Rattle.dir_tree.specs.Entry.{EntryInformation}
use Rattle.dir_tree.specs.tree.Trees.{is_named, has_name, has_below, superior_name, lacks_superior, put_in}
use Rattle.dir_tree.specs.tree.Numbered.{Numbered, find_name, entry_of, put_row, without, entries_of}
use Rattle.dir_tree.specs.Refusals.{insert_refusal}
use Rattle.dir_tree.specs.slots.Places.{place_of, no_row}
use Rattle.dir_tree.specs.slots.Slots.{slot_of, row_at, rows_of, has_id, count_full, HasSameSlots, IsOrderedTree, IsKept}
use Rattle.dir_tree.proofs.replace.PlaceLemmas.{place_of-le}
use Rattle.dir_tree.proofs.tree.NamedLemmas.{none_or_under}
use Rattle.dir_tree.proofs.replace.OrderedLemmas.{ordered_put, ordered_without}
use Rattle.dir_tree.proofs.tree.NumberedLemmas.{StandsAt, stands_at, without-remove, entries_of-put_row, entries_of-others}
use Rattle.dir_tree.proofs.slots.CountLemmas.{count_full-empty, full_within}
use Rattle.dir_tree.proofs.slots.SlotLemmas.{has_id-rows_of, slot_of-set, slot_of-set_other, rows_of-set, rows_of-remove, entry_of-rows_of, distinct_rows, rows_of-like, rows_fit, rows_put, kept_put}

-- a name is there where it is found
is_some-map : {A B : Type 0} (f : A → B) (o : Option A) → is_some (option_map f o) ≡ is_some o
is_some-map f None = refl
is_some-map f (Some x) = refl

pub has_name-find : (name : RdnSequence) (rows : List Numbered) → has_name name (entries_of rows) ≡ is_some (find_name name rows)
has_name-find name [] = refl
has_name-find name (x ∷ rows) = elim (cases_Bool (is_named name x.entry)) [
  | inl e ↦ rw e refl
  | inr e ↦ rw e (has_name-find name rows)
]

pub has_name-found : {A : Type 0} (f : A → ℕ) (found : Option A) (name : RdnSequence) (rows : List Numbered) → option_map f found ≡ find_name name rows → is_some found ≡ has_name name (entries_of rows)
has_name-found f found name rows e = sym (is_some-map f found) ∙ ap is_some e ∙ sym (has_name-find name rows)

-- what an entry that is put in meets
pub record IsAllowed (name : RdnSequence) (entries : List EntryInformation) : Type 0 where
  pub absent : has_name name entries ≡ false
  pub under : (entries ≡ []) ⊎ (has_name (superior_name name) entries ≡ true)
  pub room : length entries ≢ 200000

pub allowed : (name : RdnSequence) (entries : List EntryInformation) → insert_refusal name entries ≡ None → IsAllowed name entries
allowed name entries e = by (cases_Bool (has_name name entries)) (cases_Bool (lacks_superior name entries)) (cases_Bool (length entries == 200000))
  where
    by : ((has_name name entries ≡ true) ⊎ (has_name name entries ≡ false)) → ((lacks_superior name entries ≡ true) ⊎ (lacks_superior name entries ≡ false)) → (((length entries == 200000) ≡ true) ⊎ ((length entries == 200000) ≡ false)) → IsAllowed name entries
    by (inl f) g h = (let is = rw f at e in absurd cc)
    by (inr f) (inl g) h = (let is = rw (f, g) at e in absurd cc)
    by (inr f) (inr g) (inl h) = (let is = rw (f, g, h) at e in absurd cc)
    by (inr f) (inr g) (inr h) = record { absent = f; under = none_or_under name entries g; room = eqb-false (length entries) 200000 h }

-- slots that are the same at each number keep the same tree
pub kept_slots : (slots other : List (Option EntryInformation)) (order : List ℕ) → IsKept slots order → HasSameSlots slots other → count_full other ≡ length order → length other ≤ 200000 → IsKept other order
kept_slots slots other order kept same count within = record {
  within = within;
  used = λ id. kept.used id ∙ ap is_some (sym (same id));
  count = count;
  ordered = rw (rows_of-like slots other order (λ id _. same id)) kept.ordered;
}

-- there is room for one that is put in
pub room_in : (slots : List (Option EntryInformation)) (order : List ℕ) (rows : List Numbered) (name : RdnSequence) → IsKept slots order → rows_of slots order ≡ rows → insert_refusal name (entries_of rows) ≡ None → length order < 200000
room_in slots order rows name kept view free =
    let fits = rows_fit slots order kept in
    let same : length (rows_of slots order) ≡ length order = length-map order (row_at slots) in
    let room = (allowed name (entries_of rows) free).room in
    let count : length (entries_of rows) ≡ length rows = length-map rows (λ (row : Numbered). row.entry) in
    let long : length (rows_of slots order) ≡ length rows = ap length view in
    let other : length order ≢ 200000 = λ e. room (count ∙ sym long ∙ same ∙ e) in
    omega arith

pub place_in : (slots : List (Option EntryInformation)) (order : List ℕ) (rows : List Numbered) (name : RdnSequence) → rows_of slots order ≡ rows → place_of name rows ≤ length order
place_in slots order rows name view =
    let same : length (rows_of slots order) ≡ length order = length-map order (row_at slots) in
    let long : length (rows_of slots order) ≡ length rows = ap length view in
    omega (arith, place_of-le name rows)

-- an entry put in
pub record PutIn (slots : List (Option EntryInformation)) (order : List ℕ) (id : ℕ) (entry : EntryInformation) (rows : List Numbered) : Type 0 where
  pub kept : IsKept slots order
  pub shown : rows_of slots order ≡ put_row (record { id = id; entry = entry }) rows
  pub free : entry_of id rows ≡ None

module _ (slots slots' : List (Option EntryInformation)) (order order' : List ℕ) (rows : List Numbered) (id place : ℕ) (entry : EntryInformation) where
  pub put_kept : IsKept slots order → rows_of slots order ≡ rows → HasSameSlots slots slots' → count_full slots' ≡ length order → length slots' ≤ 200000 → id < length slots' → slot_of slots' id ≡ None → place ≡ place_of entry.name rows → entry.name ≢ [] → insert_refusal entry.name (entries_of rows) ≡ None → order' ≡ order → PutIn (set slots' id (Some entry)) (insert order' place id) id entry rows
  put_kept kept view same count within there empty placed named free as_before =
      let kept' = kept_slots slots slots' order kept same count within in
      let view' : rows_of slots' order ≡ rows = rows_of-like slots slots' order (λ id _. same id) ∙ view in
      let may = allowed entry.name (entries_of rows) free in
      let ordered : IsOrderedTree (entries_of rows) = subst (λ (r : List Numbered). IsOrderedTree (entries_of r)) view' kept'.ordered in
      let more = ordered_put entry (entries_of rows) named ordered may.absent may.under in
      let more' : IsOrderedTree (entries_of (put_row (record { id = id; entry = entry }) rows)) = rw (entries_of-put_row (record { id = id; entry = entry }) rows) more in
      let at : place ≡ place_of entry.name (rows_of slots' order) = placed ∙ ap (place_of entry.name) (sym view') in
      let fits : place ≤ length order = omega (arith, place_in slots order rows entry.name view, placed) in
      let put : rows_of (set slots' id (Some entry)) (insert order place id) ≡ put_row (record { id = id; entry = entry }) (rows_of slots' order) = rows_put slots' order id place entry kept' there empty at fits in
      let after : IsKept (set slots' id (Some entry)) (insert order place id) = kept_put slots' order id place entry kept' there empty at fits (rw view' more') in
      rw as_before (record {
        kept = after;
        shown = put ∙ ap (put_row (record { id = id; entry = entry })) view';
        free = rw (← view') (entry_of-rows_of slots' order id (kept'.used id) ∙ empty);
      })

-- the rows without a number
none_without : (id : ℕ) (rows : List Numbered) → list_any (λ row. row.id == id) (without id rows) ≡ false
none_without id [] = refl
none_without id (x ∷ rows) = elim (cases_Bool (x.id == id)) [
  | inl e ↦ rw e (none_without id rows)
  | inr e ↦ rw (e, e) (none_without id rows)
]

pub others_without : (id other : ℕ) (rows : List Numbered) → (id == other) ≡ false → list_any (λ row. row.id == other) (without id rows) ≡ list_any (λ row. row.id == other) rows
others_without id other [] e = refl
others_without id other (x ∷ rows) e = elim (cases_Bool (x.id == id)) [
  | inl f ↦ (
      let differs : (x.id == other) ≡ false = ap (λ (n : ℕ). n == other) (eqb-true x.id id f) ∙ e in
      rw (f, differs) (others_without id other rows e))
  | inr f ↦ rw f (ap (λ (b : Bool). (x.id == other) || b) (others_without id other rows e))
]

-- an entry taken out of its slot, and its number out of its place
module _ (slots : List (Option EntryInformation)) (order : List ℕ) (id place : ℕ) (entry : EntryInformation) (kept : IsKept slots order) (known : entry_of id (rows_of slots order) ≡ Some entry) (placed : place ≡ place_of entry.name (rows_of slots order)) where
  stands : StandsAt id entry (rows_of slots order)
  stands = stands_at id entry (rows_of slots order) kept.ordered.sorted known

  pub full : slot_of slots id ≡ Some entry
  full = sym (entry_of-rows_of slots order id (kept.used id)) ∙ known

  pub place_within : place < length order
  place_within =
      let same : length (rows_of slots order) ≡ length order = length-map order (row_at slots) in
      let within = stands.within in
      omega (arith, placed)

  pub rows_left : rows_of slots (remove order place) ≡ without id (rows_of slots order)
  rows_left =
      let same : length (rows_of slots order) ≡ length order = length-map order (row_at slots) in
      let at : (get_or (rows_of slots order) place no_row).id ≡ id = rw placed (ap (λ (row : Numbered). row.id) stands.row) in
      let within = place_within in
      rows_of-remove slots order place
      ∙ sym (without-remove id (rows_of slots order) place (distinct_rows slots order kept.ordered.sorted) (omega (arith, same, within)) at)

  unused_left : has_id id (remove order place) ≡ false
  unused_left =
      has_id-rows_of slots id (remove order place)
      ∙ ap (λ (rows : List Numbered). list_any (λ row. row.id == id) rows) rows_left
      ∙ none_without id (rows_of slots order)

  pub used_left : (other : ℕ) → (id == other) ≡ false → has_id other (remove order place) ≡ is_some (slot_of slots other)
  used_left other e =
      has_id-rows_of slots other (remove order place)
      ∙ ap (λ (rows : List Numbered). list_any (λ row. row.id == other) rows) rows_left
      ∙ others_without id other (rows_of slots order) e
      ∙ sym (has_id-rows_of slots other order)
      ∙ kept.used other

  pub shown_set : (slot : Option EntryInformation) → rows_of (set slots id slot) (remove order place) ≡ without id (rows_of slots order)
  shown_set slot = rows_of-set slots (remove order place) id slot unused_left ∙ rows_left

  pub others_back : put_in entry (entries_of (without id (rows_of slots order))) ≡ entries_of (rows_of slots order)
  others_back = entries_of-others id entry (rows_of slots order) kept.ordered.sorted (distinct_rows slots order kept.ordered.sorted) known

  -- taken out
  pub kept_without : has_below entry.name (entries_of (rows_of slots order)) ≡ false → IsKept (set slots id None) (remove order place)
  kept_without alone =
      let some : is_some (slot_of slots id) ≡ true = ap is_some full in
      let fewer = count_full-empty slots id some in
      let shorter = length-remove order place place_within in
      record {
        within = rw (length-set slots id None) kept.within;
        used = λ other. elim (cases_Bool (id == other)) [
          | inl e ↦ (
              let same = eqb-true id other e in
              subst (λ (n : ℕ). has_id n (remove order place) ≡ is_some (slot_of (set slots id None) n)) same
              (unused_left ∙ sym (ap is_some (slot_of-set slots id None (full_within slots id some)))))
          | inr e ↦ used_left other e ∙ sym (ap is_some (slot_of-set_other slots id other None e))
        ];
        count = omega (arith, fewer, shorter, kept.count);
        ordered = rw (shown_set None) (ordered_without entry (entries_of (without id (rows_of slots order))) (rw others_back kept.ordered) (rw others_back alone));
      }

  pub shown_without : rows_of (set slots id None) (remove order place) ≡ without id (rows_of slots order)
  shown_without = shown_set None

-- the slot of a number in use is full
pub slot_known : (slots : List (Option EntryInformation)) (order : List ℕ) (id : ℕ) (entry : EntryInformation) → IsKept slots order → entry_of id (rows_of slots order) ≡ Some entry → IsSome (slot_of slots id)
slot_known slots order id entry kept known = by (slot_of slots id) (sym (entry_of-rows_of slots order id (kept.used id)) ∙ known)
  where
    by : (slot : Option EntryInformation) → slot ≡ Some entry → IsSome slot
    by None e = absurd cc
    by (Some other) e = refl
