-- An entry's place given to another.
use Rattle.std.proofs.Common.{◌≡◌, ◌≢◌, ◌⊎◌, inl, inr, ℕ, ◌-◌, ◌≤◌, ◌==◌, suc, Bool, true, false, not, ◌&&◌, ◌||◌, List, [], ◌∷◌, length, get_or, set, Option, Some, None, refl, sym, ap, subst, ◌∙◌, arith, insert, remove, nat_lt}
use Rattle.std.specs.Prelude.{is_some}
use Rattle.std.specs.List.{AllByRecursion, list_any}
use Rattle.std.specs.Ordering.{is_lt}
use Rattle.std.specs.declared.cmp.Ordering.TheVariants.{Less}
use Rattle.std.proofs.lemmas.Bool.{cases_Bool, cases_lt, cond-true, cond-false, eqb-true, or_parts, lt-ltb, le-ltb}
use Rattle.std.proofs.lemmas.List.{length-map, length-set, get_or-map}
use Rattle.std.proofs.lemmas.List.Edits.{length-insert, length-remove}
use Rattle.dn_names.specs.name.Names.{RdnSequence}
use Rattle.dn_names.specs.NameOrder.{name_cmp, is_same}
use Rattle.dir_tree.specs.Entry.{EntryInformation}
use Rattle.dir_tree.specs.tree.Trees.{is_named, is_before, has_name, has_below, superior_name, IsInOrder, put_in}
use Rattle.dir_tree.specs.tree.Numbered.{Numbered, find_name, entry_of, suffix_of, put_row, without, AreDistinct, entries_of}
use Rattle.dir_tree.specs.Scope.{is_number}
use Rattle.dir_tree.specs.Refusals.{lacks_place, refusal_in_place}
use Rattle.dir_tree.specs.slots.Places.{front_count, stands_before, place_of, place_without, no_row}
use Rattle.dir_tree.specs.slots.Slots.{slot_of, entry_in, row_at, rows_of, has_id, has_before, IsOrderedTree, IsKept}
use Rattle.dir_tree.proofs.tree.NameLemmas.{before_not_itself, same_itself}
use Rattle.dir_tree.proofs.replace.PlaceLemmas.{stands_before_down, fails_after, front_none, place_of-le}
use Rattle.dir_tree.proofs.tree.NumberedLemmas.{stands_at, found_row, found_later, all_known_entry, keep_all, put_row-insert, any_put_row, entries_of-put_row, entries_of-others}
use Rattle.dir_tree.proofs.slots.CountLemmas.{count_full-change, full_within}
use Rattle.dir_tree.proofs.tree.OrderLemmas.{none_after}
use Rattle.dir_tree.proofs.tree.RootLemmas.{has_name_like, none_before_first}
use Rattle.dir_tree.proofs.replace.OrderedLemmas.{ordered_same, ordered_moved, others_none}
use Rattle.dir_tree.proofs.slots.SlotLemmas.{distinct_rows, has_id-rows_of, slot_of-set, slot_of-set_other, rows_of-insert}
use Rattle.dir_tree.proofs.tree.KeptLemmas.{full, place_within, rows_left, shown_set, others_without}

-- whether the number that was found is another
abbrev pub taken_by : ℕ → Option ℕ → Bool
taken_by id None = false
taken_by id (Some other) = not (other == id)

none_kept : (name : RdnSequence) (id : ℕ) (rows : List Numbered) → has_name name (entries_of rows) ≡ false → has_name name (entries_of (without id rows)) ≡ false
none_kept name id [] e = refl
none_kept name id (x ∷ rows) e =
    let parts = or_parts (is_named name x.entry) (has_name name (entries_of rows)) e in
    elim (cases_Bool (x.id == id)) [
      | inl f ↦ rw f (none_kept name id rows parts.1)
      | inr f ↦ rw (f, parts.0) (none_kept name id rows parts.1)
    ]

-- the name is another's exactly where the number found is another
pub has_name-without : (name : RdnSequence) (id : ℕ) (rows : List Numbered) → IsInOrder (entries_of rows) → has_name name (entries_of (without id rows)) ≡ taken_by id (find_name name rows)
has_name-without name id [] o = refl
has_name-without name id (x ∷ rows) o = by (cases_Bool (is_named name x.entry)) (cases_Bool (x.id == id)) (has_name-without name id rows o.1)
  where
    by : ((is_named name x.entry ≡ true) ⊎ (is_named name x.entry ≡ false)) → (((x.id == id) ≡ true) ⊎ ((x.id == id) ≡ false)) → has_name name (entries_of (without id rows)) ≡ taken_by id (find_name name rows) → has_name name (entries_of (without id (x ∷ rows))) ≡ taken_by id (find_name name (x ∷ rows))
    by (inl e) (inl f) later = rw (e, f) (none_kept name id rows (has_name_like name x.entry.name (entries_of rows) e ∙ none_after x.entry (entries_of rows) o.0))
    by (inl e) (inr f) later = rw (e, f, e) refl
    by (inr e) (inl f) later = rw (e, f) later
    by (inr e) (inr f) later = rw (f, e) later

-- the place of a name without the row of a number
one_more : (from place : ℕ) → place_without (suc from) (suc place) ≡ suc (place_without from place)
one_more from place = elim (cases_lt from place) [
  | inl h ↦ cond-true (nat_lt (suc from) (suc place)) (suc place - 1) (suc place) (lt-ltb (suc from) (suc place) (omega arith))
      ∙ omega (arith, h)
      ∙ ap suc (sym (cond-true (nat_lt from place) (place - 1) place (lt-ltb from place h)))
  | inr h ↦ cond-false (nat_lt (suc from) (suc place)) (suc place - 1) (suc place) (le-ltb (suc from) (suc place) (omega arith))
      ∙ ap suc (sym (cond-false (nat_lt from place) (place - 1) place (le-ltb from place h)))
]

none_before : (from : ℕ) → place_without from 0 ≡ 0
none_before from = cond-false (nat_lt from 0) (0 - 1) 0 (le-ltb from 0 (omega arith))

one_before : (place : ℕ) → place_without 0 (suc place) ≡ place
one_before place = cond-true (nat_lt 0 (suc place)) (suc place - 1) (suc place) (lt-ltb 0 (suc place) (omega arith)) ∙ omega arith

pub place_of-without : (name : RdnSequence) (id : ℕ) (entry : EntryInformation) (rows : List Numbered) → IsInOrder (entries_of rows) → AreDistinct rows → entry_of id rows ≡ Some entry → place_of name (without id rows) ≡ place_without (place_of entry.name rows) (place_of name rows)
unfolding place_of
place_of-without name id entry [] o d f = absurd cc
place_of-without name id entry (x ∷ rows) o d f = elim (cases_Bool (x.id == id)) [
  | inl e ↦ (
      let is = found_row id entry x rows e f in
      let same : x.entry.name ≡ entry.name = ap (λ (row : Numbered). row.entry.name) is in
      let not_before : is_before x.entry.name entry.name ≡ false = subst (λ (n : RdnSequence). is_before x.entry.name n ≡ false) same (before_not_itself x.entry.name) in
      let others = subst (λ (n : ℕ). AllByRecursion (λ later. later.id ≢ n) rows) (eqb-true x.id id e) d.0 in
      rw (e, not_before, keep_all id rows others) (first (cases_Bool (is_before x.entry.name name))))
  | inr e ↦ (
      let known = found_later id entry x rows e f in
      let before : is_before x.entry.name entry.name ≡ true = ap is_lt (all_known_entry (λ later. name_cmp x.entry.name later.name ≡ Less) id entry rows o.0 known) in
      let later = place_of-without name id entry rows o.1 d.1 known in
      rw (e, before) (next (cases_Bool (is_before x.entry.name name)) later))
]
  where
    first : ((is_before x.entry.name name ≡ true) ⊎ (is_before x.entry.name name ≡ false)) → front_count (stands_before name) rows ≡ place_without 0 (front_count (stands_before name) (x ∷ rows))
    first (inl g) = rw g (sym (one_before (front_count (stands_before name) rows)))
    first (inr g) = rw g (front_none (stands_before name) rows (fails_after (stands_before name) (stands_before_down name) x rows g o.0))

    next : ((is_before x.entry.name name ≡ true) ⊎ (is_before x.entry.name name ≡ false)) → front_count (stands_before name) (without id rows) ≡ place_without (front_count (stands_before entry.name) rows) (front_count (stands_before name) rows) → front_count (stands_before name) (x ∷ without id rows) ≡ place_without (suc (front_count (stands_before entry.name) rows)) (front_count (stands_before name) (x ∷ rows))
    next (inl g) later = rw g (ap suc later ∙ sym (one_more (front_count (stands_before entry.name) rows) (front_count (stands_before name) rows)))
    next (inr g) later = rw g (sym (none_before (suc (front_count (stands_before entry.name) rows))))

-- what an entry that takes a place meets
pub record IsAllowedThere (id : ℕ) (old : EntryInformation) (name : RdnSequence) (rows : List Numbered) : Type 0 where
  pub absent : has_name name (entries_of (without id rows)) ≡ false
  pub here : lacks_place id name rows ≡ false
  pub alone : (not (is_same name old.name) && has_below old.name (entries_of rows)) ≡ false

pub allowed_there : (id : ℕ) (old : EntryInformation) (name : RdnSequence) (rows : List Numbered) → refusal_in_place id name (Some old) rows ≡ None → IsAllowedThere id old name rows
allowed_there id old name rows e = by (cases_Bool (has_name name (entries_of (without id rows)))) (cases_Bool (lacks_place id name rows)) (cases_Bool (not (is_same name old.name) && has_below old.name (entries_of rows)))
  where
    by : ((has_name name (entries_of (without id rows)) ≡ true) ⊎ (has_name name (entries_of (without id rows)) ≡ false)) → ((lacks_place id name rows ≡ true) ⊎ (lacks_place id name rows ≡ false)) → (((not (is_same name old.name) && has_below old.name (entries_of rows)) ≡ true) ⊎ ((not (is_same name old.name) && has_below old.name (entries_of rows)) ≡ false)) → IsAllowedThere id old name rows
    by (inl f) g h = (let is = rw f at e in absurd cc)
    by (inr f) (inl g) h = (let is = rw (f, g) at e in absurd cc)
    by (inr f) (inr g) (inl h) = (let is = rw (f, g, h) at e in absurd cc)
    by (inr f) (inr g) (inr h) = record { absent = f; here = g; alone = h }

-- a place has a name, and is the suffix's or has its superior among the others
pub place_filled : (id : ℕ) (name : RdnSequence) (rows : List Numbered) → lacks_place id name rows ≡ false → name ≢ []
place_filled id [] rows e = absurd cc
place_filled id (rdn ∷ rdns) rows e = λ f. cc

pub place_under : (id : ℕ) (name : RdnSequence) (rows : List Numbered) → lacks_place id name rows ≡ false → (is_number id (suffix_of rows) ≡ true) ⊎ (has_name (superior_name name) (entries_of (without id rows)) ≡ true)
place_under id [] rows e = absurd cc
place_under id (rdn ∷ rdns) rows e = by (cases_Bool (is_number id (suffix_of rows))) (cases_Bool (has_name (superior_name (rdn ∷ rdns)) (entries_of (without id rows))))
  where
    by : ((is_number id (suffix_of rows) ≡ true) ⊎ (is_number id (suffix_of rows) ≡ false)) → ((has_name (superior_name (rdn ∷ rdns)) (entries_of (without id rows)) ≡ true) ⊎ (has_name (superior_name (rdn ∷ rdns)) (entries_of (without id rows)) ≡ false)) → (is_number id (suffix_of rows) ≡ true) ⊎ (has_name (superior_name (rdn ∷ rdns)) (entries_of (without id rows)) ≡ true)
    by (inl f) g = inl f
    by (inr f) (inl g) = inr g
    by (inr f) (inr g) = (let is = rw (f, g) at e in absurd cc)

-- nothing comes before the suffix
suffix_first : (id : ℕ) (old : EntryInformation) (rows : List Numbered) → IsInOrder (entries_of rows) → entry_of id rows ≡ Some old → is_number id (suffix_of rows) ≡ true → has_before old.name (entries_of rows) ≡ false
suffix_first id old [] sorted known is = absurd cc
suffix_first id old (first ∷ rows) sorted known is =
    let same : first.entry ≡ old = ap (λ (row : Numbered). row.entry) (found_row id old first rows is known) in
    subst (λ (entry : EntryInformation). has_before entry.name (first.entry ∷ entries_of rows) ≡ false) same
    (none_before_first first.entry.name first.entry (entries_of rows) (same_itself first.entry.name) sorted)

ordered_changed : (id : ℕ) (old new : EntryInformation) (rows : List Numbered) → IsOrderedTree (entries_of rows) → AreDistinct rows → entry_of id rows ≡ Some old → IsAllowedThere id old new.name rows → IsOrderedTree (entries_of (put_row (record { id = id; entry = new }) (without id rows)))
ordered_changed id old new rows ordered distinct known may =
    let others = entries_of (without id rows) in
    let back : put_in old (entries_of (without id rows)) ≡ entries_of rows = entries_of-others id old rows ordered.sorted distinct known in
    let whole : IsOrderedTree (put_in old (entries_of (without id rows))) = rw back ordered in
    let shown = entries_of-put_row (record { id = id; entry = new }) (without id rows) in
    rw shown (elim (cases_Bool (is_same new.name old.name)) [
      | inl e ↦ ordered_same old others whole new e (place_filled id new.name rows may.here)
      | inr e ↦ (
          let alone : has_below old.name (entries_of rows) ≡ false = rw e at may.alone in
          let none : has_below old.name (put_in old (entries_of (without id rows))) ≡ false = rw back alone in
          ordered_moved old others whole new none (place_filled id new.name rows may.here) may.absent (elim (place_under id new.name rows may.here) [
            | inl first ↦ inl (others_none old others whole none (rw back (suffix_first id old rows ordered.sorted known first)))
            | inr under ↦ inr under
          ]))
    ])

-- the entry changed in its slot, and its number moved to its place
pub record Changed (slots : List (Option EntryInformation)) (order : List ℕ) (id : ℕ) (entry : EntryInformation) (rows : List Numbered) : Type 0 where
  pub kept : IsKept slots order
  pub shown : rows_of slots order ≡ put_row (record { id = id; entry = entry }) (without id rows)

module _ (slots : List (Option EntryInformation)) (order : List ℕ) (id from place : ℕ) (old new : EntryInformation) (kept : IsKept slots order) (known : entry_of id (rows_of slots order) ≡ Some old) (placed : from ≡ place_of old.name (rows_of slots order)) (goes : place ≡ place_of new.name (rows_of slots order)) (may : IsAllowedThere id old new.name (rows_of slots order)) where
  there : is_some (slot_of slots id) ≡ true
  there = ap is_some (full slots order id from old kept known placed)

  to : ℕ
  to = place_without from place

  pub goes_to : place_without from place ≡ place_of new.name (without id (rows_of slots order))
  goes_to =
      rw (placed, goes)
      (sym (place_of-without new.name id old (rows_of slots order) kept.ordered.sorted (distinct_rows slots order kept.ordered.sorted) known))

  shown_changed : rows_of (set slots id (Some new)) (insert (remove order from) (place_without from place) id) ≡ put_row (record { id = id; entry = new }) (without id (rows_of slots order))
  shown_changed =
      rows_of-insert (set slots id (Some new)) (remove order from) (place_without from place) id
      ∙ ap (λ (rows : List Numbered). insert rows (place_without from place) (row_at (set slots id (Some new)) id)) (shown_set slots order id from old kept known placed (Some new))
      ∙ ap (λ (slot : Option EntryInformation). insert (without id (rows_of slots order)) (place_without from place) (record { id = id; entry = entry_in slot })) (slot_of-set slots id (Some new) (full_within slots id there))
      ∙ ap (λ (n : ℕ). insert (without id (rows_of slots order)) n (record { id = id; entry = new })) goes_to
      ∙ sym (put_row-insert (record { id = id; entry = new }) (without id (rows_of slots order)))

  used_changed : (other : ℕ) → has_id other (insert (remove order from) (place_without from place) id) ≡ is_some (slot_of (set slots id (Some new)) other)
  used_changed other =
      has_id-rows_of (set slots id (Some new)) other (insert (remove order from) (place_without from place) id)
      ∙ ap (λ (rows : List Numbered). list_any (λ row. row.id == other) rows) shown_changed
      ∙ any_put_row (λ row. row.id == other) (record { id = id; entry = new }) (without id (rows_of slots order))
      ∙ by (cases_Bool (id == other))
    where
      by : ((id == other) ≡ true) ⊎ ((id == other) ≡ false) → ((id == other) || list_any (λ row. row.id == other) (without id (rows_of slots order))) ≡ is_some (slot_of (set slots id (Some new)) other)
      by (inl e) = rw e (sym (ap (λ (n : ℕ). is_some (slot_of (set slots id (Some new)) n)) (sym (eqb-true id other e)) ∙ ap is_some (slot_of-set slots id (Some new) (full_within slots id there))))
      by (inr e) = rw e (others_without id other (rows_of slots order) e ∙ sym (has_id-rows_of slots other order) ∙ kept.used other ∙ sym (ap is_some (slot_of-set_other slots id other (Some new) e)))

  fits_left : place_without from place ≤ length (remove order from)
  fits_left =
      let long : length (rows_of slots (remove order from)) ≡ length (remove order from) = length-map (remove order from) (row_at slots) in
      let shown : length (rows_of slots (remove order from)) ≡ length (without id (rows_of slots order)) = ap length (rows_left slots order id from old kept known placed) in
      let at = goes_to in
      omega (arith, place_of-le new.name (without id (rows_of slots order)), at, sym long ∙ shown)

  pub kept_changed : Changed (set slots id (Some new)) (insert (remove order from) (place_without from place) id) id new (rows_of slots order)
  kept_changed = record {
    kept = record {
      within = rw (length-set slots id (Some new)) kept.within;
      used = used_changed;
      count =
          let longer = length-insert (remove order from) (place_without from place) id fits_left in
          let shorter = length-remove order from (place_within slots order id from old kept known placed) in
          let same = count_full-change slots id new there in
          omega (arith, longer, shorter, same, kept.count);
      ordered = rw shown_changed (ordered_changed id old new (rows_of slots order) kept.ordered (distinct_rows slots order kept.ordered.sorted) known may);
    };
    shown = shown_changed;
  }

  -- the number that moves is the entry's
  pub number_moved : get_or order from 0 ≡ id
  number_moved =
      let stands = stands_at id old (rows_of slots order) kept.ordered.sorted known in
      sym (ap (λ (row : Numbered). row.id) (get_or-map (row_at slots) order from 0 no_row (place_within slots order id from old kept known placed)))
      ∙ rw placed (ap (λ (row : Numbered). row.id) stands.row)
