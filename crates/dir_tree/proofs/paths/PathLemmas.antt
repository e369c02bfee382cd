-- Slots and the map stay a tree's where an entry is put in, taken out or changed.
use Rattle.std.proofs.Common.{◌≡◌, ◌≢◌, inl, inr, ℕ, ◌<◌, ◌≤◌, ◌==◌, zero, suc, Bool, true, false, ◌||◌, List, [], ◌∷◌, length, get_or, set, Option, Some, None, refl, sym, ap, subst, ◌∙◌, arith, insert, remove, nat_lt, ◌-◌}
use Rattle.std.specs.Prelude.{is_some}
use Rattle.std.specs.Ordering.{nat_cmp, is_eq, is_lt}
use Rattle.std.specs.Map.{values_of, remove_entry}
use Rattle.std.specs.BTreeMap.{insert_entry, is_at}
use Rattle.std.specs.Cmp.Lexicographic.{slice_cmp}
use Rattle.std.proofs.lemmas.Bool.{cases_Bool, cond-false, le-ltb, eqb-true, false_from_ne_true}
use Rattle.std.proofs.lemmas.Cmp.{alike_right}
use Rattle.dn_names.specs.name.Names.{RdnSequence}
use Rattle.dn_names.specs.NameOrder.{is_same}
use Rattle.dn_names.specs.path.PathKeys.{path_key}
use Rattle.dn_names.proofs.Theorems.{name_cmp_total}
use Rattle.dir_tree.specs.Entry.{EntryInformation}
use Rattle.dir_tree.specs.tree.Trees.{is_named, is_before, has_name, has_below}
use Rattle.dir_tree.specs.tree.Numbered.{Numbered, entries_of, entry_of, without}
use Rattle.dir_tree.specs.Refusals.{insert_refusal}
use Rattle.dir_tree.specs.slots.Places.{place_of, place_without}
use Rattle.dir_tree.specs.slots.Slots.{slot_of, entry_in, rows_of, has_id, count_full, HasSameSlots, IsKept}
use Rattle.dir_tree.specs.Maps.{AreKeyed}
use Rattle.dir_tree.proofs.tree.NameLemmas.{Equal-from_same, same_itself, same_back}
use Rattle.dir_tree.proofs.tree.RootLemmas.{any_put}
use Rattle.dir_tree.proofs.slots.CountLemmas.{full_within}
use Rattle.dir_tree.proofs.slots.SlotLemmas.{rows_of-like, rows_of-set, slot_of-set, slot_of-set_other}
use Rattle.dir_tree.proofs.tree.KeptLemmas.{PutIn, allowed, put_kept, full, place_within, rows_left, shown_set, others_back, kept_without, shown_without}
use Rattle.dir_tree.proofs.replace.ReplaceLemmas.{IsAllowedThere, Changed, kept_changed, goes_to, number_moved}
use Rattle.dir_tree.proofs.tree.MapLemmas.{keys_cmp, path_key-same, values-insert, keyed-insert, keyed-remove, values-remove, insert-remove, keyed-like}

-- one name that is not the same as another has another path key
apart : (path key : List ℕ) (old new : RdnSequence) → path ≡ path_key old → key ≡ path_key new → is_same new old ≡ false → is_eq (slice_cmp nat_cmp path key) ≡ false
unfolding is_same
apart path key old new e f other = ap is_eq (keys_cmp path key old new e f) ∙ false_from_ne_true (is_same old new) (λ same. let back = same_back old new same in absurd cc)

-- a name that is the same stands at the same place
pub place_of-same : (one other : RdnSequence) (rows : List Numbered) → is_same one other ≡ true → place_of one rows ≡ place_of other rows
unfolding place_of
place_of-same one other [] e = refl
place_of-same one other (x ∷ rows) e =
    let here : is_before x.entry.name one ≡ is_before x.entry.name other = ap is_lt (alike_right name_cmp_total one other x.entry.name (Equal-from_same one other e)) in
    rw (here, place_of-same one other rows e) refl

-- what was taken out at a place and put in there
back_in : (ids : List ℕ) (place : ℕ) → place < length ids → insert (remove ids place) place (get_or ids place 0) ≡ ids
back_in [] place h = absurd (omega arith)
back_in (x ∷ ids) zero h = refl
back_in (x ∷ ids) (suc place) h = ap (λ (all : List ℕ). x ∷ all) (back_in ids place (omega arith))

same_place : (place : ℕ) → place_without place place ≡ place
same_place place = cond-false (nat_lt place place) (place - 1) place (le-ltb place place (omega arith))

-- the slots and the map after an entry came in, went, or took another's place
pub record PutPath {K : Type 0} (octets : K → List ℕ) (slots : List (Option EntryInformation)) (places : List (K × ℕ)) (id : ℕ) (entry : EntryInformation) (rows : List Numbered) : Type 0 where
  pub put : PutIn slots (values_of places) id entry rows
  pub keyed : AreKeyed octets slots places

pub record TakenPath {K : Type 0} (octets : K → List ℕ) (slots : List (Option EntryInformation)) (places : List (K × ℕ)) (id : ℕ) (rows : List Numbered) : Type 0 where
  pub kept : IsKept slots (values_of places)
  pub shown : rows_of slots (values_of places) ≡ without id rows
  pub keyed : AreKeyed octets slots places

pub record ChangedPath {K : Type 0} (octets : K → List ℕ) (slots : List (Option EntryInformation)) (places : List (K × ℕ)) (id : ℕ) (entry : EntryInformation) (rows : List Numbered) : Type 0 where
  pub changed : Changed slots (values_of places) id entry rows
  pub keyed : AreKeyed octets slots places

module _ {K : Type 0} (octets : K → List ℕ) (slots : List (Option EntryInformation)) (places : List (K × ℕ)) (kept : IsKept slots (values_of places)) (keyed : AreKeyed octets slots places) where
  -- put in, in a slot that was empty
  pub put_path : (other : List (Option EntryInformation)) (rows : List Numbered) (id : ℕ) (entry : EntryInformation) (key : K) → rows_of slots (values_of places) ≡ rows → HasSameSlots slots other → count_full other ≡ length (values_of places) → length other ≤ 200000 → id < length other → slot_of other id ≡ None → entry.name ≢ [] → insert_refusal entry.name (entries_of rows) ≡ None → octets key ≡ path_key entry.name → PutPath octets (set other id (Some entry)) (insert_entry (λ one other. slice_cmp nat_cmp (octets one) (octets other)) places key id) id entry rows
  put_path other rows id entry key view same count within there empty named free e =
      let none : has_name entry.name (entries_of (rows_of slots (values_of places))) ≡ false = rw view (allowed entry.name (entries_of rows) free).absent in
      let values = values-insert octets slots key entry.name id places e keyed none in
      let base = put_kept slots other (values_of places) (values_of places) rows id (place_of entry.name (rows_of slots (values_of places))) entry kept view same count within there empty (ap (place_of entry.name) view) named free refl in
      let unused : has_id id (values_of places) ≡ false = kept.used id ∙ ap is_some (sym (same id) ∙ empty) in
      let like : rows_of (set other id (Some entry)) (values_of places) ≡ rows_of slots (values_of places) = rows_of-set other (values_of places) id (Some entry) unused ∙ rows_of-like slots other (values_of places) (λ id _. same id) in
      let named_so = ap (λ (slot : Option EntryInformation). path_key (entry_in slot).name) (slot_of-set other id (Some entry) there) in
      record {
        put = subst (λ (ids : List ℕ). PutIn (set other id (Some entry)) ids id entry rows) (sym values) base;
        keyed = keyed-insert octets (set other id (Some entry)) key id places (e ∙ sym named_so) (keyed-like octets slots (set other id (Some entry)) places like keyed);
      }

  module _ (id : ℕ) (old : EntryInformation) (path : List ℕ) (known : entry_of id (rows_of slots (values_of places)) ≡ Some old) (is : path ≡ path_key old.name) where
    abbrev from : ℕ
    from = place_of old.name (rows_of slots (values_of places))

    there : has_name old.name (entries_of (rows_of slots (values_of places))) ≡ true
    there =
        subst (λ (all : List EntryInformation). has_name old.name all ≡ true) (others_back slots (values_of places) id from old kept known refl)
        (any_put (is_named old.name) old (entries_of (without id (rows_of slots (values_of places))))
        ∙ ap (λ (b : Bool). b || has_name old.name (entries_of (without id (rows_of slots (values_of places))))) (same_itself old.name))

    values_left : values_of (remove_entry (is_at (λ key. slice_cmp nat_cmp path (octets key))) places) ≡ remove (values_of places) (place_of old.name (rows_of slots (values_of places)))
    values_left = values-remove octets slots path old.name places is keyed kept.ordered.sorted there

    rows_without : rows_of slots (values_of (remove_entry (is_at (λ key. slice_cmp nat_cmp path (octets key))) places)) ≡ without id (rows_of slots (values_of places))
    rows_without = ap (rows_of slots) values_left ∙ rows_left slots (values_of places) id from old kept known refl

    like_left : (slot : Option EntryInformation) → rows_of (set slots id slot) (values_of (remove_entry (is_at (λ key. slice_cmp nat_cmp path (octets key))) places)) ≡ rows_of slots (values_of (remove_entry (is_at (λ key. slice_cmp nat_cmp path (octets key))) places))
    like_left slot = ap (rows_of (set slots id slot)) values_left ∙ shown_set slots (values_of places) id from old kept known refl slot ∙ sym rows_without

    -- taken out
    pub taken_path : has_below old.name (entries_of (rows_of slots (values_of places))) ≡ false → TakenPath octets (set slots id None) (remove_entry (is_at (λ key. slice_cmp nat_cmp path (octets key))) places) id (rows_of slots (values_of places))
    taken_path alone = record {
      kept = subst (λ (ids : List ℕ). IsKept (set slots id None) ids) (sym values_left) (kept_without slots (values_of places) id from old kept known refl alone);
      shown = ap (rows_of (set slots id None)) values_left ∙ shown_without slots (values_of places) id from old kept known refl;
      keyed = keyed-like octets slots (set slots id None) (remove_entry (is_at (λ key. slice_cmp nat_cmp path (octets key))) places) (like_left None) (keyed-remove octets slots (is_at (λ key. slice_cmp nat_cmp path (octets key))) places keyed);
    }

    -- changed, under another name
    pub moved_path : (new : EntryInformation) (key : K) → IsAllowedThere id old new.name (rows_of slots (values_of places)) → is_same new.name old.name ≡ false → octets key ≡ path_key new.name → ChangedPath octets (set slots id (Some new)) (remove_entry (is_at (λ key. slice_cmp nat_cmp path (octets key))) (insert_entry (λ one other. slice_cmp nat_cmp (octets one) (octets other)) places key id)) id new (rows_of slots (values_of places))
    moved_path new key may differs e =
        let absent : has_name new.name (entries_of (rows_of slots (values_of places))) ≡ false =
        subst (λ (all : List EntryInformation). has_name new.name all ≡ false) (others_back slots (values_of places) id from old kept known refl)
        (any_put (is_named new.name) old (entries_of (without id (rows_of slots (values_of places)))) ∙ rw differs may.absent) in
        let left : List (K × ℕ) = remove_entry (is_at (λ key. slice_cmp nat_cmp path (octets key))) places in
        let swap = insert-remove octets slots key id (is_at (λ key. slice_cmp nat_cmp path (octets key))) new.name places e (apart path (octets key) old.name new.name is e differs) keyed kept.ordered.sorted absent in
        let keyed_left = keyed-remove octets slots (is_at (λ key. slice_cmp nat_cmp path (octets key))) places keyed in
        let none_left = subst (λ (rows : List Numbered). has_name new.name (entries_of rows) ≡ false) (sym rows_without) may.absent in
        let put = values-insert octets slots key new.name id left e keyed_left none_left in
        let place : ℕ = place_of new.name (rows_of slots (values_of places)) in
        let all =
        ap values_of swap ∙ put
        ∙ ap (λ (n : ℕ). insert (values_of left) n id) (ap (place_of new.name) rows_without ∙ sym (goes_to slots (values_of places) id from place old new kept known refl refl may))
        ∙ ap (λ (ids : List ℕ). insert ids (place_without from place) id) values_left in
        let base = kept_changed slots (values_of places) id from place old new kept known refl refl may in
        let within = full_within slots id (ap is_some (full slots (values_of places) id from old kept known refl)) in
        let named_so = ap (λ (slot : Option EntryInformation). path_key (entry_in slot).name) (slot_of-set slots id (Some new) within) in
        record {
          changed = subst (λ (ids : List ℕ). Changed (set slots id (Some new)) ids id new (rows_of slots (values_of places))) (sym all) base;
          keyed = subst (AreKeyed octets (set slots id (Some new))) (sym swap)
              (keyed-insert octets (set slots id (Some new)) key id left (e ∙ sym named_so) (keyed-like octets slots (set slots id (Some new)) left (like_left (Some new)) keyed_left));
        }

-- changed, under a name that is the same
keyed_changed : {K : Type 0} (octets : K → List ℕ) (slots : List (Option EntryInformation)) (places : List (K × ℕ)) (id : ℕ) (old new : EntryInformation) → slot_of slots id ≡ Some old → id < length slots → is_same new.name old.name ≡ true → AreKeyed octets slots places → AreKeyed octets (set slots id (Some new)) places
keyed_changed octets slots [] id old new whole within same keyed = tt
keyed_changed octets slots (x ∷ places) id old new whole within same keyed = (
  elim (cases_Bool (id == x.1)) [
    | inl e ↦ (
        let was : octets x.0 ≡ path_key (entry_in (slot_of slots id)).name = keyed.0 ∙ ap (λ (n : ℕ). path_key (entry_in (slot_of slots n)).name) (sym (eqb-true id x.1 e)) in
        let stays : octets x.0 ≡ path_key new.name = was ∙ ap (λ (slot : Option EntryInformation). path_key (entry_in slot).name) whole ∙ sym (path_key-same new.name old.name same) in
        stays ∙ sym (ap (λ (slot : Option EntryInformation). path_key (entry_in slot).name) (slot_of-set slots id (Some new) within))
        ∙ ap (λ (n : ℕ). path_key (entry_in (slot_of (set slots id (Some new)) n)).name) (eqb-true id x.1 e))
    | inr e ↦ keyed.0 ∙ sym (ap (λ (slot : Option EntryInformation). path_key (entry_in slot).name) (slot_of-set_other slots id x.1 (Some new) e))
  ],
  keyed_changed octets slots places id old new whole within same keyed.1,
)

pub kept_path : {K : Type 0} (octets : K → List ℕ) (slots : List (Option EntryInformation)) (places : List (K × ℕ)) → IsKept slots (values_of places) → AreKeyed octets slots places → (id : ℕ) (old new : EntryInformation) → entry_of id (rows_of slots (values_of places)) ≡ Some old → IsAllowedThere id old new.name (rows_of slots (values_of places)) → is_same new.name old.name ≡ true → ChangedPath octets (set slots id (Some new)) places id new (rows_of slots (values_of places))
kept_path octets slots places kept keyed id old new known may same =
    let rows : List Numbered = rows_of slots (values_of places) in
    let from : ℕ = place_of old.name (rows_of slots (values_of places)) in
    let place : ℕ = place_of new.name (rows_of slots (values_of places)) in
    let at : place ≡ from = place_of-same new.name old.name rows same in
    let base = kept_changed slots (values_of places) id from place old new kept known refl refl may in
    let whole = full slots (values_of places) id from old kept known refl in
    let moved = number_moved slots (values_of places) id from place old new kept known refl refl may in
    let all : insert (remove (values_of places) from) (place_without from place) id ≡ values_of places =
    ap (λ (n : ℕ). insert (remove (values_of places) from) n id) (ap (place_without from) at ∙ same_place from)
    ∙ ap (λ (n : ℕ). insert (remove (values_of places) from) from n) (sym moved)
    ∙ back_in (values_of places) from (place_within slots (values_of places) id from old kept known refl) in
    record {
      changed = subst (λ (ids : List ℕ). Changed (set slots id (Some new)) ids id new (rows_of slots (values_of places))) all base;
      keyed = keyed_changed octets slots places id old new whole (full_within slots id (ap is_some whole)) same keyed;
    }
