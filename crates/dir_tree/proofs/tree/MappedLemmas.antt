-- A tree as it is kept, where an entry takes another's place, and where it is put back.
use Rattle.std.proofs.Common.{◌≡◌, ℕ, ◌==◌, not, Bool, true, false, List, set, Option, Some, None, refl, sym, ap, subst, ◌∙◌}
use Rattle.std.specs.Option.{option_map_or}
use Rattle.std.specs.Ordering.{nat_cmp}
use Rattle.std.specs.Map.{values_of, remove_entry}
use Rattle.std.specs.BTreeMap.{insert_entry, is_at}
use Rattle.std.specs.Cmp.Lexicographic.{slice_cmp}
use Rattle.std.proofs.lemmas.List.{set-set, set-get_or}
use Rattle.dn_names.specs.NameOrder.{is_same}
use Rattle.dn_names.specs.path.PathKeys.{path_key}
use Rattle.dir_tree.specs.Entry.{EntryInformation}
use Rattle.dir_tree.specs.tree.Trees.{put_in, IsInOrder}
use Rattle.dir_tree.specs.tree.Numbered.{Numbered, ids_of, subentry_rows, entries_of, entry_of, put_row, without}
use Rattle.dir_tree.specs.slots.Places.{place_of}
use Rattle.dir_tree.specs.slots.Slots.{slot_of, rows_of, listed_in, unlisted, IsKept}
use Rattle.dir_tree.specs.Maps.{HasSamePlaces, IsMapped}
use Rattle.dir_tree.specs.Removals.{IsReplaceable}
use Rattle.dir_tree.proofs.slots.SlotLemmas.{entry_of-rows_of}
use Rattle.dir_tree.proofs.subentries.AccessLemmas.{own_rows_of, own_filter, listed-put, unlisted-without}
use Rattle.dir_tree.proofs.tree.RootLemmas.{sorted_left}
use Rattle.dir_tree.proofs.tree.KeptLemmas.{others_back}
use Rattle.dir_tree.proofs.replace.ReplaceLemmas.{IsAllowedThere, allowed_there}
use Rattle.dir_tree.proofs.paths.PathLemmas.{ChangedPath, kept_path, moved_path}
use Rattle.dir_tree.proofs.paths.CopyLemmas.{values-same, keyed-same}

-- the slots, the map and the listed numbers after an entry took another's place
pub record ChangedMap {K : Type 0} (octets : K → List ℕ) (slots : List (Option EntryInformation)) (places : List (K × ℕ)) (numbers : List ℕ) (id : ℕ) (old new : EntryInformation) (rows : List Numbered) : Type 0 where
  pub known : entry_of id rows ≡ Some old
  pub mapped : IsMapped octets slots places numbers
  pub shown : rows_of slots (values_of places) ≡ put_row (record { id = id; entry = new }) (without id rows)

module _ {K : Type 0} (octets : K → List ℕ) (slots : List (Option EntryInformation)) (places : List (K × ℕ)) (listed : List ℕ) (mapped : IsMapped octets slots places listed) (id : ℕ) (old new : EntryInformation) (found : slot_of slots id ≡ Some old) (numbers : List ℕ) (lists : numbers ≡ listed_in slots new id (unlisted id listed)) where
  abbrev before : List Numbered
  before = rows_of slots (values_of places)

  known : entry_of id (rows_of slots (values_of places)) ≡ Some old
  known = entry_of-rows_of slots (values_of places) id (mapped.kept.used id) ∙ found

  allowed : IsReplaceable id new.name (rows_of slots (values_of places)) → IsAllowedThere id old new.name (rows_of slots (values_of places))
  allowed may =
      let both : Some old ≡ Some may.entry = sym known ∙ may.known in
      let same : may.entry ≡ old = cc in
      subst (λ (entry : EntryInformation). IsAllowedThere id entry new.name (rows_of slots (values_of places))) same
      (allowed_there id may.entry new.name (rows_of slots (values_of places)) may.allowed)

  called_so : (b : Bool) → option_map_or (λ old. is_same new.name old.name) (entry_of id (rows_of slots (values_of places))) false ≡ b → is_same new.name old.name ≡ b
  called_so b e = sym (ap (λ (entry : Option EntryInformation). option_map_or (λ old. is_same new.name old.name) entry false) known) ∙ e

  -- the numbers that are listed are those of the access control subentries
  listed_so : numbers ≡ ids_of (subentry_rows (put_row (record { id = id; entry = new }) (without id (rows_of slots (values_of places)))))
  listed_so =
      let back = others_back slots (values_of places) id (place_of old.name (rows_of slots (values_of places))) old mapped.kept known refl in
      let whole : IsInOrder (put_in old (entries_of (without id (rows_of slots (values_of places))))) = rw back mapped.kept.ordered.sorted in
      let sorted = sorted_left old (entries_of (without id (rows_of slots (values_of places)))) whole in
      lists
      ∙ ap (λ (all : List ℕ). listed_in slots new id (unlisted id all)) mapped.listed
      ∙ ap (listed_in slots new id) (unlisted-without id (rows_of slots (values_of places)))
      ∙ listed-put slots id new (without id (rows_of slots (values_of places))) (own_filter slots (λ row. not (row.id == id)) (rows_of slots (values_of places)) (own_rows_of slots (values_of places))) sorted

  changed_so : (others : List (K × ℕ)) → ChangedPath octets (set slots id (Some new)) others id new (rows_of slots (values_of places)) → ChangedMap octets (set slots id (Some new)) others numbers id old new (rows_of slots (values_of places))
  changed_so others done = record {
    known = known;
    mapped = record {
      kept = done.changed.kept;
      keyed = done.keyed;
      listed = listed_so ∙ sym (ap (λ (all : List Numbered). ids_of (subentry_rows all)) done.changed.shown);
    };
    shown = done.changed.shown;
  }

  -- under a name that is the same the path keys stay
  here : IsReplaceable id new.name (rows_of slots (values_of places)) → option_map_or (λ old. is_same new.name old.name) (entry_of id (rows_of slots (values_of places))) false ≡ true → ChangedMap octets (set slots id (Some new)) places numbers id old new (rows_of slots (values_of places))
  here may called = changed_so places (kept_path octets slots places mapped.kept mapped.keyed id old new known (allowed may) (called_so true called))

  pub changed_here : (rows : List Numbered) → rows_of slots (values_of places) ≡ rows → IsReplaceable id new.name rows → option_map_or (λ old. is_same new.name old.name) (entry_of id rows) false ≡ true → ChangedMap octets (set slots id (Some new)) places numbers id old new rows
  changed_here rows view = subst (λ (rows : List Numbered). IsReplaceable id new.name rows → option_map_or (λ old. is_same new.name old.name) (entry_of id rows) false ≡ true → ChangedMap octets (set slots id (Some new)) places numbers id old new rows) view here

  -- under another name its path key comes in, and the old one goes
  module _ (key : K) (path : List ℕ) (is : octets key ≡ path_key new.name) (was : path ≡ path_key old.name) where
    moved : IsReplaceable id new.name (rows_of slots (values_of places)) → option_map_or (λ old. is_same new.name old.name) (entry_of id (rows_of slots (values_of places))) false ≡ false → ChangedMap octets (set slots id (Some new)) (remove_entry (is_at (λ key. slice_cmp nat_cmp path (octets key))) (insert_entry (λ one other. slice_cmp nat_cmp (octets one) (octets other)) places key id)) numbers id old new (rows_of slots (values_of places))
    moved may called =
        changed_so (remove_entry (is_at (λ key. slice_cmp nat_cmp path (octets key))) (insert_entry (λ one other. slice_cmp nat_cmp (octets one) (octets other)) places key id))
        (moved_path octets slots places mapped.kept mapped.keyed id old path known was new key (allowed may) (called_so false called) is)

    pub changed_path : (rows : List Numbered) → rows_of slots (values_of places) ≡ rows → IsReplaceable id new.name rows → option_map_or (λ old. is_same new.name old.name) (entry_of id rows) false ≡ false → ChangedMap octets (set slots id (Some new)) (remove_entry (is_at (λ key. slice_cmp nat_cmp path (octets key))) (insert_entry (λ one other. slice_cmp nat_cmp (octets one) (octets other)) places key id)) numbers id old new rows
    changed_path rows view = subst (λ (rows : List Numbered). IsReplaceable id new.name rows → option_map_or (λ old. is_same new.name old.name) (entry_of id rows) false ≡ false → ChangedMap octets (set slots id (Some new)) (remove_entry (is_at (λ key. slice_cmp nat_cmp path (octets key))) (insert_entry (λ one other. slice_cmp nat_cmp (octets one) (octets other)) places key id)) numbers id old new rows) view moved

-- a copy of the map does as well
pub mapped_copy : {K : Type 0} (octets : K → List ℕ) (slots : List (Option EntryInformation)) (places others : List (K × ℕ)) (listed : List ℕ) → HasSamePlaces octets places others → IsMapped octets slots places listed → IsMapped octets slots others listed
mapped_copy octets slots places others listed same mapped = (
    let values = values-same octets places others same in
    record {
      kept = subst (IsKept slots) (sym values) mapped.kept;
      keyed = keyed-same octets slots places others same mapped.keyed;
      listed = mapped.listed ∙ ap (λ (order : List ℕ). ids_of (subentry_rows (rows_of slots order))) (sym values);
    })

-- the slot has again what it had
pub set_back : (slots : List (Option EntryInformation)) (id : ℕ) (old : EntryInformation) (other : Option EntryInformation) → slot_of slots id ≡ Some old → set (set slots id other) id (Some old) ≡ slots
set_back slots id old other found =
    set-set slots id other (Some old) ∙ ap (set slots id) (sym found) ∙ set-get_or slots id None
