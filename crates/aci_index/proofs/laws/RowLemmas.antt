-- Trees whose entries have numbers, equal but for one number.
use Rattle.std.proofs.Common.{◌≡◌, ℕ, List, ap, sym, ◌∙◌, Option, Some, None}
use Rattle.dir_tree.specs.Entry.{EntryInformation}
use Rattle.dir_tree.specs.tree.Numbered.{Numbered, entries_of, entry_of, put_entry, without, IsNumberedTree}
use Rattle.dir_tree.proofs.TreeTheorems.{put_row-taken, entries_of-put_row, without-put_row, entry_of-put, entry_of-gone, without-absent}
use Rattle.acdf_filters.specs.admin_scope.InForce.{in_force}
use Rattle.aci_index.specs.Aside.{put_some, IsAside, IsChangeOf}
use Rattle.aci_index.proofs.laws.ForceLemmas.{in_force-put_some}

-- the entries are those of the other numbers, and that of the number put in
entries-put_some : (id : ℕ) (rows : List Numbered) (one : Option EntryInformation) → IsNumberedTree rows
    → entry_of id rows ≡ one → entries_of rows ≡ put_some one (entries_of (without id rows))
entries-put_some id rows None tree e = ap entries_of (sym (without-absent id rows e))
entries-put_some id rows (Some one) tree e =
    let row : Numbered = record { id = id; entry = one } in
    ap entries_of (sym (put_row-taken id one rows tree e)) ∙ entries_of-put_row row (without id rows)

-- so what is in force in one is in force in the other
pub in_force-aside : (id : ℕ) (rows new : List Numbered) (one other : Option EntryInformation) (entry : EntryInformation)
    → IsNumberedTree rows → IsNumberedTree new → IsChangeOf id rows new one other → IsAside entry one other
    → in_force (entries_of rows) entry ≡ in_force (entries_of new) entry
in_force-aside id rows new one other entry tree also change aside =
    ap (λ entries. in_force entries entry) (entries-put_some id rows one tree change.before)
    ∙ in_force-put_some entry one other (entries_of (without id rows)) aside
    ∙ ap (λ others. in_force (put_some other (entries_of others)) entry) change.others
    ∙ sym (ap (λ entries. in_force entries entry) (entries-put_some id new other also change.after))

-- so the three changes of a tree are of one number
pub change-put : (id : ℕ) (entry : EntryInformation) (rows : List Numbered) → entry_of id rows ≡ None
    → IsChangeOf id rows (put_entry id entry rows) None (Some entry)
change-put id entry rows e = record {
  others = without-absent id rows e ∙ sym (without-put_row id entry rows e);
  before = e;
  after = entry_of-put id entry rows e;
}

pub change-taken : (id : ℕ) (old : EntryInformation) (rows : List Numbered) → entry_of id rows ≡ Some old
    → IsChangeOf id rows (without id rows) (Some old) None
change-taken id old rows e = record {
  others = sym (without-absent id (without id rows) (entry_of-gone id rows));
  before = e;
  after = entry_of-gone id rows;
}

pub change-replaced : (id : ℕ) (old entry : EntryInformation) (rows : List Numbered) → entry_of id rows ≡ Some old
    → IsChangeOf id rows (put_entry id entry (without id rows)) (Some old) (Some entry)
change-replaced id old entry rows e = record {
  others = sym (without-put_row id entry (without id rows) (entry_of-gone id rows));
  before = e;
  after = entry_of-put id entry (without id rows) (entry_of-gone id rows);
}
