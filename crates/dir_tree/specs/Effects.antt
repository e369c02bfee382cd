-- What calls make of a tree that is known by numbers, and what they answer: an entry put in, taken out, or put in the place
-- of another. Where a call refuses, nothing changes.
use Rattle.std.specs.Prelude.{◌≡◌, ◌⊎◌, ℕ, List, Some, None, Result, Ok, Err}
use Rattle.dir_tree.specs.Entry.{EntryInformation}
use Rattle.dir_tree.specs.tree.Numbered.{Numbered, entries_of, entry_of, put_entry, without}
use Rattle.dir_tree.specs.Refusals.{insert_refusal, remove_refusal, replace_refusal}
use Rattle.dir_tree.specs.declared.number.EntryNo.{EntryNo}
use Rattle.dir_tree.specs.declared.refusals.InsertRefusal.{InsertRefusal}
use Rattle.dir_tree.specs.declared.refusals.InsertRefusal.TheVariants as inserting
use Rattle.dir_tree.specs.declared.refusals.RemoveRefusal.{RemoveRefusal}
use Rattle.dir_tree.specs.declared.refusals.RemoveRefusal.TheVariants as removing
use Rattle.dir_tree.specs.declared.refusals.ReplaceRefusal.{ReplaceRefusal}
use Rattle.dir_tree.specs.declared.refusals.ReplaceRefusal.TheVariants as replacing

-- the entry was put in, by a number that was not in use
pub record IsInserted (entry : EntryInformation) (before : List Numbered) (id : ℕ) (after : List Numbered) : Type 0 where
  pub free : entry_of id before ≡ None
  pub left : after ≡ put_entry id entry before

-- the entry of the number was taken out
pub record IsRemoved (id : ℕ) (before : List Numbered) (entry : EntryInformation) (after : List Numbered) : Type 0 where
  pub found : entry_of id before ≡ Some entry
  pub left : after ≡ without id before

-- the new entry was put in the place of the old one, and has its number
pub record IsReplaced (id : ℕ) (new : EntryInformation) (before : List Numbered) (old : EntryInformation) (after : List Numbered) : Type 0 where
  pub found : entry_of id before ≡ Some old
  pub left : after ≡ put_entry id new (without id before)

-- an entry that is not refused is put in: only want of memory stops it
abbrev pub InsertsAllowed : {E : Type 0} → EntryInformation → List Numbered → Result EntryNo E → List Numbered → Type 0
InsertsAllowed entry before (Ok number) after = IsInserted entry before number.0 after
InsertsAllowed entry before (Err error) after = after ≡ before

-- the entry is put in, unless it is refused; want of memory may come before the other causes
abbrev pub Inserts : EntryInformation → List Numbered → Result EntryNo InsertRefusal → List Numbered → Type 0
Inserts entry before (Ok number) after =
    IsInserted entry before number.0 after × (insert_refusal entry.name (entries_of before) ≡ None)
Inserts entry before (Err refusal) after =
    ((refusal ≡ inserting.NoMemory) ⊎ (insert_refusal entry.name (entries_of before) ≡ Some refusal)) × (after ≡ before)

-- the entry of the number is taken out, unless that is refused; no memory is wanted
abbrev pub RemovesWithoutMemory : ℕ → List Numbered → Result EntryInformation RemoveRefusal → List Numbered → Type 0
RemovesWithoutMemory id before (Ok entry) after = IsRemoved id before entry after × (remove_refusal id before ≡ None)
RemovesWithoutMemory id before (Err refusal) after = (remove_refusal id before ≡ Some refusal) × (after ≡ before)

-- the entry of the number is taken out, unless that is refused; want of memory may come before the other causes
abbrev pub Removes : ℕ → List Numbered → Result EntryInformation RemoveRefusal → List Numbered → Type 0
Removes id before (Ok entry) after = IsRemoved id before entry after × (remove_refusal id before ≡ None)
Removes id before (Err refusal) after =
    ((refusal ≡ removing.NoMemory) ⊎ (remove_refusal id before ≡ Some refusal)) × (after ≡ before)

-- an entry that is not refused takes the place of that of the number: only want of memory stops it
abbrev pub ReplacesAllowed : {E : Type 0} → ℕ → EntryInformation → List Numbered → Result EntryInformation E → List Numbered → Type 0
ReplacesAllowed id new before (Ok old) after = IsReplaced id new before old after
ReplacesAllowed id new before (Err error) after = after ≡ before

-- the entry takes the place of that of the number, unless it is refused; want of memory may be a cause
abbrev pub Replaces : ℕ → EntryInformation → List Numbered → Result EntryInformation ReplaceRefusal → List Numbered → Type 0
Replaces id new before (Ok old) after = IsReplaced id new before old after × (replace_refusal id new.name before ≡ None)
Replaces id new before (Err refusal) after =
    ((refusal ≡ replacing.NoMemory) ⊎ (replace_refusal id new.name before ≡ Some refusal)) × (after ≡ before)
