-- Which entries are taken out, and whose place is given to another.
use Rattle.std.specs.Prelude.{◌≡◌, ℕ, false, List, Some, None}
use Rattle.dn_names.specs.name.Names.{RdnSequence}
use Rattle.dir_tree.specs.Entry.{EntryInformation}
use Rattle.dir_tree.specs.tree.Trees.{has_below}
use Rattle.dir_tree.specs.tree.Numbered.{Numbered, entries_of, entry_of}
use Rattle.dir_tree.specs.Refusals.{refusal_in_place}

-- the number is that of an entry, below which none stands
pub record IsRemovable (id : ℕ) (rows : List Numbered) : Type 0 where
  pub entry : EntryInformation
  pub known : entry_of id rows ≡ Some entry
  pub alone : has_below entry.name (entries_of rows) ≡ false

-- the number is that of an entry, whose place an entry of the name may take
pub record IsReplaceable (id : ℕ) (name : RdnSequence) (rows : List Numbered) : Type 0 where
  pub entry : EntryInformation
  pub known : entry_of id rows ≡ Some entry
  pub allowed : refusal_in_place id name (Some entry) rows ≡ None
