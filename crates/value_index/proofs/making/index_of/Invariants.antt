-- The entries of the numbers so far are posted.
use Rattle.std.proofs.Common.{◌≡◌, ◌<◌, ℕ, Some}
use Rattle.dir_tree.specs.Entry.{EntryInformation}
use Rattle.dir_tree.specs.tree.Numbered.{entry_of}
use Rattle.value_index.specs.Hashes.{hashes_of}
use Rattle.value_index.specs.Postings.{IsPosted}
use Rattle.value_index.proofs.making.index_of.Given as goal

abbrev pub invariant-loop-number : goal.invariant-loop-number
invariant-loop-number l = record {
  below : (id : ℕ) (entry : EntryInformation) → id < l.number → entry_of id l.tree ≡ Some entry → IsPosted id (hashes_of entry) l.index;
}
