-- The holders of a value, and what an index names in their place.
use Rattle.std.specs.Prelude.{◌≡◌, ℕ, ◌<◌, ◌==◌, nat_lt, Bool, true, false, ◌&&◌, ◌⊎◌, List, ◌++◌, length, map, filter, Some}
use Rattle.std.specs.List.{list_any}
use Rattle.dir_tree.specs.Entry.{EntryInformation, values_of, has_key}
use Rattle.dir_tree.specs.tree.Trees.{most_entries}
use Rattle.dir_tree.specs.tree.Numbered.{Numbered, entry_of}
use Rattle.dir_tree.specs.declared.number.EntryNo.{EntryNo}
use Rattle.value_index.specs.declared.index.Posting.{Posting}
use Rattle.value_index.specs.Hashes.{hash_of, type_hash, is_indexed}

-- how many numbers are named for a value, at most
abbrev pub most_holders : ℕ
most_holders = 128

-- whether the number is one of them
abbrev pub has_number : ℕ → List EntryNo → Bool
has_number id numbers = list_any (λ number. number.0 == id) numbers

-- the numbers have that of each entry that has the value
abbrev pub HasHolders : ℕ → List ℕ → List Numbered → List EntryNo → Type 0
HasHolders kind key rows numbers = (id : ℕ) (entry : EntryInformation) → entry_of id rows ≡ Some entry
    → has_key key (values_of kind entry.attributes) ≡ true → has_number id numbers ≡ true

-- whether the posting is under the hash, and of a number that an entry may have
abbrev pub is_under : ℕ → Posting → Bool
is_under hash posting = posting.hash == hash && nat_lt posting.number most_entries

-- the numbers under the hash
abbrev pub numbers_under : ℕ → List Posting → List ℕ
numbers_under hash postings = map (λ posting. posting.number) (filter (is_under hash) postings)

-- the numbers that are named for a value: those under its hash, and those under that of its type alone
abbrev pub numbers_for : ℕ → List ℕ → List Posting → List ℕ
numbers_for kind key postings = numbers_under (hash_of kind key) postings ++ numbers_under (type_hash kind) postings

-- none are named: values of the type are not posted, or there are too many numbers
abbrev pub NamesNone : ℕ → List ℕ → List Posting → Type 0
NamesNone kind key postings = (is_indexed kind ≡ false) ⊎ (most_holders < length (numbers_for kind key postings))
