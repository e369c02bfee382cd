-- Postings: numbers of entries, each under a hash. Of an index of a tree each entry is posted under its hashes.
use Rattle.std.specs.Prelude.{◌≡◌, ◌≢◌, ℕ, ◌==◌, Bool, true, not, ◌&&◌, ◌||◌, List, Some}
use Rattle.std.specs.List.{list_any}
use Rattle.std.specs.Ordering.{nat_cmp, ordering_then, is_eq}
use Rattle.std.specs.declared.cmp.Ordering.{Ordering}
use Rattle.dir_tree.specs.Entry.{EntryInformation}
use Rattle.dir_tree.specs.tree.Numbered.{Numbered, entry_of}
use Rattle.value_index.specs.declared.index.Posting.{Posting}
use Rattle.value_index.specs.Hashes.{has_hash, hashes_of}

-- the order of postings: by hash, and then by number
abbrev pub posting_cmp : Posting → Posting → Ordering
posting_cmp one other = ordering_then (nat_cmp one.hash other.hash) (nat_cmp one.number other.number)

-- whether the number is posted under the hash
abbrev pub has_posting : ℕ → ℕ → List Posting → Bool
has_posting hash id postings = list_any (λ posting. is_eq (posting_cmp (record { hash = hash; number = id }) posting)) postings

-- the number is posted under each of the hashes
abbrev pub IsPosted : ℕ → List ℕ → List Posting → Type 0
IsPosted id hashes postings = (hash : ℕ) → has_hash hash hashes ≡ true → has_posting hash id postings ≡ true

-- each entry is posted under its hashes; there may be further postings
abbrev pub IsIndexed : List Posting → List Numbered → Type 0
IsIndexed postings rows = (id : ℕ) (entry : EntryInformation) → entry_of id rows ≡ Some entry → IsPosted id (hashes_of entry) postings

-- all postings stay
abbrev pub AllStay : List Posting → List Posting → Type 0
AllStay old new = (hash id : ℕ) → has_posting hash id old ≡ true → has_posting hash id new ≡ true

-- the postings of other numbers are the same
abbrev pub OthersStay : ℕ → List Posting → List Posting → Type 0
OthersStay id old new = (hash other : ℕ) → other ≢ id → has_posting hash other new ≡ has_posting hash other old

-- the number is posted under the hashes beside all that was posted
abbrev pub IsAdded : ℕ → List ℕ → List Posting → List Posting → Type 0
IsAdded number hashes old new =
    (hash id : ℕ) → has_posting hash id new ≡ (has_posting hash id old || (number == id && has_hash hash hashes))

-- the number is posted no more under those of the hashes that are not kept; all other postings stay
abbrev pub IsDropped : ℕ → List ℕ → List ℕ → List Posting → List Posting → Type 0
IsDropped number hashes kept old new =
    (hash id : ℕ) → has_posting hash id new
    ≡ (has_posting hash id old && not (number == id && (has_hash hash hashes && not (has_hash hash kept))))
