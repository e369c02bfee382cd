-- Files by name, as a shelf that tells has them, and what a reading of one gives.
use Rattle.std.specs.Prelude.{◌≡◌, ℕ, ◌≤◌, List, [], ◌∷◌, take, drop, length, Option, Some, None, Result, Ok, Err, nat_eq, if◌then◌else◌}
use Rattle.std.specs.Cmp.Lexicographic.{pointwise}
use Rattle.plain_values.specs.Counts.{Rose}
use Rattle.wire_io.specs.declared.answers.FetchFault.{FetchFault}
use Rattle.wire_io.specs.declared.answers.FetchFault.TheVariants.{Absent, Failed, NoMemory}

-- files, each a name and its octets; of two of one name the first counts
abbrev pub Files : Type 0
Files = List (List ℕ × List ℕ)

-- the octets of the file of the name
unfoldable pub file_of : List ℕ → Files → Option (List ℕ)
file_of name [] = None
file_of name (file ∷ files) = if pointwise nat_eq name file.0 then Some file.1 else file_of name files

-- so many octets at the front of the buffer are those of the content from the place on, and there are
-- none only at its end
unfoldable pub ReadsFrom : List ℕ → ℕ → List ℕ → ℕ → Type 0
ReadsFrom content from buf count = (take count buf ≡ take count (drop from content)) × (count ≡ 0 → length content ≤ from)

-- the file is there and was read
unfoldable pub ReadsFile : Option (List ℕ) → ℕ → List ℕ → ℕ → Type 0
ReadsFile None from buf count = ⊥
ReadsFile (Some content) from buf count = ReadsFrom content from buf count

-- what an answer of `fetch` says of the buffer, where the shelf tells
unfoldable pub FetchGives : Option Files → List ℕ → ℕ → List ℕ → Result ℕ FetchFault → Type 0
FetchGives None name from buf result = Unit {0}
FetchGives (Some files) name from buf (Ok count) = ReadsFile (file_of name files) from buf count
FetchGives (Some files) name from buf (Err fault) = Unit {0}

-- the shelf tells its files, and the name is none of theirs
unfoldable pub Lacks : Option Files → List ℕ → Type 0
Lacks None name = ⊥
Lacks (Some files) name = file_of name files ≡ None

-- when each answer of `fetch` may come; the count of faults rises with a fault and is otherwise as it was
unfoldable pub FetchCause : Option Files → List ℕ → ℕ → ℕ → Result ℕ FetchFault → Type 0
FetchCause files name before after (Ok count) = after ≡ before
FetchCause files name before after (Err Absent) = Lacks files name × (after ≡ before)
FetchCause files name before after (Err Failed) = Rose before after
FetchCause files name before after (Err NoMemory) = after ≡ before
