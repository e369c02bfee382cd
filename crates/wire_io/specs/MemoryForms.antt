-- The forms in memory: what they hold, and what each of their calls does.
use Rattle.std.specs.Prelude.{◌≡◌, ℕ, ◌-◌, true, false, List, ◌++◌, length, map, min, Option, Some, None, Result, Ok, Err, String, Vec, string_bytes}
use Rattle.std.specs.Global.{Global}
use Rattle.plain_values.specs.Counts.{next_count}
pub use Rattle.plain_values.specs.Numbers.{has as is_listed}
use Rattle.wire_io.specs.declared.answers.FetchFault.{FetchFault}
use Rattle.wire_io.specs.declared.answers.FetchFault.TheVariants as fetch
use Rattle.wire_io.specs.declared.answers.PutFault.{PutFault}
use Rattle.wire_io.specs.declared.answers.PutFault.TheVariants.{Failed, NoMemory}
use Rattle.wire_io.specs.Files.{Files, file_of}

-- a sink in memory: the octets put, the numbers of the calls that fail, how many calls there were, and
-- how many faults
pub record SinkState : Type 0 where
  pub put : List ℕ
  pub failing : List ℕ
  pub calls : ℕ
  pub faults : ℕ

-- the sink takes the piece whole, or fails exactly at a listed call
unfoldable pub SinkWrites : SinkState → List ℕ → Result ℕ PutFault → SinkState → Type 0
SinkWrites old octets (Ok count) new = (is_listed old.calls old.failing ≡ false) × (count ≡ length octets)
    × (new ≡ record old { put = old.put ++ octets; calls = next_count old.calls })
SinkWrites old octets (Err Failed) new = (is_listed old.calls old.failing ≡ true)
    × (new ≡ record old { calls = next_count old.calls; faults = next_count old.faults })
SinkWrites old octets (Err NoMemory) new = (is_listed old.calls old.failing ≡ false) × (new ≡ record old { calls = next_count old.calls })

-- files as contracts see them, each a name and its octets
abbrev pub files_view : List (String Global × Vec ℕ Global) → Files
files_view files = map (λ file. (string_bytes file.0, file.1.items)) files

-- a shelf in memory: its files, the numbers of the calls that fail, how many calls there were, and how
-- many faults
pub record ShelfState : Type 0 where
  pub files : Files
  pub failing : List ℕ
  pub calls : ℕ
  pub faults : ℕ

-- the shelf gives as many octets as the file has from the place on and the buffer has room for
unfoldable pub GivesAll : Option (List ℕ) → ℕ → ℕ → ℕ → Type 0
GivesAll None from room count = ⊥
GivesAll (Some content) from room count = count ≡ min (length content - from) room

-- the shelf reads, or lacks the file, or fails exactly at a listed call; it never wants memory
unfoldable pub ShelfFetches : ShelfState → List ℕ → ℕ → ℕ → Result ℕ FetchFault → ShelfState → Type 0
ShelfFetches old name from room (Ok count) new = (is_listed old.calls old.failing ≡ false) × GivesAll (file_of name old.files) from room count
    × (new ≡ record old { calls = next_count old.calls })
ShelfFetches old name from room (Err fetch.Absent) new = (is_listed old.calls old.failing ≡ false) × (file_of name old.files ≡ None)
    × (new ≡ record old { calls = next_count old.calls })
ShelfFetches old name from room (Err fetch.Failed) new = (is_listed old.calls old.failing ≡ true)
    × (new ≡ record old { calls = next_count old.calls; faults = next_count old.faults })
ShelfFetches old name from room (Err fetch.NoMemory) new = ⊥
