-- What reading a file whole gives, and when it refuses.
use Rattle.std.specs.Prelude.{◌≡◌, ℕ, ◌+◌, ◌<◌, ◌==◌, Bool, true, false, List, [], take, length, count_by, Option, Some, None, Result, Ok, Err}
use Rattle.plain_values.specs.Counts.{Rose}
use Rattle.wire_io.specs.declared.answers.ReadFault.{ReadFault}
use Rattle.wire_io.specs.declared.answers.ReadFault.TheVariants.{Absent, Failed, TooLong, NoMemory}
use Rattle.wire_io.specs.Files.{Files, file_of, Lacks}

-- the line, counted from 1, of an octet right after these: 1 and the line feeds among them
abbrev pub line_past : List ℕ → ℕ
line_past octets = 1 + count_by (λ octet. octet == 10) octets

-- where the shelf tells, the content is that of the file
unfoldable pub GivesFile : Option Files → List ℕ → List ℕ → Type 0
GivesFile None name content = Unit {0}
GivesFile (Some files) name content = file_of name files ≡ Some content

-- the file is there and longer than the limit, and the line is that of the first octet past it
unfoldable pub IsLongerFile : Option (List ℕ) → ℕ → ℕ → Type 0
IsLongerFile None limit line = ⊥
IsLongerFile (Some content) limit line = (limit < length content) × (line ≡ line_past (take limit content))

-- the same, where the shelf tells
unfoldable pub IsLonger : Option Files → List ℕ → ℕ → ℕ → Type 0
IsLonger None name limit line = Unit {0}
IsLonger (Some files) name limit line = IsLongerFile (file_of name files) limit line

-- when each answer of `read_all` may come; the count of faults rises with a fault and is otherwise as it was
unfoldable pub ReadCause : {T : Type 0} → Option Files → List ℕ → ℕ → ℕ → ℕ → Result T ReadFault → Type 0
ReadCause files name limit before after (Ok content) = after ≡ before
ReadCause files name limit before after (Err Absent) = Lacks files name × (after ≡ before)
ReadCause files name limit before after (Err Failed) = Rose before after
ReadCause files name limit before after (Err (TooLong line)) = IsLonger files name limit line × (after ≡ before)
ReadCause files name limit before after (Err NoMemory) = after ≡ before

-- the octets read so far are a front of the file, none where it isn't there
unfoldable pub IsFrontOf : List ℕ → Option (List ℕ) → Type 0
IsFrontOf read None = read ≡ []
IsFrontOf read (Some content) = read ≡ take (length read) content

-- the same, where the shelf tells
unfoldable pub HasRead : Option Files → List ℕ → List ℕ → Type 0
HasRead None name read = Unit {0}
HasRead (Some files) name read = IsFrontOf read (file_of name files)

-- a piece was read and the file may have more, or the file was read whole
unfoldable pub PieceGives : Option Files → List ℕ → List ℕ → Result Bool ReadFault → List ℕ → Type 0
PieceGives files name old (Ok true) new = (length old < length new) × HasRead files name new
PieceGives files name old (Ok false) new = (new ≡ old) × GivesFile files name new
PieceGives files name old (Err fault) new = Unit {0}

-- when each answer of one piece's reading may come; it is never too long
unfoldable pub PieceCause : {T : Type 0} → Option Files → List ℕ → ℕ → ℕ → Result T ReadFault → Type 0
PieceCause files name before after (Ok more) = after ≡ before
PieceCause files name before after (Err Absent) = Lacks files name × (after ≡ before)
PieceCause files name before after (Err Failed) = Rose before after
PieceCause files name before after (Err (TooLong line)) = ⊥
PieceCause files name before after (Err NoMemory) = after ≡ before
