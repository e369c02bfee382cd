-- The laws of files of changes.
use Rattle.std.specs.Prelude.{◌≡◌, ℕ, ◌+◌, ◌≤◌, true, false, Some, List, [], ◌∷◌, ◌++◌, length, take, Ok}
use Rattle.std.specs.List.{AllByRecursion}
use Rattle.dir_tree.specs.schema_tables.Attributes.{attr_of}
use Rattle.ldif_records.specs.Fields.{is_kind, is_changetype}
use Rattle.whole_blocks.specs.Blocks.{whole_part}
use Rattle.ldap_msg.specs.declared.kinds.Request.{Request}
use Rattle.change_records.specs.declared.types.RecordedChange.{RecordedChange}
use Rattle.change_records.specs.Written.{lines_of}
use Rattle.change_records.specs.Files.{file_text, file_of}
use Rattle.change_records.specs.Writable.{IsWritable, IsDigest}

-- the changes, each with the number of the first line of its record, the first of which has this number
abbrev pub recorded : ℕ → List Request → List RecordedChange
recorded number [] = []
recorded number (change ∷ rest) =
    record { line = number; change = change } ∷ recorded (number + length (lines_of change) + 1) rest

-- the text is that of a file of these changes
abbrev pub Says : List ℕ → List Request → List ℕ → Type 0
Says digest changes text = file_of text ≡ Ok (record { digest = digest; changes = recorded 4 changes })

-- a file of changes says them
abbrev pub SaysWhatWasWritten : Type 0
SaysWhatWasWritten =
    (digest : List ℕ) (changes : List Request) → IsDigest digest → AllByRecursion IsWritable changes
    → Says digest changes (file_text digest changes)

-- the whole part of a text is a file of the first changes, these and a number of the others, and says them
pub record SaysFront (digest : List ℕ) (done more : List Request) (text : List ℕ) : Type 0 where
  pub kept : ℕ
  pub front : whole_part text ≡ file_text digest (done ++ take kept more)
  pub says : Says digest (done ++ take kept more) (whole_part text)

-- a file that is cut behind some of its changes says these, and of the others a front
abbrev pub SaysFrontWhereCut : Type 0
SaysFrontWhereCut =
    (digest : List ℕ) (done more : List Request) (count : ℕ) → IsDigest digest
    → AllByRecursion IsWritable done → AllByRecursion IsWritable more → length (file_text digest done) ≤ count
    → SaysFront digest done more (take count (file_text digest (done ++ more)))

-- the text of a type may stand in a record, as that of an attribute of an add too
pub record CanBeWritten (text : List ℕ) : Type 0 where
  pub kind : is_kind text ≡ true
  pub other : is_changetype text ≡ false

-- each text that names a type of the schema may
abbrev pub WritesKnownTypes : Type 0
WritesKnownTypes = (text : List ℕ) (number : ℕ) → attr_of text ≡ Some number → CanBeWritten text
