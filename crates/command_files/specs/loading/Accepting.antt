-- Which files a command accepts, of those on a shelf: a data file (RFC 2849) that loads as a tree, and after it a script of
-- events, requests as text, a certificate, or changes of its entries; none of more octets than a limit.
use Rattle.std.specs.Prelude.{◌≡◌, ◌⊎◌, ◌<◌, ◌≤◌, ℕ, List, length, take, Option, Some, None, Ok, Err}
use Rattle.wire_io.specs.plain_values.Counts.{Rose}
use Rattle.wire_io.specs.script_text.declared.event.ScriptEvent.{ScriptEvent}
use Rattle.wire_io.specs.script_text.script.Script.{IsScript, IsFirstBadLine}
use Rattle.wire_io.specs.Files.{Files, file_of, Lacks}
use Rattle.wire_io.specs.ReadWhole.{line_past}
use Rattle.client_core.specs.declared.types.Asked.{Asked}
use Rattle.client_core.specs.Asks.{asks_of}
use Rattle.dir_tree.specs.Entry.{EntryInformation}
use Rattle.data_file.specs.ldif_load.declared.fault.LoadCause.TheVariants as load
use Rattle.data_file.specs.ldif_load.load.DataFile.{FileCause, OfRecord, loads}
use Rattle.command_files.specs.declared.changing.ChangesCause.{ChangesCause}
use Rattle.command_files.specs.declared.changing.ChangesCause.TheVariants.{Limit}
use Rattle.command_files.specs.loading.Changing.{Left, changed_by, unchanged}

-- the most octets of a data file
abbrev pub most_data : ℕ
most_data = 67108864

-- the most octets of the file that is read after it
abbrev pub most_second : ℕ
most_second = 67108864

-- the most octets of a file of changes
abbrev pub most_changes : ℕ
most_changes = 1073741824

-- the file wasn't read: the shelf's count of faults rose, or stayed where the shelf tells that it has no such file
unfoldable pub IsUnread : Option Files → List ℕ → ℕ → ℕ → Type 0
IsUnread files name before after = Rose before after ⊎ (Lacks files name × (after ≡ before))

-- the content is a data file of these entries, and not too long
pub record IsGoodData (entries : List EntryInformation) (content : List ℕ) : Type 0 where
  pub short : length content ≤ most_data
  pub loaded : loads content ≡ Ok entries

-- the content isn't accepted, for this cause at this line, and is not too long
abbrev pub IsFaultyData : ℕ → FileCause → List ℕ → Type 0
IsFaultyData line cause content = (length content ≤ most_data) × (loads content ≡ Err (record { line = line; cause = cause }))

-- the content is longer than a data file may be, and this is the line of the first octet past the limit
abbrev pub IsLongData : ℕ → List ℕ → Type 0
IsLongData line content = (most_data < length content) × (line ≡ line_past (take most_data content))

-- the content isn't accepted, for this cause at this line; or it is too long
unfoldable pub IsBadData : ℕ → FileCause → List ℕ → Type 0
IsBadData line cause content = IsFaultyData line cause content ⊎ (IsLongData line content × (cause ≡ OfRecord load.Limit))

-- the content is longer than a second file may be, and this is the line of the first octet past the limit
abbrev pub IsTooLong : ℕ → List ℕ → Type 0
IsTooLong line content = (most_second < length content) × (line ≡ line_past (take most_second content))

-- the content is a script of these events, and not too long
pub record IsGoodScript (events : List ScriptEvent) (content : List ℕ) : Type 0 where
  pub short : length content ≤ most_second
  pub script : IsScript content events

-- the content isn't a script, and this is its first bad line; or it is too long
unfoldable pub IsBadScript : ℕ → List ℕ → Type 0
IsBadScript line content = ((length content ≤ most_second) × IsFirstBadLine content line) ⊎ IsTooLong line content

-- the content asks these requests, and is not too long
pub record IsGoodRequests (asks : List Asked) (content : List ℕ) : Type 0 where
  pub short : length content ≤ most_second
  pub read : asks_of content ≡ Ok asks

-- the content asks nothing that can be read, and this is its first bad line; or it is too long
unfoldable pub IsBadRequests : ℕ → List ℕ → Type 0
IsBadRequests line content = ((length content ≤ most_second) × (asks_of content ≡ Err line)) ⊎ IsTooLong line content

-- the content is these octets, and not too long
pub record IsContent (octets content : List ℕ) : Type 0 where
  pub short : length content ≤ most_second
  pub is : octets ≡ content

-- the changes of the text leave this of the entries of the data file of this content, and it is not too long
pub record IsGoodChanges (entries : List EntryInformation) (left : Left) (content text : List ℕ) : Type 0 where
  pub short : length text ≤ most_changes
  pub leaves : changed_by entries content text ≡ Ok left

-- the text isn't accepted as one of changes, for this cause at this line; or it is too long, and this is the line of the
-- first octet past the limit
unfoldable pub IsBadChanges : List EntryInformation → ℕ → ChangesCause → List ℕ → List ℕ → Type 0
IsBadChanges entries line cause content text =
    ((length text ≤ most_changes) × (changed_by entries content text ≡ Err (record { line = line; cause = cause })))
    ⊎ ((most_changes < length text) × (line ≡ line_past (take most_changes text)) × (cause ≡ Limit))

-- the file is there, and this holds of its content
abbrev pub HoldsOf : (List ℕ → Type 0) → Option (List ℕ) → Type 0
HoldsOf P None = ⊥
HoldsOf P (Some content) = P content

-- this holds of the content of the file that was read: of that which the shelf tells, and of some content where it doesn't
unfoldable pub HoldsIn : Option Files → List ℕ → (List ℕ → Type 0) → Type 0
HoldsIn None name P = (content : List ℕ) × P content
HoldsIn (Some files) name P = HoldsOf P (file_of name files)

-- this, for which the file is refused, holds of its content, where the shelf tells its files
unfoldable pub FailsIn : Option Files → List ℕ → (List ℕ → Type 0) → Type 0
FailsIn None name P = Unit {0}
FailsIn (Some files) name P = HoldsOf P (file_of name files)

-- the shelf tells its files, the file is there, and this holds of its content
unfoldable pub IsTold : Option Files → List ℕ → (List ℕ → Type 0) → Type 0
IsTold None name P = ⊥
IsTold (Some files) name P = HoldsOf P (file_of name files)

-- the data file is one of these entries, and this holds of its content and of that of the file of changes, each as far as
-- it is known
abbrev pub HoldsBeside : (List ℕ → (List ℕ → Type 0) → Type 0) → List EntryInformation → List ℕ → List ℕ → (List ℕ → List ℕ → Type 0) → Type 0
HoldsBeside holds entries data_file changes P = holds data_file (λ content. IsGoodData entries content × holds changes (P content))

-- the files are accepted and leave this: the entries of the data file, or what the changes leave of them
abbrev pub IsLoaded : (List ℕ → (List ℕ → Type 0) → Type 0) → List ℕ → Option (List ℕ) → Left → Type 0
IsLoaded holds name None left = (entries : List EntryInformation) × holds name (IsGoodData entries) × (left ≡ unchanged entries)
IsLoaded holds name (Some changes) left = (entries : List EntryInformation) × HoldsBeside holds entries name changes (IsGoodChanges entries left)

-- a data file of this content is accepted, with the file of changes where there is one, and they leave this
abbrev pub LeavesOf : (List ℕ → (List ℕ → Type 0) → Type 0) → List ℕ → Option (List ℕ) → Left → Type 0
LeavesOf holds content None left = (entries : List EntryInformation) × IsGoodData entries content × (left ≡ unchanged entries)
LeavesOf holds content (Some changes) left =
    (entries : List EntryInformation) × IsGoodData entries content × holds changes (IsGoodChanges entries left content)

-- the same of files that are accepted, with the content of the data file
abbrev pub IsLoadedFrom : (List ℕ → (List ℕ → Type 0) → Type 0) → List ℕ → Option (List ℕ) → List ℕ → Left → Type 0
IsLoadedFrom holds name changes content left = holds name (λ own. own ≡ content) × LeavesOf holds content changes left

-- the data file is accepted, and the file of changes wasn't read
abbrev pub IsUnreadBeside : Option Files → List ℕ → ℕ → ℕ → Option (List ℕ) → Type 0
IsUnreadBeside files name before after None = ⊥
IsUnreadBeside files name before after (Some changes) =
    (entries : List EntryInformation) × HoldsIn files name (IsGoodData entries) × IsUnread files changes before after

-- the data file is accepted, and the file of changes isn't, for this cause at this line
abbrev pub IsBadBeside : Option Files → List ℕ → ℕ → ChangesCause → Option (List ℕ) → Type 0
IsBadBeside files name line cause None = ⊥
IsBadBeside files name line cause (Some changes) =
    (entries : List EntryInformation)
    × HoldsIn files name (λ content. IsGoodData entries content × FailsIn files changes (IsBadChanges entries line cause content))
