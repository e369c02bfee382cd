-- What reading the files of a command gives, and why it gives nothing.
use Rattle.std.specs.Prelude.{◌≡◌, ◌⊎◌, ◌≤◌, ℕ, List, [], length, Option, Result, Ok, Err, Vec}
use Rattle.std.specs.Global.{Global}
use Rattle.wire_io.specs.script_text.declared.event.ScriptFault.{ScriptFault}
use Rattle.wire_io.specs.script_text.declared.event.ScriptFault.TheVariants as script
use Rattle.wire_io.specs.declared.answers.ReadFault.{ReadFault}
use Rattle.wire_io.specs.declared.answers.ReadFault.TheVariants as read
use Rattle.wire_io.specs.Files.{Files}
use Rattle.wire_io.specs.Scripted.{LinkState, fresh_link}
use Rattle.dir_tree.specs.Entry.{EntryInformation}
use Rattle.dir_tree.specs.tree.Numbered.{Numbered, entries_of}
use Rattle.change_replay.specs.aci_item.Rules.{IsGoodTree}
use Rattle.data_file.specs.ldif_load.declared.fault.LoadCause.TheVariants.{Limit}
use Rattle.data_file.specs.declared.fault.DataCause.TheVariants as DataCause
use Rattle.data_file.specs.declared.fault.DataFault.{DataFault}
use Rattle.data_file.specs.declared.fault.DataFault.TheVariants as loading
use Rattle.data_file.specs.Files.{cause_of}
use Rattle.client_core.specs.declared.types.Asked.{Asked}
use Rattle.client_core.specs.Asks.{AreSendable}
use Rattle.client_core.specs.declared.types.AskFault.{AskFault}
use Rattle.client_core.specs.declared.types.AskFault.TheVariants as ask
use Rattle.command_files.specs.declared.loading.SecondFile.{SecondFile}
use Rattle.command_files.specs.declared.loading.SecondFile.TheVariants as second
use Rattle.command_files.specs.declared.loading.Trouble.{Trouble}
use Rattle.command_files.specs.declared.loading.Trouble.TheVariants as trouble
use Rattle.command_files.specs.declared.changing.Loaded.{Loaded}
use Rattle.command_files.specs.declared.loading.DataFile.{DataFile}
use Rattle.command_files.specs.declared.changing.ChangesCause.TheVariants as changes_cause
use Rattle.command_files.specs.declared.changing.ChangesFault.{ChangesFault}
use Rattle.command_files.specs.declared.changing.ChangesFault.TheVariants as changing
use Rattle.command_files.specs.loading.Changing.{changed_by, left_of}
use Rattle.command_files.specs.loading.Accepting.{IsUnread, HoldsIn, FailsIn, IsBadBeside, IsBadChanges, IsBadData, IsGoodChanges, IsGoodData, IsLoaded, IsLongData, IsUnreadBeside, IsTooLong, IsBadScript, IsGoodScript, IsBadRequests, IsGoodRequests, IsContent, most_data}

-- the data file of the name was loaded, or why not
unfoldable pub LoadsData : Option Files → List ℕ → ℕ → ℕ → Result (List Numbered) Trouble → Type 0
LoadsData files name before after (Ok rows) = HoldsIn files name (IsGoodData (entries_of rows)) × IsGoodTree (entries_of rows) × (after ≡ before)
LoadsData files name before after (Err trouble.NoFile) = IsUnread files name before after
LoadsData files name before after (Err (trouble.BadData line cause)) = FailsIn files name (IsBadData line (cause_of cause)) × (after ≡ before)
LoadsData files name before after (Err (trouble.BadLine kind line)) = ⊥
LoadsData files name before after (Err (trouble.BadChanges line cause)) = ⊥
LoadsData files name before after (Err trouble.NoMemory) = after ≡ before

-- the data file was loaded, or is bad at this line
unfoldable pub ReadsData : List ℕ → Result (List Numbered) Trouble → Type 0
ReadsData content (Ok rows) = IsGoodData (entries_of rows) content × IsGoodTree (entries_of rows)
ReadsData content (Err trouble.NoFile) = ⊥
ReadsData content (Err (trouble.BadData line cause)) = IsBadData line (cause_of cause) content
ReadsData content (Err (trouble.BadLine kind line)) = ⊥
ReadsData content (Err (trouble.BadChanges line cause)) = ⊥
ReadsData content (Err trouble.NoMemory) = Unit {0}

-- the data file of this content was loaded, and the content kept, or it is bad at this line
unfoldable pub ReadsFile : List ℕ → Result DataFile Trouble → Type 0
ReadsFile content (Ok file) = (file.content.items ≡ content) × ReadsData content (Ok file.tree)
ReadsFile content (Err why) = ReadsData content (Err why)

-- the data file of the name was loaded, with its content, or why not
unfoldable pub LoadsFile : Option Files → List ℕ → ℕ → ℕ → Result DataFile Trouble → Type 0
LoadsFile files name before after (Ok file) =
    HoldsIn files name (λ content. content ≡ file.content.items) × ReadsData file.content.items (Ok file.tree) × (after ≡ before)
LoadsFile files name before after (Err why) = LoadsData files name before after (Err why)

-- the octets of the data file of the name were read, which are at most as many as it may have, or why not: it wasn't read, or
-- is too long
unfoldable pub LoadsContent : Option Files → List ℕ → ℕ → ℕ → Result (Vec ℕ Global) Trouble → Type 0
LoadsContent files name before after (Ok octets) =
    HoldsIn files name (λ content. content ≡ octets.items) × (length octets.items ≤ most_data) × (after ≡ before)
LoadsContent files name before after (Err trouble.NoFile) = IsUnread files name before after
LoadsContent files name before after (Err (trouble.BadData line cause)) =
    FailsIn files name (IsLongData line) × (cause ≡ DataCause.Record Limit) × (after ≡ before)
LoadsContent files name before after (Err (trouble.BadLine kind line)) = ⊥
LoadsContent files name before after (Err (trouble.BadChanges line cause)) = ⊥
LoadsContent files name before after (Err trouble.NoMemory) = after ≡ before

-- why a file that is read after the data file isn't taken, where a line of it is bad in this sense
unfoldable pub IsRefused : SecondFile → (ℕ → List ℕ → Type 0) → Option Files → List ℕ → ℕ → ℕ → Trouble → Type 0
IsRefused kind bad files name before after trouble.NoFile = IsUnread files name before after
IsRefused kind bad files name before after (trouble.BadData line cause) = ⊥
IsRefused kind bad files name before after (trouble.BadLine other line) = (other ≡ kind) × FailsIn files name (bad line) × (after ≡ before)
IsRefused kind bad files name before after (trouble.BadChanges line cause) = ⊥
IsRefused kind bad files name before after trouble.NoMemory = after ≡ before

-- the same of its content
unfoldable pub IsMisread : SecondFile → (ℕ → List ℕ → Type 0) → List ℕ → Trouble → Type 0
IsMisread kind bad content trouble.NoFile = ⊥
IsMisread kind bad content (trouble.BadData line cause) = ⊥
IsMisread kind bad content (trouble.BadLine other line) = (other ≡ kind) × bad line content
IsMisread kind bad content (trouble.BadChanges line cause) = ⊥
IsMisread kind bad content trouble.NoMemory = Unit {0}

-- the script of the name was read, or why not
unfoldable pub LoadsScript : Option Files → List ℕ → ℕ → ℕ → Result LinkState Trouble → Type 0
LoadsScript files name before after (Ok link) = HoldsIn files name (IsGoodScript link.plan.to_come) × (link ≡ fresh_link link.plan.to_come [] [] []) × (after ≡ before)
LoadsScript files name before after (Err why) = IsRefused second.Script IsBadScript files name before after why

-- the script was read, or is bad at this line
unfoldable pub ReadsScript : List ℕ → Result LinkState Trouble → Type 0
ReadsScript content (Ok link) = IsGoodScript link.plan.to_come content × (link ≡ fresh_link link.plan.to_come [] [] [])
ReadsScript content (Err why) = IsMisread second.Script IsBadScript content why

-- the requests of the name were read, each of which can be sent, or why not
unfoldable pub LoadsRequests : Option Files → List ℕ → ℕ → ℕ → Result (Vec Asked Global) Trouble → Type 0
LoadsRequests files name before after (Ok asks) = HoldsIn files name (IsGoodRequests asks.items) × AreSendable asks.items × (after ≡ before)
LoadsRequests files name before after (Err why) = IsRefused second.Requests IsBadRequests files name before after why

-- the requests were read, or are bad at this line
unfoldable pub ReadsRequests : List ℕ → Result (Vec Asked Global) Trouble → Type 0
ReadsRequests content (Ok asks) = IsGoodRequests asks.items content × AreSendable asks.items
ReadsRequests content (Err why) = IsMisread second.Requests IsBadRequests content why

-- the certificate of the name was read as octets, or why not
unfoldable pub LoadsCertificate : Option Files → List ℕ → ℕ → ℕ → Result (Vec ℕ Global) Trouble → Type 0
LoadsCertificate files name before after (Ok octets) = HoldsIn files name (IsContent octets.items) × (after ≡ before)
LoadsCertificate files name before after (Err why) = IsRefused second.Certificate IsTooLong files name before after why

-- the changes of a text were applied to the entries of the data file of this content, or a line of it isn't accepted; the
-- tree that is left is good
unfoldable pub ReadsChanges : List EntryInformation → List ℕ → List ℕ → Result Loaded Trouble → Type 0
ReadsChanges entries content text (Ok loaded) = (changed_by entries content text ≡ Ok (left_of loaded)) × IsGoodTree (entries_of loaded.tree)
ReadsChanges entries content text (Err trouble.NoFile) = ⊥
ReadsChanges entries content text (Err (trouble.BadData line cause)) = ⊥
ReadsChanges entries content text (Err (trouble.BadLine kind line)) = ⊥
ReadsChanges entries content text (Err (trouble.BadChanges line cause)) = changed_by entries content text ≡ Err (record { line = line; cause = cause })
ReadsChanges entries content text (Err trouble.NoMemory) = Unit {0}

-- the same of the file of the name
unfoldable pub LoadsChanges : List EntryInformation → List ℕ → Option Files → List ℕ → ℕ → ℕ → Result Loaded Trouble → Type 0
LoadsChanges entries content files name before after (Ok loaded) =
    HoldsIn files name (IsGoodChanges entries (left_of loaded) content) × IsGoodTree (entries_of loaded.tree) × (after ≡ before)
LoadsChanges entries content files name before after (Err trouble.NoFile) = IsUnread files name before after
LoadsChanges entries content files name before after (Err (trouble.BadData line cause)) = ⊥
LoadsChanges entries content files name before after (Err (trouble.BadLine kind line)) = ⊥
LoadsChanges entries content files name before after (Err (trouble.BadChanges line cause)) =
    FailsIn files name (IsBadChanges entries line cause content) × (after ≡ before)
LoadsChanges entries content files name before after (Err trouble.NoMemory) = after ≡ before

-- the tree of the data file of the name was loaded, and the changes of the second file were applied, where one is named, or
-- why not: the data file's own faults come first
unfoldable pub LoadsTree : Option Files → List ℕ → Option (List ℕ) → ℕ → ℕ → Result Loaded Trouble → Type 0
LoadsTree files name changes before after (Ok loaded) =
    IsLoaded (HoldsIn files) name changes (left_of loaded) × IsGoodTree (entries_of loaded.tree) × (after ≡ before)
LoadsTree files name changes before after (Err trouble.NoFile) =
    IsUnread files name before after ⊎ IsUnreadBeside files name before after changes
LoadsTree files name changes before after (Err (trouble.BadData line cause)) = FailsIn files name (IsBadData line (cause_of cause)) × (after ≡ before)
LoadsTree files name changes before after (Err (trouble.BadLine kind line)) = ⊥
LoadsTree files name changes before after (Err (trouble.BadChanges line cause)) = IsBadBeside files name line cause changes × (after ≡ before)
LoadsTree files name changes before after (Err trouble.NoMemory) = after ≡ before

-- why a data file wasn't read, by the fault of reading the file
abbrev pub data_trouble_of_file : ReadFault → Trouble
data_trouble_of_file read.Absent = trouble.NoFile
data_trouble_of_file read.Failed = trouble.NoFile
data_trouble_of_file (read.TooLong line) = trouble.BadData line (DataCause.Record Limit)
data_trouble_of_file read.NoMemory = trouble.NoMemory

-- why a data file isn't accepted, by the fault of loading its text
abbrev pub trouble_of_data : DataFault → Trouble
trouble_of_data (loading.Bad line cause) = trouble.BadData line cause
trouble_of_data loading.NoMemory = trouble.NoMemory

-- why another file wasn't read, by the fault of reading the file
abbrev pub trouble_of_file : SecondFile → ReadFault → Trouble
trouble_of_file kind read.Absent = trouble.NoFile
trouble_of_file kind read.Failed = trouble.NoFile
trouble_of_file kind (read.TooLong line) = trouble.BadLine kind line
trouble_of_file kind read.NoMemory = trouble.NoMemory

-- why a file of changes wasn't read, by the fault of reading the file
abbrev pub changes_trouble_of_file : ReadFault → Trouble
changes_trouble_of_file read.Absent = trouble.NoFile
changes_trouble_of_file read.Failed = trouble.NoFile
changes_trouble_of_file (read.TooLong line) = trouble.BadChanges line changes_cause.Limit
changes_trouble_of_file read.NoMemory = trouble.NoMemory

-- why its changes weren't applied
abbrev pub trouble_of_changes : ChangesFault → Trouble
trouble_of_changes (changing.Bad line cause) = trouble.BadChanges line cause
trouble_of_changes changing.NoMemory = trouble.NoMemory

-- why a script file isn't accepted, by the fault of reading its text
abbrev pub trouble_of_script : ScriptFault → Trouble
trouble_of_script (script.Bad line) = trouble.BadLine second.Script line
trouble_of_script script.NoMemory = trouble.NoMemory

-- why requests aren't accepted, by the fault of reading their text
abbrev pub trouble_of_asks : AskFault → Trouble
trouble_of_asks (ask.Bad line) = trouble.BadLine second.Requests line
trouble_of_asks ask.NoMemory = trouble.NoMemory
