-- Lemmas on the files of a command, read from a shelf.
use Rattle.std.proofs.Common.{◌≡◌, ℕ, ◌≤◌, List, length, Option, Some, None, Result, Ok, Err, refl, sym, subst, inl, inr}
use Rattle.std.specs.Prelude.{Vec}
use Rattle.std.specs.Global.{Global}
use Rattle.wire_io.specs.Files.{Files, file_of}
use Rattle.wire_io.specs.ReadWhole.{GivesFile, IsLonger, IsLongerFile, ReadCause}
use Rattle.wire_io.specs.declared.answers.ReadFault.{ReadFault}
use Rattle.wire_io.specs.declared.answers.ReadFault.TheVariants as read
use Rattle.wire_io.specs.script_text.declared.event.ScriptFault.{ScriptFault}
use Rattle.wire_io.specs.script_text.declared.event.ScriptFault.TheVariants as script
use Rattle.wire_io.specs.script_text.script.ScriptReading.{IsCause, script_of}
use Rattle.wire_io.proofs.script_text_proofs.Theorems.{script_of-err}
use Rattle.wire_io.specs.Scripted.{LinkState}
use Rattle.client_core.specs.declared.types.Asked.{Asked}
use Rattle.client_core.specs.declared.types.AskFault.{AskFault}
use Rattle.client_core.specs.declared.types.AskFault.TheVariants as ask
use Rattle.client_core.specs.Asks.{asks_of, line_of}
use Rattle.command_files.specs.declared.loading.DataFile.{DataFile}
use Rattle.command_files.specs.declared.loading.SecondFile.{SecondFile}
use Rattle.command_files.specs.declared.loading.SecondFile.TheVariants as second
use Rattle.command_files.specs.declared.loading.Trouble.{Trouble}
use Rattle.command_files.specs.declared.loading.Trouble.TheVariants as trouble
use Rattle.dir_tree.specs.tree.Numbered.{Numbered, entries_of}
use Rattle.data_file.specs.ldif_load.declared.fault.LoadCause.TheVariants.{Limit}
use Rattle.data_file.specs.ldif_load.load.DataFile.{OfRecord, loads}
use Rattle.data_file.specs.declared.fault.DataCause.TheVariants as DataCause
use Rattle.data_file.specs.declared.fault.DataFault.{DataFault}
use Rattle.data_file.specs.declared.fault.DataFault.TheVariants as loading
use Rattle.wire_io.specs.plain_values.Answers.{IsFaultOf}
use Rattle.data_file.specs.Files.{cause_of, fault_of}
use Rattle.command_files.specs.loading.Accepting.{HoldsOf, HoldsIn, FailsIn, IsUnread, IsBadData, IsGoodData, IsLongData, IsTooLong, IsBadScript, IsGoodScript, IsBadRequests, IsGoodRequests, IsContent, most_data, most_second}
use Rattle.command_files.specs.loading.Loading.{IsRefused, IsMisread, LoadsCertificate, LoadsRequests, LoadsScript, LoadsContent, LoadsData, LoadsFile, ReadsRequests, ReadsScript, ReadsData, ReadsFile, data_trouble_of_file, trouble_of_asks, trouble_of_data, trouble_of_file, trouble_of_script}

-- what holds of the content that was given holds of the file, where the shelf tells
pub HoldsIn-given : (files : Option Files) (name content : List ℕ) (P : List ℕ → Type 0) → GivesFile files name content → P content → HoldsIn files name P
unfolding HoldsIn GivesFile
HoldsIn-given None name content P gives holds = (content, holds)
HoldsIn-given (Some files) name content P gives holds = let Q : Option (List ℕ) → Type 0 = λ file. HoldsOf P file in subst Q (sym gives) holds

-- what is refused of the content that was given is refused of the file, where the shelf tells
pub FailsIn-given : (files : Option Files) (name content : List ℕ) (P : List ℕ → Type 0) → GivesFile files name content → P content → FailsIn files name P
unfolding FailsIn GivesFile
FailsIn-given None name content P gives holds = tt
FailsIn-given (Some files) name content P gives holds = let Q : Option (List ℕ) → Type 0 = λ file. HoldsOf P file in subst Q (sym gives) holds

-- why a file that was given isn't taken
module _ (kind : SecondFile) (bad : ℕ → List ℕ → Type 0) (files : Option Files) (name : List ℕ) (before after : ℕ) where
  pub IsRefused-given : (content : List ℕ) (why : Trouble) → GivesFile files name content → after ≡ before → IsMisread kind bad content why → IsRefused kind bad files name before after why
  unfolding IsRefused IsMisread
  IsRefused-given content trouble.NoFile gives stays misread = absurd misread
  IsRefused-given content (trouble.BadData line cause) gives stays misread = absurd misread
  IsRefused-given content (trouble.BadLine other line) gives stays misread = (misread.0, FailsIn-given files name content (bad line) gives misread.1, stays)
  IsRefused-given content (trouble.BadChanges line cause) gives stays misread = absurd misread
  IsRefused-given content trouble.NoMemory gives stays misread = stays

  -- a file that is too long is bad
  too_long : (file : Option (List ℕ)) (line : ℕ) → ((content : List ℕ) → IsTooLong line content → bad line content) → IsLongerFile file most_second line → HoldsOf (bad line) file
  unfolding IsLongerFile
  too_long None line all longer = absurd longer
  too_long (Some content) line all longer = all content longer

  holds_too_long : (line : ℕ) → ((content : List ℕ) → IsTooLong line content → bad line content) → (known : Option Files) → IsLonger known name most_second line → FailsIn known name (bad line)
  unfolding IsLonger FailsIn
  holds_too_long line all None longer = tt
  holds_too_long line all (Some known) longer = too_long (file_of name known) line all longer

  -- the file wasn't read, or is too long
  pub IsRefused-unread : (T : Type 0) (fault : ReadFault) → ((line : ℕ) (content : List ℕ) → IsTooLong line content → bad line content)
      → ReadCause {T = T} files name most_second before after (Err fault) → IsRefused kind bad files name before after (trouble_of_file kind fault)
  unfolding IsRefused ReadCause IsUnread
  IsRefused-unread T read.Absent all cause = inr cause
  IsRefused-unread T read.Failed all cause = inl cause
  IsRefused-unread T (read.TooLong line) all cause = (refl, holds_too_long line (all line) files cause.0, cause.1)
  IsRefused-unread T read.NoMemory all cause = cause

-- the script of a file that was given
script_given :
    (files : Option Files) (name content : List ℕ) (before after : ℕ) (result : Result LinkState Trouble)
    → GivesFile files name content → after ≡ before → ReadsScript content result → LoadsScript files name before after result
unfolding LoadsScript ReadsScript
script_given files name content before after (Ok link) gives stays reads = (HoldsIn-given files name content (IsGoodScript link.plan.to_come) gives reads.0, reads.1, stays)
script_given files name content before after (Err why) gives stays reads = IsRefused-given second.Script IsBadScript files name before after content why gives stays reads

pub LoadsScript-read :
    {T : Type 0} (files : Option Files) (name content lent : List ℕ) (before after : ℕ) (text : T) (result : Result LinkState Trouble)
    → lent ≡ content → GivesFile files name content → ReadCause {T = T} files name most_second before after (Ok text) → ReadsScript lent result → LoadsScript files name before after result
unfolding ReadCause
LoadsScript-read files name content lent before after text result same gives stays reads =
    let P : List ℕ → Type 0 = λ octets. ReadsScript octets result in script_given files name content before after result gives stays (subst P same reads)

-- the file wasn't read, or is too long
pub LoadsScript-refused :
    (T : Type 0) (files : Option Files) (name : List ℕ) (before after : ℕ) (fault : ReadFault)
    → ReadCause {T = T} files name most_second before after (Err fault) → LoadsScript files name before after (Err (trouble_of_file second.Script fault))
unfolding LoadsScript IsBadScript
LoadsScript-refused T files name before after fault cause = IsRefused-unread second.Script IsBadScript files name before after T fault (λ line content long. inr long) cause

-- the text isn't a script
pub ReadsScript-refused :
    (content : List ℕ) (fault : ScriptFault) → length content ≤ most_second → IsCause fault (script_of content) → ReadsScript content (Err (trouble_of_script fault))
unfolding ReadsScript IsMisread IsBadScript
ReadsScript-refused content (script.Bad line) short cause = (refl, inl (short, script_of-err content line cause))
ReadsScript-refused content script.NoMemory short cause = tt

-- the requests of a file that was given
requests_given :
    (files : Option Files) (name content : List ℕ) (before after : ℕ) (result : Result (Vec Asked Global) Trouble)
    → GivesFile files name content → after ≡ before → ReadsRequests content result → LoadsRequests files name before after result
unfolding LoadsRequests ReadsRequests
requests_given files name content before after (Ok asks) gives stays reads = (HoldsIn-given files name content (IsGoodRequests asks.items) gives reads.0, reads.1, stays)
requests_given files name content before after (Err why) gives stays reads = IsRefused-given second.Requests IsBadRequests files name before after content why gives stays reads

pub LoadsRequests-read :
    {T : Type 0} (files : Option Files) (name content lent : List ℕ) (before after : ℕ) (text : T) (result : Result (Vec Asked Global) Trouble)
    → lent ≡ content → GivesFile files name content → ReadCause {T = T} files name most_second before after (Ok text) → ReadsRequests lent result → LoadsRequests files name before after result
unfolding ReadCause
LoadsRequests-read files name content lent before after text result same gives stays reads =
    let P : List ℕ → Type 0 = λ octets. ReadsRequests octets result in requests_given files name content before after result gives stays (subst P same reads)

-- the file wasn't read, or is too long
pub LoadsRequests-refused :
    (T : Type 0) (files : Option Files) (name : List ℕ) (before after : ℕ) (fault : ReadFault)
    → ReadCause {T = T} files name most_second before after (Err fault) → LoadsRequests files name before after (Err (trouble_of_file second.Requests fault))
unfolding LoadsRequests IsBadRequests
LoadsRequests-refused T files name before after fault cause = IsRefused-unread second.Requests IsBadRequests files name before after T fault (λ line content long. inr long) cause

-- the text asks nothing that can be read
pub ReadsRequests-refused :
    (content : List ℕ) (fault : AskFault) → length content ≤ most_second → IsFaultOf (line_of fault) (asks_of content) → ReadsRequests content (Err (trouble_of_asks fault))
unfolding ReadsRequests IsMisread IsBadRequests
ReadsRequests-refused content (ask.Bad line) short is = (refl, inl (short, is))
ReadsRequests-refused content ask.NoMemory short is = tt

-- the certificate of a file that was given
pub LoadsCertificate-read :
    (files : Option Files) (name : List ℕ) (before after : ℕ) (text : Vec ℕ Global)
    → length text.items ≤ most_second → GivesFile files name text.items → ReadCause {T = Vec ℕ Global} files name most_second before after (Ok text) → LoadsCertificate files name before after (Ok text)
unfolding LoadsCertificate ReadCause
LoadsCertificate-read files name before after text short gives stays = (HoldsIn-given files name text.items (IsContent text.items) gives (record { short = short; is = refl }), stays)

-- the file wasn't read, or is too long
pub LoadsCertificate-refused :
    (T : Type 0) (files : Option Files) (name : List ℕ) (before after : ℕ) (fault : ReadFault)
    → ReadCause {T = T} files name most_second before after (Err fault) → LoadsCertificate files name before after (Err (trouble_of_file second.Certificate fault))
unfolding LoadsCertificate
LoadsCertificate-refused T files name before after fault cause = IsRefused-unread second.Certificate IsTooLong files name before after T fault (λ line content long. long) cause

-- the tree of a file that was given
data_given :
    (files : Option Files) (name content : List ℕ) (before after : ℕ) (result : Result (List Numbered) Trouble)
    → GivesFile files name content → after ≡ before → ReadsData content result → LoadsData files name before after result
unfolding LoadsData ReadsData
data_given files name content before after (Ok rows) gives stays reads = (HoldsIn-given files name content (IsGoodData (entries_of rows)) gives reads.0, reads.1, stays)
data_given files name content before after (Err trouble.NoFile) gives stays reads = absurd reads
data_given files name content before after (Err (trouble.BadData line cause)) gives stays reads = (FailsIn-given files name content (IsBadData line (cause_of cause)) gives reads, stays)
data_given files name content before after (Err (trouble.BadLine kind line)) gives stays reads = absurd reads
data_given files name content before after (Err (trouble.BadChanges line cause)) gives stays reads = absurd reads
data_given files name content before after (Err trouble.NoMemory) gives stays reads = stays

pub LoadsData-read :
    {T : Type 0} (files : Option Files) (name content lent : List ℕ) (before after : ℕ) (text : T) (result : Result (List Numbered) Trouble)
    → lent ≡ content → GivesFile files name content → ReadCause {T = T} files name most_data before after (Ok text) → ReadsData lent result → LoadsData files name before after result
unfolding ReadCause
LoadsData-read files name content lent before after text result same gives stays reads =
    let P : List ℕ → Type 0 = λ octets. ReadsData octets result in data_given files name content before after result gives stays (subst P same reads)

-- the data file of a file that was given, with its content
file_given :
    (files : Option Files) (name content : List ℕ) (before after : ℕ) (result : Result DataFile Trouble)
    → GivesFile files name content → after ≡ before → ReadsFile content result → LoadsFile files name before after result
unfolding LoadsFile ReadsFile
file_given files name content before after (Ok file) gives stays reads =
    (HoldsIn-given files name content (λ own. own ≡ file.content.items) gives (sym reads.0), rw reads.0 reads.1, stays)
file_given files name content before after (Err why) gives stays reads = data_given files name content before after (Err why) gives stays reads

pub LoadsFile-read :
    {T : Type 0} (files : Option Files) (name content : List ℕ) (before after : ℕ) (text : T) (result : Result DataFile Trouble)
    → GivesFile files name content → ReadCause {T = T} files name most_data before after (Ok text) → ReadsFile content result → LoadsFile files name before after result
unfolding ReadCause
LoadsFile-read files name content before after text result gives stays reads = file_given files name content before after result gives stays reads

-- it wasn't loaded
pub LoadsFile-untaken : (files : Option Files) (name : List ℕ) (before after : ℕ) (why : Trouble) → LoadsData files name before after (Err why) → LoadsFile files name before after (Err why)
unfolding LoadsFile
LoadsFile-untaken files name before after why loads = loads

-- the content of a file that was given
pub LoadsContent-read :
    (files : Option Files) (name : List ℕ) (before after : ℕ) (text : Vec ℕ Global)
    → length text.items ≤ most_data → GivesFile files name text.items → ReadCause {T = Vec ℕ Global} files name most_data before after (Ok text) → LoadsContent files name before after (Ok text)
unfolding LoadsContent ReadCause
LoadsContent-read files name before after text short gives stays = (HoldsIn-given files name text.items (λ content. content ≡ text.items) gives refl, short, stays)

-- a file that is too long is not accepted
data_too_long : (file : Option (List ℕ)) (line : ℕ) → IsLongerFile file most_data line → HoldsOf (IsBadData line (OfRecord Limit)) file
unfolding IsLongerFile IsBadData
data_too_long None line longer = absurd longer
data_too_long (Some content) line longer = inr ((longer.0, longer.1), refl)

LoadsData-too_long :
    (files : Option Files) (name : List ℕ) (before after line : ℕ)
    → IsLonger files name most_data line → after ≡ before → LoadsData files name before after (Err (trouble.BadData line (DataCause.Record Limit)))
unfolding LoadsData IsLonger FailsIn
LoadsData-too_long None name before after line longer stays = (tt, stays)
LoadsData-too_long (Some files) name before after line longer stays = (data_too_long (file_of name files) line longer, stays)

-- the file wasn't read, or is too long
pub LoadsData-refused :
    (T : Type 0) (files : Option Files) (name : List ℕ) (before after : ℕ) (fault : ReadFault)
    → ReadCause {T = T} files name most_data before after (Err fault) → LoadsData files name before after (Err (data_trouble_of_file fault))
unfolding LoadsData ReadCause IsUnread
LoadsData-refused T files name before after read.Absent cause = inr cause
LoadsData-refused T files name before after read.Failed cause = inl cause
LoadsData-refused T files name before after (read.TooLong line) cause = LoadsData-too_long files name before after line cause.0 cause.1
LoadsData-refused T files name before after read.NoMemory cause = cause

-- its content is longer than a data file may be
long_content : (file : Option (List ℕ)) (line : ℕ) → IsLongerFile file most_data line → HoldsOf (IsLongData line) file
unfolding IsLongerFile
long_content None line longer = absurd longer
long_content (Some content) line longer = (longer.0, longer.1)

content_too_long : (files : Option Files) (name : List ℕ) (line : ℕ) → IsLonger files name most_data line → FailsIn files name (IsLongData line)
unfolding IsLonger FailsIn
content_too_long None name line longer = tt
content_too_long (Some files) name line longer = long_content (file_of name files) line longer

pub LoadsContent-refused :
    (T : Type 0) (files : Option Files) (name : List ℕ) (before after : ℕ) (fault : ReadFault)
    → ReadCause {T = T} files name most_data before after (Err fault) → LoadsContent files name before after (Err (data_trouble_of_file fault))
unfolding LoadsContent ReadCause IsUnread
LoadsContent-refused T files name before after read.Absent cause = inr cause
LoadsContent-refused T files name before after read.Failed cause = inl cause
LoadsContent-refused T files name before after (read.TooLong line) cause = (content_too_long files name line cause.0, refl, cause.1)
LoadsContent-refused T files name before after read.NoMemory cause = cause

-- the text isn't accepted
pub ReadsData-refused :
    (content : List ℕ) (fault : DataFault) → length content ≤ most_data → IsFaultOf (fault_of fault) (loads content) → ReadsData content (Err (trouble_of_data fault))
unfolding ReadsData IsBadData
ReadsData-refused content (loading.Bad line cause) short is = inl (short, is)
ReadsData-refused content loading.NoMemory short is = tt
