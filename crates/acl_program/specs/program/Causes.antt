-- When each outcome of the program comes, by its words and its shelf. The files are read in the order of the words: the
-- data file first.
use Rattle.std.specs.Prelude.{◌≡◌, ◌⊎◌, ℕ, Bool, true, List, ◌++◌, Option, Some, None, is_some, Ok}
use Rattle.command_files.specs.plain_values.Counts.{Rose}
use Rattle.command_files.specs.script_text.declared.event.ScriptEvent.{ScriptEvent}
use Rattle.command_files.specs.wire_io.declared.journal.Item.{Item}
use Rattle.command_files.specs.wire_io.Files.{Files}
use Rattle.command_files.specs.wire_io.Journal.{was_stopped}
use Rattle.session_hub.specs.declared.ended.Ended.TheVariants as ended
use Rattle.session_hub.specs.Parties.{Requester}
use Rattle.command_words.specs.command.Command.{CommandView, ServingView, Serve, Replay, Check, Why, Dump, Explain, Sample, Ask, Prove, Verify, Rights, Help, Version, IsCommand}
use Rattle.certify.specs.explanation.Questions.{Question}
use Rattle.certify.specs.explanation.Reading.{question_of}
use Rattle.certify.specs.explanation.NameWords.{who_of, target_of}
use Rattle.command_files.specs.declared.changing.ChangesCause.{ChangesCause}
use Rattle.command_files.specs.loading.Changing.{Left}
use Rattle.command_files.specs.declared.loading.SecondFile.{SecondFile}
use Rattle.command_files.specs.declared.loading.SecondFile.TheVariants as second
use Rattle.command_files.specs.dir_tree.Entry.{EntryInformation}
use Rattle.command_files.specs.dn_names.name.Names.{RdnSequence}
use Rattle.command_files.specs.ldif_load.declared.fault.LoadCause.TheVariants as load
use Rattle.command_files.specs.ldif_load.load.DataFile.{FileCause, OfRecord}
use Rattle.command_files.specs.loading.Accepting.{IsUnread, IsUnreadBeside, IsBadBeside, IsLoaded, IsLoadedFrom, HoldsIn, FailsIn, IsTold, IsGoodData, IsBadData, IsFaultyData, IsLongData, IsGoodScript, IsBadScript, IsBadRequests}
use Rattle.acl_program.specs.Outcomes.{Outcome, NoCommand, NoFile, BadDataLine, BadChangesLine, BadLine, FalseLine, Checked, Dumped, Replayed, Served, Answered, Explained, Sampled, OutOfMemory}
use Rattle.acl_program.specs.program.Outside.{Linked}
use Rattle.acl_program.specs.Answering.{IsBadCertificate, IsFalseCertificate, AsksAnswer}
use Rattle.acl_program.specs.Sampling.{Samples, RefusesSample}
use Rattle.acl_program.specs.serve.Storing.{ServeAsked, OpensStore}
use Rattle.acl_program.specs.serve.Serving.{ServeEnd, LoopEnded, LinkServes, changes_read}

-- the command is done: a decision is told where its words are a question, and rights where theirs say who and on what
abbrev pub IsPerformed : CommandView → Type 0
IsPerformed (Serve serving) = Unit {0}
IsPerformed (Replay data_file script turns dump) = Unit {0}
IsPerformed (Check data_file changes) = Unit {0}
IsPerformed (Why data_file) = Unit {0}
IsPerformed (Dump data_file changes) = Unit {0}
IsPerformed (Explain data_file who target item permission) = (question : Question) × (question_of who target item permission ≡ Some question)
IsPerformed (Sample count) = Unit {0}
IsPerformed (Ask data_file requests script) = Unit {0}
IsPerformed (Prove data_file who target item permission) = (question : Question) × (question_of who target item permission ≡ Some question)
IsPerformed (Verify data_file certificate) = Unit {0}
IsPerformed (Rights data_file who target) = (requester : Requester) × (name : RdnSequence) × (who_of who ≡ Some requester) × (target_of target ≡ Some name)
IsPerformed Help = Unit {0}
IsPerformed Version = Unit {0}

-- the words ask for nothing that is done
unfoldable pub IsNoCommand : List (List ℕ) → Type 0
IsNoCommand words = (asked : CommandView) → IsCommand words asked → IsPerformed asked → ⊥

-- the data file of a command, where it has one
abbrev pub data_of : CommandView → Option (List ℕ)
data_of (Serve serving) = Some serving.data_file
data_of (Replay data_file script turns dump) = Some data_file
data_of (Check data_file changes) = Some data_file
data_of (Why data_file) = Some data_file
data_of (Dump data_file changes) = Some data_file
data_of (Explain data_file who target item permission) = Some data_file
data_of (Sample count) = None
data_of (Ask data_file requests script) = Some data_file
data_of (Prove data_file who target item permission) = Some data_file
data_of (Verify data_file certificate) = Some data_file
data_of (Rights data_file who target) = Some data_file
data_of Help = None
data_of Version = None

-- a file that is read after the data file: what it is to be, and its name
pub record Second : Type 0 where
  pub kind : SecondFile
  pub name : List ℕ

-- the same, by its parts
abbrev pub second_named : SecondFile → List ℕ → Second
second_named kind name = record { kind = kind; name = name }

-- that of a command, where it has one
abbrev pub second_of : CommandView → Option Second
second_of (Serve serving) = None
second_of (Replay data_file script turns dump) = Some (second_named second.Script script)
second_of (Check data_file changes) = None
second_of (Why data_file) = None
second_of (Dump data_file changes) = None
second_of (Explain data_file who target item permission) = None
second_of (Sample count) = None
second_of (Ask data_file requests script) = Some (second_named second.Requests requests)
second_of (Prove data_file who target item permission) = None
second_of (Verify data_file certificate) = Some (second_named second.Certificate certificate)
second_of (Rights data_file who target) = None
second_of Help = None
second_of Version = None

-- the file of changes of a command, where it has one
abbrev pub changes_of : CommandView → Option (List ℕ)
changes_of (Serve serving) = serving.changes
changes_of (Replay data_file script turns dump) = None
changes_of (Check data_file changes) = changes
changes_of (Why data_file) = None
changes_of (Dump data_file changes) = changes
changes_of (Explain data_file who target item permission) = None
changes_of (Sample count) = None
changes_of (Ask data_file requests script) = None
changes_of (Prove data_file who target item permission) = None
changes_of (Verify data_file certificate) = None
changes_of (Rights data_file who target) = None
changes_of Help = None
changes_of Version = None

-- the words ask for a command with this data file
unfoldable pub AsksData : List (List ℕ) → List ℕ → Type 0
AsksData words data_file = (asked : CommandView) × IsCommand words asked × (data_of asked ≡ Some data_file)

-- a replay whose data file is accepted
pub record AsksReplay (words : List (List ℕ)) (files : Option Files) (script : List ℕ) (turns : ℕ) (dump : Bool) (entries : List EntryInformation) : Type 0 where
  pub data_file : List ℕ
  pub asked : IsCommand words (Replay data_file script turns dump)
  pub good : HoldsIn files data_file (IsGoodData entries)

-- the data file wasn't read
pub record LacksData (words : List (List ℕ)) (files : Option Files) (before after : ℕ) : Type 0 where
  pub data_file : List ℕ
  pub asked : AsksData words data_file
  pub unread : IsUnread files data_file before after

-- the words ask for a command with this second file, whose data file is accepted
pub record AsksSecond (words : List (List ℕ)) (files : Option Files) (read : Second) (entries : List EntryInformation) : Type 0 where
  pub command : CommandView
  pub data_file : List ℕ
  pub asked : IsCommand words command
  pub has_data : data_of command ≡ Some data_file
  pub has_second : second_of command ≡ Some read
  pub good : HoldsIn files data_file (IsGoodData entries)

-- the data file was accepted, and the second file wasn't read
pub record LacksSecond (words : List (List ℕ)) (files : Option Files) (before after : ℕ) : Type 0 where
  pub read : Second
  pub entries : List EntryInformation
  pub asked : AsksSecond words files read entries
  pub unread : IsUnread files read.name before after

-- the data file was accepted, and the file of changes wasn't read
pub record LacksChanges (words : List (List ℕ)) (files : Option Files) (before after : ℕ) : Type 0 where
  pub command : CommandView
  pub data_file : List ℕ
  pub asked : IsCommand words command
  pub has_data : data_of command ≡ Some data_file
  pub unread : IsUnreadBeside files data_file before after (changes_of command)

-- the data file is refused
pub record RefusesData (words : List (List ℕ)) (files : Option Files) (line : ℕ) (cause : FileCause) : Type 0 where
  pub data_file : List ℕ
  pub asked : AsksData words data_file
  pub bad : FailsIn files data_file (IsBadData line cause)

-- where the words ask why a data file is refused, it is refused by its first bad line alone only where it is too long
abbrev pub TellsLineAlone : List (List ℕ) → Option Files → ℕ → FileCause → Type 0
TellsLineAlone words files line cause =
    (data_file : List ℕ) → IsCommand words (Why data_file) → FailsIn files data_file (IsLongData line) × (cause ≡ OfRecord load.Limit)

-- the words ask why a data file is refused, of which what is known says that it has this content, which is not too long and
-- isn't accepted for this cause at this line
pub record ExplainsData (words : List (List ℕ)) (holds : List ℕ → (List ℕ → Type 0) → Type 0) (line : ℕ) (cause : FileCause) (content : List ℕ) : Type 0 where
  pub data_file : List ℕ
  pub asked : IsCommand words (Why data_file)
  pub is : holds data_file (λ own. own ≡ content)
  pub bad : IsFaultyData line cause content

-- the data file was accepted, and the file of changes is refused
pub record RefusesChanges (words : List (List ℕ)) (files : Option Files) (line : ℕ) (cause : ChangesCause) : Type 0 where
  pub command : CommandView
  pub data_file : List ℕ
  pub asked : IsCommand words command
  pub has_data : data_of command ≡ Some data_file
  pub bad : IsBadBeside files data_file line cause (changes_of command)

-- the line of a second file at which it is refused: it isn't a script or requests, or isn't in a certificate's form
abbrev pub IsBadSecond : SecondFile → List EntryInformation → ℕ → List ℕ → Type 0
IsBadSecond second.Script entries line content = IsBadScript line content
IsBadSecond second.Requests entries line content = IsBadRequests line content
IsBadSecond second.Certificate entries line content = IsBadCertificate entries line content

-- the data file was accepted, and the second file is refused
pub record RefusesSecond (words : List (List ℕ)) (files : Option Files) (kind : SecondFile) (line : ℕ) : Type 0 where
  pub name : List ℕ
  pub entries : List EntryInformation
  pub asked : AsksSecond words files (second_named kind name) entries
  pub bad : FailsIn files name (IsBadSecond kind entries line)

-- the words ask for a certificate to be verified over an accepted data file, and this is its first line that is false
pub record RefutesCertificate (words : List (List ℕ)) (files : Option Files) (line : ℕ) : Type 0 where
  pub data_file : List ℕ
  pub certificate : List ℕ
  pub entries : List EntryInformation
  pub asked : IsCommand words (Verify data_file certificate)
  pub good : HoldsIn files data_file (IsGoodData entries)
  pub refuted : HoldsIn files certificate (IsFalseCertificate entries line)

-- a command of a data file and perhaps of a file of changes, of which what is known says that they are accepted and leave
-- this
pub record AsksLoaded (command : List ℕ → Option (List ℕ) → CommandView) (words : List (List ℕ)) (holds : List ℕ → (List ℕ → Type 0) → Type 0) (left : Left) : Type 0 where
  pub data_file : List ℕ
  pub changes : Option (List ℕ)
  pub asked : IsCommand words (command data_file changes)
  pub good : IsLoaded holds data_file changes left

-- a replay, both of whose files are accepted
pub record AsksBoth (words : List (List ℕ)) (files : Option Files) (events : List ScriptEvent) (turns : ℕ) (dump : Bool) (entries : List EntryInformation) : Type 0 where
  pub script : List ℕ
  pub asked : AsksReplay words files script turns dump entries
  pub good : HoldsIn files script (IsGoodScript events)

-- the words ask for a data file to be served
unfoldable pub AsksServing : List (List ℕ) → Type 0
AsksServing words = (serving : ServingView) × IsCommand words (Serve serving)

-- and its changes to be stored in a file
unfoldable pub AsksStoring : List (List ℕ) → Type 0
AsksStoring words = (serving : ServingView) × IsCommand words (Serve serving) × (is_some serving.changes ≡ true)

-- a data file of this content is to be served, with its file of changes where one is named: those that were read are accepted,
-- and leave this
pub record AsksServe (words : List (List ℕ)) (files : Option Files) (asks : ServeAsked) (end : ServeEnd) : Type 0 where
  pub asked : IsCommand words (Serve asks.serving)
  pub good : IsLoadedFrom (HoldsIn files) asks.serving.data_file (changes_read end asks.serving.changes) asks.content asks.left

-- when each outcome comes, by the words, the files that the shelf tells, and its count of faults before and after: the count
-- is as it was but where a file wasn't read
unfoldable pub Comes : List (List ℕ) → Option Files → ℕ → ℕ → Outcome → Type 0
Comes words files before after NoCommand = IsNoCommand words × (after ≡ before)
Comes words files before after NoFile = LacksData words files before after ⊎ (LacksSecond words files before after ⊎ LacksChanges words files before after)
Comes words files before after (BadDataLine line cause) =
    (RefusesData words files line cause ⊎ RefusesSample words line cause) × TellsLineAlone words files line cause × (after ≡ before)
Comes words files before after (BadChangesLine line cause) = RefusesChanges words files line cause × (after ≡ before)
Comes words files before after (BadLine file line) = RefusesSecond words files file line × (after ≡ before)
Comes words files before after (FalseLine line) = RefutesCertificate words files line × (after ≡ before)
Comes words files before after (Checked left) = AsksLoaded Check words (HoldsIn files) left × (after ≡ before)
Comes words files before after (Dumped left) = AsksLoaded Dump words (HoldsIn files) left × (after ≡ before)
Comes words files before after (Replayed events turns dump entries) = AsksBoth words files events turns dump entries × (after ≡ before)
Comes words files before after (Served asks end) = AsksServe words files asks end × (after ≡ before)
Comes words files before after (Answered text) = AsksAnswer words (HoldsIn files) text × (after ≡ before)
Comes words files before after (Explained line cause content) = ExplainsData words (HoldsIn files) line cause content × (after ≡ before)
Comes words files before after (Sampled text) = Samples words text × (after ≡ before)
Comes words files before after OutOfMemory = after ≡ before

-- the link is as it was; or the words ask for serving, and the store of the file of changes was opened, and nothing else done
abbrev pub MayOpenStore : List (List ℕ) → Linked → Linked → Type 0
MayOpenStore words before after =
    (after ≡ before) ⊎ ((serving : ServingView) × IsCommand words (Serve serving) × OpensStore serving.changes (Ok tt) before after)

-- the link as a command leaves it that refuses its file of changes: serving opened the store first, and nothing else was done
abbrev pub OpensFor : CommandView → Linked → Linked → Type 0
OpensFor (Serve serving) before after = OpensStore serving.changes (Ok tt) before after
OpensFor asked before after = after ≡ before

-- what each outcome says of the link: all leave it as it was but serving, which opens the store before it reads the file of
-- changes
unfoldable pub Links : List (List ℕ) → Outcome → Linked → Linked → Type 0
Links words NoCommand before after = after ≡ before
Links words NoFile before after = MayOpenStore words before after
Links words (BadDataLine line cause) before after = after ≡ before
Links words (BadChangesLine line cause) before after = (asked : CommandView) × IsCommand words asked × OpensFor asked before after
Links words (BadLine file line) before after = after ≡ before
Links words (FalseLine line) before after = after ≡ before
Links words (Checked left) before after = after ≡ before
Links words (Dumped left) before after = after ≡ before
Links words (Replayed events turns dump entries) before after = after ≡ before
Links words (Served asks end) before after = LinkServes asks end before after
Links words (Answered text) before after = after ≡ before
Links words (Explained line cause content) before after = after ≡ before
Links words (Sampled text) before after = after ≡ before
Links words OutOfMemory before after = MayOpenStore words before after

-- Stop was heard in this call, where the link tells its journal
unfoldable pub HearsStop : Option (List Item) → Option (List Item) → Type 0
HearsStop before after = (begun : List Item) × (added : List Item) × (before ≡ Some begun) × (after ≡ Some (begun ++ added)) × (was_stopped added ≡ true)

-- the outcome that is due where the words are a command whose files the shelf tells, and which are accepted, or of whose data
-- file they ask why it isn't; serving is done where neither the link nor its store failed, and it gave Stop, and a sample reads
-- no file
unfoldable pub IsDue : List (List ℕ) → Option Files → Linked → Linked → Outcome → Type 0
IsDue words files old new NoCommand = ⊥
IsDue words files old new NoFile = ⊥
IsDue words files old new (BadDataLine line cause) = ⊥
IsDue words files old new (BadChangesLine line cause) = ⊥
IsDue words files old new (BadLine file line) = ⊥
IsDue words files old new (FalseLine line) = ⊥
IsDue words files old new (Checked left) = AsksLoaded Check words (IsTold files) left
IsDue words files old new (Dumped left) = AsksLoaded Dump words (IsTold files) left
IsDue words files old new (Replayed events turns dump entries) =
    (data_file : List ℕ) × (script : List ℕ) × IsCommand words (Replay data_file script turns dump)
    × IsTold files data_file (IsGoodData entries) × IsTold files script (IsGoodScript events)
IsDue words files old new (Served asks end) =
    (end ≡ LoopEnded ended.Stopped) × IsCommand words (Serve asks.serving)
    × IsLoadedFrom (IsTold files) asks.serving.data_file asks.serving.changes asks.content asks.left
    × (Rose old.faults new.faults → ⊥) × (Rose old.store_faults new.store_faults → ⊥) × HearsStop old.journal new.journal
IsDue words files old new (Answered text) = AsksAnswer words (IsTold files) text
IsDue words files old new (Explained line cause content) = ExplainsData words (IsTold files) line cause content
IsDue words files old new (Sampled text) = Samples words text
IsDue words files old new OutOfMemory = ⊥
