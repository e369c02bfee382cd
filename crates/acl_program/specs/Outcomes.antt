-- What the program comes to: one row an outcome, with the text that it prints and how it ends.
use Rattle.std.specs.Prelude.{ℕ, Bool, true, false, ◌++◌, nat_lt, List, [], length, codes, decimal, if◌then◌else◌, Result, Ok, Err}
use Rattle.command_files.specs.script_text.declared.event.ScriptEvent.{ScriptEvent}
use Rattle.command_files.specs.wire_io.declared.answers.PutFault.{PutFault}
use Rattle.command_files.specs.wire_io.declared.answers.PutFault.TheVariants as put
use Rattle.command_files.specs.wire_io.Pieces.{pieces}
use Rattle.session_hub.specs.serve.Loops.{buffer_length}
use Rattle.command_files.specs.dir_tree.Entry.{EntryInformation}
use Rattle.command_files.specs.dir_tree.Points.{access_subentries}
use Rattle.command_files.specs.declared.changing.ChangesCause.{ChangesCause}
use Rattle.command_files.specs.declared.loading.SecondFile.{SecondFile}
use Rattle.command_files.specs.loading.Changing.{Left}
use Rattle.command_files.specs.ldif_records.writing.WrittenFile.{written_file}
use Rattle.command_files.specs.ldif_load.load.DataFile.{FileCause}
use Rattle.command_files.specs.Troubles.{no_file_text, bad_data_text, bad_changes_text, bad_line_text}
use Rattle.fault_places.specs.Refusals.{refusal_text}
use Rattle.acl_program.specs.declared.status.Status.{Status}
use Rattle.acl_program.specs.declared.status.Status.TheVariants.{Done, Usage, BadData, ShelfFault, SinkFault, LinkFault, TurnsSpent, NoMemory, BadScript, NotProved, StoreFault}
use Rattle.acl_program.specs.Lines.{replay_text, entries_after}
use Rattle.acl_program.specs.serve.Storing.{ServeAsked}
use Rattle.acl_program.specs.serve.Serving.{ServeEnd, applied_text, serve_text, serve_status}

-- no command is asked for; a file wasn't read; the data file's first bad line, and why; the first line at which a file of
-- changes isn't accepted, and why; the first bad line of a script, of requests or of a certificate; the first line of a
-- certificate that isn't that of the loaded tree; a data file, or what changes leave of it, was checked, or put again; a
-- script was replayed for so many turns, and the tree put after it if that was asked for; a data file was served over the
-- link; what was asked of a data file was answered by this text; a data file of this content has this first bad line, and why
-- was asked; a sample was made and served; memory ran out before
-- anything was printed
pub data Outcome : Type 0 where
  NoCommand : Outcome
  NoFile : Outcome
  BadDataLine : (line : ℕ) (cause : FileCause) → Outcome
  BadChangesLine : (line : ℕ) (cause : ChangesCause) → Outcome
  BadLine : (file : SecondFile) (line : ℕ) → Outcome
  FalseLine : (line : ℕ) → Outcome
  Checked : (left : Left) → Outcome
  Dumped : (left : Left) → Outcome
  Replayed : (events : List ScriptEvent) (turns : ℕ) (dump : Bool) (entries : List EntryInformation) → Outcome
  Served : (asked : ServeAsked) (end : ServeEnd) → Outcome
  Answered : (text : List ℕ) → Outcome
  Explained : (line : ℕ) (cause : FileCause) (content : List ℕ) → Outcome
  Sampled : (text : List ℕ) → Outcome
  OutOfMemory : Outcome

-- the tree as a data file, where it is asked for
abbrev pub dump_text : Bool → List EntryInformation → List ℕ
dump_text true entries = written_file entries
dump_text false entries = []

-- what is printed
unfoldable pub text_of : Outcome → List ℕ
text_of NoCommand = codes "usage: aclserver (serve|replay|check|dump|explain|sample|ask|prove|verify|rights) WORDS\n"
text_of NoFile = no_file_text
text_of (BadDataLine line cause) = bad_data_text line cause
text_of (BadChangesLine line cause) = bad_changes_text line cause
text_of (BadLine file line) = bad_line_text file line
text_of (FalseLine line) = codes "false line " ++ (decimal line ++ codes "\n")
text_of (Checked left) =
    codes "ok " ++ (decimal (length left.entries) ++ (codes " " ++ (decimal (access_subentries left.entries) ++ (codes "\n" ++ applied_text left.applied))))
text_of (Dumped left) = written_file left.entries
text_of (Replayed events turns dump entries) = replay_text entries events turns ++ dump_text dump (entries_after entries events turns)
text_of (Served asked end) = serve_text asked end
text_of (Answered text) = text
text_of (Explained line cause content) = bad_data_text line cause ++ refusal_text content
text_of (Sampled text) = text
text_of OutOfMemory = []

-- how it ends, where all is printed: a replay is done where Stop was heard, which comes after the script's pieces
unfoldable pub status_of : Outcome → Status
status_of NoCommand = Usage
status_of NoFile = ShelfFault
status_of (BadDataLine line cause) = BadData
status_of (BadChangesLine line cause) = BadData
status_of (BadLine file line) = BadScript
status_of (FalseLine line) = NotProved
status_of (Checked left) = Done
status_of (Dumped left) = Done
status_of (Replayed events turns dump entries) = if nat_lt (length (pieces buffer_length events)) turns then Done else TurnsSpent
status_of (Served asked end) = serve_status end
status_of (Answered text) = Done
status_of (Explained line cause content) = BadData
status_of (Sampled text) = Done
status_of OutOfMemory = NoMemory

-- the number that the program exits with
abbrev pub number_of : Status → ℕ
number_of Done = 0
number_of Usage = 2
number_of BadData = 3
number_of ShelfFault = 4
number_of SinkFault = 5
number_of LinkFault = 6
number_of TurnsSpent = 7
number_of NoMemory = 8
number_of BadScript = 9
number_of NotProved = 10
number_of StoreFault = 11

-- how it ends after a text was to be printed: a refusal of the sink comes before all else
abbrev pub settled : Result (Unit {0}) PutFault → Status → Status
settled (Ok done) wanted = wanted
settled (Err put.Failed) wanted = SinkFault
settled (Err put.NoMemory) wanted = NoMemory
