-- What the program puts, and when it ends as it does, by its words and the files that its shelf tells. The data file is read
-- first, then the script.
use Rattle.std.specs.Prelude.{◌≡◌, ◌⊎◌, ℕ, List, [], Option, None}
use Rattle.command_files.specs.plain_values.Counts.{Rose}
use Rattle.command_files.specs.script_text.declared.event.ScriptEvent.{ScriptEvent}
use Rattle.command_files.specs.wire_io.Files.{Files}
use Rattle.command_files.specs.wire_io.Pieces.{pieces}
use Rattle.command_files.specs.wire_io.Putting.{appended}
use Rattle.command_files.specs.dn_names.name.Names.{RdnSequence}
use Rattle.command_files.specs.ldif_load.load.DataFile.{FileCause}
use Rattle.command_files.specs.declared.loading.SecondFile.TheVariants as second
use Rattle.command_files.specs.loading.Accepting.{IsUnread, HoldsIn, FailsIn, IsTold, IsGoodData, IsBadData, IsGoodScript, IsBadScript}
use Rattle.command_files.specs.Ending.{EndsBy}
use Rattle.command_files.specs.Outside.{Shelved, Written, shelved}
use Rattle.command_files.specs.Troubles.{no_file_text, bad_data_text, bad_line_text}
use Rattle.session_hub.specs.session_model.Run.{Step}
use Rattle.session_hub.specs.session_model.Journaled.{steps_of_events}
use Rattle.session_hub.specs.serve.Loops.{buffer_length}
use Rattle.session_hub.specs.Parties.{DirectoryEntries}
use Rattle.session_hub.specs.Terms.{no_terms}
use Rattle.hush_laws.specs.declared.audited.Audited.{Audited}
use Rattle.hush_laws.specs.Audits.{IsAudit, audit_text}
use Rattle.audit_program.specs.declared.status.AuditStatus.{AuditStatus}
use Rattle.audit_program.specs.declared.status.AuditStatus.TheVariants.{Done, Usage, BadData, ShelfFault, SinkFault, NoMemory, BadScript}
use Rattle.audit_program.specs.Statuses.{put_statuses, usage_text}
use Rattle.audit_program.specs.Words.{AuditView, IsAsked}

-- the steps of a script: its events, long ones in pieces of the loop's buffer
abbrev pub script_steps : List ScriptEvent → List Step
script_steps events = steps_of_events (pieces buffer_length events)

-- an audit over entries and a script's events; where the hush was kept, nothing differs
pub record IsSoundAudit (entries : DirectoryEntries) (events : List ScriptEvent) (number : ℕ) (top : RdnSequence) (audited : Audited) : Type 0 where
  pub audit : IsAudit no_terms entries (script_steps events) number top audited
  pub hushed : audited.fault ≡ None → audited.differs ≡ None

-- the words ask for an audit, both of whose files are accepted, and this is its answer
pub record Audits (words : List (List ℕ)) (files : Option Files) (audited : Audited) : Type 0 where
  pub asked : AuditView
  pub entries : DirectoryEntries
  pub events : List ScriptEvent
  pub asks : IsAsked words asked
  pub good_data : HoldsIn files asked.data_file (IsGoodData entries)
  pub good_script : HoldsIn files asked.script (IsGoodScript events)
  pub sound : IsSoundAudit entries events asked.number asked.top audited

-- the words ask for no audit
unfoldable pub AskNoAudit : List (List ℕ) → Type 0
AskNoAudit words = (asked : AuditView) → IsAsked words asked → ⊥

-- they ask for an audit, whose data file wasn't read
pub record LacksData (words : List (List ℕ)) (files : Option Files) (before after : ℕ) : Type 0 where
  pub asked : AuditView
  pub asks : IsAsked words asked
  pub unread : IsUnread files asked.data_file before after

-- whose data file is refused
pub record RefusesData (words : List (List ℕ)) (files : Option Files) (line : ℕ) (cause : FileCause) : Type 0 where
  pub asked : AuditView
  pub asks : IsAsked words asked
  pub bad : FailsIn files asked.data_file (IsBadData line cause)

-- whose data file was accepted, and whose script wasn't read
pub record LacksScript (words : List (List ℕ)) (files : Option Files) (before after : ℕ) : Type 0 where
  pub asked : AuditView
  pub entries : DirectoryEntries
  pub asks : IsAsked words asked
  pub good_data : HoldsIn files asked.data_file (IsGoodData entries)
  pub unread : IsUnread files asked.script before after

-- whose data file was accepted, and whose script is refused
pub record RefusesScript (words : List (List ℕ)) (files : Option Files) (line : ℕ) : Type 0 where
  pub asked : AuditView
  pub entries : DirectoryEntries
  pub asks : IsAsked words asked
  pub good_data : HoldsIn files asked.data_file (IsGoodData entries)
  pub bad : FailsIn files asked.script (IsBadScript line)

-- what the program comes to: how it is to end, and the text that it is to put; the shelf's count of faults is as it was but
-- where a file wasn't read, and nothing is put where memory ran out before
unfoldable pub Comes : List (List ℕ) → Shelved → Shelved → AuditStatus → List ℕ → Type 0
Comes words before after Done text = (audited : Audited) × Audits words before.files audited × (text ≡ audit_text audited) × (after.faults ≡ before.faults)
Comes words before after Usage text = AskNoAudit words × (text ≡ usage_text) × (after.faults ≡ before.faults)
Comes words before after BadData text =
    (line : ℕ) × (cause : FileCause) × RefusesData words before.files line cause × (text ≡ bad_data_text line cause) × (after.faults ≡ before.faults)
Comes words before after ShelfFault text =
    (LacksData words before.files before.faults after.faults ⊎ LacksScript words before.files before.faults after.faults) × (text ≡ no_file_text)
Comes words before after SinkFault text = ⊥
Comes words before after NoMemory text = (text ≡ []) × (after.faults ≡ before.faults)
Comes words before after BadScript text =
    (line : ℕ) × RefusesScript words before.files line × (text ≡ bad_line_text second.Script line) × (after.faults ≡ before.faults)

-- what the program reads and puts, as far as it is told
pub record Outside : Type 0 where
  pub shelf : Shelved
  pub out : Written

-- the same by its parts
abbrev pub beside : Shelved → Written → Outside
beside shelf out = record { shelf = shelf; out = out }

-- the same while its shelf had counted so many faults
abbrev pub at_count : ℕ → Outside → Outside
at_count count outside = beside (shelved outside.shelf.files count) outside.out

-- the same with these files on its shelf
abbrev pub with_files : Option Files → Outside → Outside
with_files files outside = beside (shelved files outside.shelf.faults) outside.out

-- it put the text that it came to, and ended so; or a front of it, with the status of a sink that refused or of no memory
unfoldable pub Prints : List (List ℕ) → Outside → AuditStatus → Outside → Type 0
Prints words before status after =
    (wanted : AuditStatus) × (text : List ℕ) × Comes words before.shelf after.shelf wanted text × EndsBy put_statuses text wanted before.out status after.out

-- it put both lines of an audit
unfoldable pub PutsAudit : List (List ℕ) → Outside → Outside → Type 0
PutsAudit words before after = (audited : Audited) × Audits words before.shelf.files audited × (after.out.put ≡ appended before.out.put (audit_text audited))

-- an audit is due: the words ask for one, and the shelf tells that both files are there and accepted
pub record IsDue (words : List (List ℕ)) (files : Option Files) : Type 0 where
  pub asked : AuditView
  pub entries : DirectoryEntries
  pub events : List ScriptEvent
  pub asks : IsAsked words asked
  pub good_data : IsTold files asked.data_file (IsGoodData entries)
  pub good_script : IsTold files asked.script (IsGoodScript events)

-- what came where the program ended so
unfoldable pub IsCause : List (List ℕ) → Outside → Outside → AuditStatus → Type 0
IsCause words before after Done = Unit {0}
IsCause words before after Usage = AskNoAudit words
IsCause words before after BadData = (line : ℕ) × (cause : FileCause) × RefusesData words before.shelf.files line cause
IsCause words before after ShelfFault =
    LacksData words before.shelf.files before.shelf.faults after.shelf.faults ⊎ LacksScript words before.shelf.files before.shelf.faults after.shelf.faults
IsCause words before after SinkFault = Rose before.out.faults after.out.faults
IsCause words before after NoMemory = Unit {0}
IsCause words before after BadScript = (line : ℕ) × RefusesScript words before.shelf.files line

-- the sink's count of faults is as it was but where its fault is answered, and the shelf's but where that is; this may also
-- have risen where the sink refused the line that says so, or wanted memory for it
unfoldable pub EndsAtFaults : Outside → Outside → AuditStatus → Type 0
EndsAtFaults before after SinkFault = Rose before.out.faults after.out.faults
EndsAtFaults before after NoMemory = after.out.faults ≡ before.out.faults
EndsAtFaults before after ShelfFault = after.out.faults ≡ before.out.faults
EndsAtFaults before after Done = (after.out.faults ≡ before.out.faults) × (after.shelf.faults ≡ before.shelf.faults)
EndsAtFaults before after Usage = (after.out.faults ≡ before.out.faults) × (after.shelf.faults ≡ before.shelf.faults)
EndsAtFaults before after BadData = (after.out.faults ≡ before.out.faults) × (after.shelf.faults ≡ before.shelf.faults)
EndsAtFaults before after BadScript = (after.out.faults ≡ before.out.faults) × (after.shelf.faults ≡ before.shelf.faults)
