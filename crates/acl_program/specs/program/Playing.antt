-- What the parts of a replay promise each other: a script read from a shelf, and what its loop leaves in the journal.
use Rattle.std.specs.Prelude.{◌≡◌, ◌<◌, ◌≤◌, ◌++◌, ℕ, List, [], length, flat_map, Option, Some, None}
use Rattle.command_files.specs.plain_values.Counts.{Rose}
use Rattle.command_files.specs.script_text.declared.event.ScriptEvent.{ScriptEvent}
use Rattle.command_files.specs.wire_io.declared.journal.Item.{Item}
use Rattle.command_files.specs.wire_io.Files.{Files}
use Rattle.command_files.specs.wire_io.Journal.{opened_by, taken_of, is_hung_up}
use Rattle.command_files.specs.wire_io.Pieces.{pieces}
use Rattle.command_files.specs.wire_io.Rising.{rising}
use Rattle.session_hub.specs.declared.ended.Ended.{Ended}
use Rattle.session_hub.specs.declared.ended.Ended.TheVariants as ended
use Rattle.session_hub.specs.serve.Loops.{buffer_length}
use Rattle.command_words.specs.command.Command.{CommandView, IsCommand}
use Rattle.command_files.specs.dir_tree.Entry.{EntryInformation}
use Rattle.command_files.specs.dir_tree.tree.Numbered.{Numbered, entries_of}
use Rattle.command_files.specs.ldif_records.writing.WrittenFile.{written_file}
use Rattle.command_files.specs.aci_item.Rules.{IsGoodTree}
use Rattle.command_files.specs.Outside.{Written}
use Rattle.acl_program.specs.declared.status.Status.{Status}
use Rattle.acl_program.specs.declared.status.Status.TheVariants.{Done, Usage, BadData, ShelfFault, SinkFault, LinkFault, TurnsSpent, NoMemory, BadScript, NotProved, StoreFault}
use Rattle.acl_program.specs.Lines.{line_of, replay_text, entries_after}
use Rattle.acl_program.specs.Outcomes.{Outcome, text_of, status_of}
use Rattle.acl_program.specs.program.Causes.{Comes, Links}
use Rattle.acl_program.specs.program.Outside.{Linked, Outside}
use Rattle.acl_program.specs.program.Running.{Puts}

-- the lines that a journal tells, of these connections
abbrev pub journal_lines : List Item → List ℕ → List ℕ
journal_lines journal conns = flat_map (λ conn. line_of conn (taken_of conn journal) (is_hung_up conn journal)) conns

-- the lines that a journal tells, of all connections opened
unfoldable pub journal_text : List Item → List ℕ
journal_text journal = journal_lines journal (rising (opened_by journal))

-- the tree as a data file, where there is one to put
abbrev pub dumped_text : Option (List Numbered) → List ℕ
dumped_text None = []
dumped_text (Some rows) = written_file (entries_of rows)

-- it is good
abbrev pub IsDumpable : Option (List Numbered) → Type 0
IsDumpable None = Unit {0}
IsDumpable (Some rows) = IsGoodTree (entries_of rows)

-- what a loop of so many turns over a script and these entries leaves: the journal tells the replay's lines, and the entries
-- are those that the replay leaves
unfoldable pub Plays : List EntryInformation → List EntryInformation → List ScriptEvent → ℕ → Ended → List Item → Type 0
Plays entries left events turns ended.Stopped journal =
    (journal_text journal ≡ replay_text entries events turns) × (left ≡ entries_after entries events turns) × (length (pieces buffer_length events) < turns)
Plays entries left events turns ended.TurnsSpent journal =
    (journal_text journal ≡ replay_text entries events turns) × (left ≡ entries_after entries events turns) × (turns ≤ length (pieces buffer_length events))
Plays entries left events turns ended.LinkFault journal = ⊥
Plays entries left events turns ended.StoreFault journal = ⊥
Plays entries left events turns ended.NoMemory journal = Unit {0}

-- the sink's count rose where it is to blame, and is otherwise as it was
abbrev pub IsSinkCount : ℕ → ℕ → Status → Type 0
IsSinkCount before after SinkFault = Rose before after
IsSinkCount before after Done = after ≡ before
IsSinkCount before after Usage = after ≡ before
IsSinkCount before after BadData = after ≡ before
IsSinkCount before after ShelfFault = after ≡ before
IsSinkCount before after LinkFault = after ≡ before
IsSinkCount before after TurnsSpent = after ≡ before
IsSinkCount before after NoMemory = after ≡ before
IsSinkCount before after BadScript = after ≡ before
IsSinkCount before after NotProved = after ≡ before
IsSinkCount before after StoreFault = after ≡ before

-- the text of an outcome was put, and the sink's fault has its cause
pub record Ends (outcome : Outcome) (before : Written) (status : Status) (after : Written) : Type 0 where
  pub puts : Puts outcome before.put status after.put
  pub cause : IsSinkCount before.faults after.faults status

-- the outcome comes with every words that ask for the command
abbrev pub ComesFor : CommandView → Option Files → ℕ → ℕ → Outcome → Type 0
ComesFor asked files before after outcome = (words : List (List ℕ)) → IsCommand words asked → Comes words files before after outcome

-- the link is as the outcome says with every such words
abbrev pub LinksFor : CommandView → Outcome → Linked → Linked → Type 0
LinksFor asked outcome before after = (words : List (List ℕ)) → IsCommand words asked → Links words outcome before after

-- a command came to an outcome, and did with the link what the outcome says
unfoldable pub Performs : CommandView → Outside → Status → Outside → Type 0
Performs asked before status after =
    (outcome : Outcome) × ComesFor asked before.shelf.files before.shelf.faults after.shelf.faults outcome × Ends outcome before.out status after.out
    × LinksFor asked outcome before.link after.link

-- the program came to an outcome, and did with the link what the outcome says
unfoldable pub Runs : List (List ℕ) → Outside → Status → Outside → Type 0
Runs words before status after =
    (outcome : Outcome) × Comes words before.shelf.files before.shelf.faults after.shelf.faults outcome × Ends outcome before.out status after.out
    × Links words outcome before.link after.link

-- the lines of a journal and then a tree were to be put, and then the program was to end so: an outcome with this text and
-- this status
unfoldable pub Shows : List Item → List ℕ → Status → Written → Status → Written → Type 0
Shows journal dumped wanted before status after =
    (outcome : Outcome) → text_of outcome ≡ journal_text journal ++ dumped → status_of outcome ≡ wanted → Ends outcome before status after
