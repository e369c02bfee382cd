-- What the program puts, and when it ends as it does.
use Rattle.std.specs.Prelude.{◌≡◌, ◌⊎◌, ℕ, List, take, Option}
use Rattle.command_files.specs.plain_values.Counts.{Rose}
use Rattle.command_files.specs.wire_io.Putting.{appended}
use Rattle.acl_program.specs.declared.status.Status.{Status}
use Rattle.acl_program.specs.declared.status.Status.TheVariants.{Done, Usage, BadData, ShelfFault, SinkFault, LinkFault, TurnsSpent, NoMemory, BadScript, NotProved, StoreFault}
use Rattle.acl_program.specs.program.Outside.{Outside, NoneFailed, LinkFailed, StoreFailed}
use Rattle.acl_program.specs.Outcomes.{Outcome, text_of, status_of}
use Rattle.command_files.specs.declared.changing.ChangesCause.{ChangesCause}
use Rattle.command_files.specs.declared.loading.SecondFile.{SecondFile}
use Rattle.command_files.specs.ldif_load.load.DataFile.{FileCause}
use Rattle.acl_program.specs.program.Causes.{Comes, Links, AsksServing, AsksStoring, LacksChanges, LacksData, LacksSecond, RefusesChanges, RefusesData, RefusesSecond, RefutesCertificate}
use Rattle.acl_program.specs.Sampling.{RefusesSample}

-- a front of the text was put
abbrev pub PutsFront : Option (List ℕ) → List ℕ → Option (List ℕ) → Type 0
PutsFront old text new = (count : ℕ) × (new ≡ appended old (take count text))

-- the text of an outcome was put whole, with the status that it has; with a fault of the sink, or no memory, a front of it
abbrev pub Puts : Outcome → Option (List ℕ) → Status → Option (List ℕ) → Type 0
Puts outcome old SinkFault new = PutsFront old (text_of outcome) new
Puts outcome old NoMemory new = PutsFront old (text_of outcome) new
Puts outcome old status new = (status ≡ status_of outcome) × (new ≡ appended old (text_of outcome))

-- the program printed the text of an outcome that comes with its words and its shelf, and did with the link what the
-- outcome says
unfoldable pub Prints : List (List ℕ) → Outside → Status → Outside → Type 0
Prints words before status after =
    (outcome : Outcome) × Comes words before.shelf.files before.shelf.faults after.shelf.faults outcome × Puts outcome before.out.put status after.out.put
    × Links words outcome before.link after.link

-- it ended as the outcome does, but for want of memory
abbrev pub EndsAs : Outcome → Status → Type 0
EndsAs outcome status = (status ≡ NoMemory) ⊎ (status ≡ status_of outcome)

-- what came where it ended with one of these statuses
unfoldable pub IsCause : List (List ℕ) → Outside → Outside → Status → Type 0
IsCause words before after BadData =
    ((line : ℕ) × (cause : FileCause) × (RefusesData words before.shelf.files line cause ⊎ RefusesSample words line cause))
    ⊎ ((line : ℕ) × (cause : ChangesCause) × RefusesChanges words before.shelf.files line cause)
IsCause words before after ShelfFault =
    LacksData words before.shelf.files before.shelf.faults after.shelf.faults
    ⊎ (LacksSecond words before.shelf.files before.shelf.faults after.shelf.faults ⊎ LacksChanges words before.shelf.files before.shelf.faults after.shelf.faults)
IsCause words before after BadScript = (file : SecondFile) × (line : ℕ) × RefusesSecond words before.shelf.files file line
IsCause words before after NotProved = (line : ℕ) × RefutesCertificate words before.shelf.files line
IsCause words before after Done = Unit {0}
IsCause words before after Usage = Unit {0}
IsCause words before after SinkFault = Unit {0}
IsCause words before after LinkFault = AsksServing words × LinkFailed before.link after.link
IsCause words before after TurnsSpent = Unit {0}
IsCause words before after NoMemory = Unit {0}
IsCause words before after StoreFault = AsksStoring words × StoreFailed before.link after.link

-- the shelf's count and the sink's are as they were
abbrev pub NoFaults : Outside → Outside → Type 0
NoFaults before after = (after.shelf.faults ≡ before.shelf.faults) × (after.out.faults ≡ before.out.faults)

-- what the counts of faults say of each status: a fault ends the program, so each count is as it was but where its fault is
-- answered; the shelf's, the link's or its store's may also have risen where the sink refused the line that says so, or
-- wanted memory for it
unfoldable pub EndsAtFaults : Outside → Outside → Status → Type 0
EndsAtFaults before after SinkFault = Rose before.out.faults after.out.faults
EndsAtFaults before after NoMemory = after.out.faults ≡ before.out.faults
EndsAtFaults before after ShelfFault = (after.out.faults ≡ before.out.faults) × NoneFailed before.link after.link
EndsAtFaults before after LinkFault = NoFaults before after × LinkFailed before.link after.link
EndsAtFaults before after StoreFault = NoFaults before after × StoreFailed before.link after.link
EndsAtFaults before after Done = NoFaults before after × NoneFailed before.link after.link
EndsAtFaults before after Usage = NoFaults before after × NoneFailed before.link after.link
EndsAtFaults before after BadData = NoFaults before after × NoneFailed before.link after.link
EndsAtFaults before after TurnsSpent = NoFaults before after × NoneFailed before.link after.link
EndsAtFaults before after BadScript = NoFaults before after × NoneFailed before.link after.link
EndsAtFaults before after NotProved = NoFaults before after × NoneFailed before.link after.link
