-- Serving over a link (RFC 4511 5.3): its store is made ready where changes are to be kept, it is opened at an address, a line
-- says so, and then the loop serves its connections.
use Rattle.std.specs.Prelude.{ℕ, ◌*◌, ◌-◌, ◌^◌, min, List, [], ◌++◌, Option, Some, None, is_some, Result, Ok, Err, codes, decimal}
use Rattle.command_files.specs.plain_values.Counts.{NeverFalls}
use Rattle.command_files.specs.wire_io.declared.answers.NextFault.{NextFault}
use Rattle.command_files.specs.wire_io.declared.answers.NextFault.TheVariants as next
use Rattle.command_files.specs.wire_io.link.Telling.{OpenTells}
use Rattle.session_hub.specs.declared.ended.Ended.{Ended}
use Rattle.session_hub.specs.declared.ended.Ended.TheVariants as ended
use Rattle.session_hub.specs.declared.bounds.Bounds.{Bounds}
use Rattle.session_hub.specs.serve.Loops.{Serves, Starves, PlaysOut, EndsFor}
use Rattle.command_words.specs.command.Command.{ServingView}
use Rattle.command_files.specs.dir_tree.Entry.{EntryInformation}
use Rattle.command_files.specs.declared.changing.Applied.{Applied}
use Rattle.acl_program.specs.declared.status.Status.{Status}
use Rattle.acl_program.specs.declared.status.Status.TheVariants.{Done, LinkFault, TurnsSpent, NoMemory, StoreFault}
use Rattle.acl_program.specs.program.Outside.{Linked}
use Rattle.acl_program.specs.serve.Storing.{ServeAsked, StoreCall, OpenStore, Gives, IsPrepared, StoreFails}

-- how it ended: a call of the store was answered with a fault; there was no memory to open the link; the link failed to open;
-- it opened, and the lines that say so weren't put whole; the lines were put, and the loop ended so
pub data ServeEnd : Type 0 where
  NotStored : (call : StoreCall) (fault : NextFault) → ServeEnd
  NotBegun : ServeEnd
  NotOpened : ServeEnd
  NotServed : ServeEnd
  LoopEnded : (how : Ended) → ServeEnd

-- what was applied of a file of changes, where there is one
abbrev pub applied_text : Option Applied → List ℕ
applied_text None = []
applied_text (Some applied) = codes "changes " ++ (decimal applied.count ++ (codes " torn " ++ (decimal applied.torn ++ codes "\n")))

-- the lines that the link is open: what was applied of a file of changes, where there is one, and the address
abbrev pub listening_text : Option Applied → List ℕ → List ℕ
listening_text applied address = applied_text applied ++ (codes "listening " ++ (address ++ codes "\n"))

-- those of what is served
abbrev pub opened_text : ServeAsked → List ℕ
opened_text asked = listening_text asked.left.applied asked.serving.address

-- the line of a store's fault; want of memory has none
abbrev pub store_text : NextFault → List ℕ
store_text next.Failed = codes "store fault\n"
store_text next.NoMemory = []

-- the line of a loop's end, where it has one
abbrev pub ended_text : Ended → List ℕ
ended_text ended.Stopped = []
ended_text ended.TurnsSpent = codes "turns spent\n"
ended_text ended.LinkFault = codes "link fault\n"
ended_text ended.StoreFault = codes "store fault\n"
ended_text ended.NoMemory = []

-- all that is printed
abbrev pub serve_text : ServeAsked → ServeEnd → List ℕ
serve_text asked (NotStored call fault) = store_text fault
serve_text asked NotBegun = []
serve_text asked NotOpened = codes "link fault\n"
serve_text asked NotServed = opened_text asked
serve_text asked (LoopEnded how) = opened_text asked ++ ended_text how

-- how the program ends after a loop
abbrev pub loop_status : Ended → Status
loop_status ended.Stopped = Done
loop_status ended.TurnsSpent = TurnsSpent
loop_status ended.LinkFault = LinkFault
loop_status ended.StoreFault = StoreFault
loop_status ended.NoMemory = NoMemory

-- how it ends after a call of the store
abbrev pub store_status : NextFault → Status
store_status next.Failed = StoreFault
store_status next.NoMemory = NoMemory

-- how the program ends; a fault of the sink aside, a line that wasn't put whole wanted memory
abbrev pub serve_status : ServeEnd → Status
serve_status (NotStored call fault) = store_status fault
serve_status NotBegun = NoMemory
serve_status NotOpened = LinkFault
serve_status NotServed = NoMemory
serve_status (LoopEnded how) = loop_status how

-- the files that were read of those that are named: the file of changes is read once its store was opened
abbrev pub changes_read : ServeEnd → Option (List ℕ) → Option (List ℕ)
changes_read (NotStored OpenStore fault) changes = None
changes_read end changes = changes

-- the link was asked to open at the address, which its journal notes, and gave this answer
abbrev pub Opens : ServingView → Result (Unit {0}) NextFault → Linked → Linked → Type 0
Opens serving answer before after = Gives (λ old given new. OpenTells old serving.address serving.sessions given new) (λ link. link.faults) (λ link. link.store_faults) answer before after

-- so many MiB in octets, or as many as a number of 64 bits counts
abbrev pub octets_of : ℕ → ℕ
octets_of mebibytes = min (mebibytes * 1048576) (2 ^ 64 - 1)

-- the bounds that the words ask for: a limit on searches, that changes are stored where a file of changes is named, and how
-- many octets all queues may have
abbrev pub bounds_of : ServingView → Bounds
bounds_of serving = record { terms = record { limit = serving.limit; keeps = is_some serving.changes }; queues = octets_of serving.queues }

-- the open link was served over the entries, by rules of the bounds that the words ask for, and the loop ended so, for want of
-- memory with a cause alone
pub record ServesUntil (asked : ServeAsked) (how : Ended) (before after : Linked) : Type 0 where
  pub left : List EntryInformation
  pub served : Serves (bounds_of asked.serving).terms asked.left.entries left asked.serving.turns before.journal how after.journal
  pub plays : PlaysOut asked.serving.turns before.journal before.plan how after.journal after.plan
  pub cause : EndsFor (bounds_of asked.serving).terms.keeps before.plan before.faults after.faults before.store_faults after.store_faults how
  pub lost : NeverFalls before.lost after.lost
  pub memory : Starves (bounds_of asked.serving).terms asked.left.entries left before.journal before.refusals how after.journal after.refusals
  pub refusals : NeverFalls before.refusals after.refusals

-- what was done with the link once its store was ready: one `open`, and where that was answered Ok and the lines were put,
-- what the loop did
unfoldable pub LinkListens : ServeAsked → ServeEnd → Linked → Linked → Type 0
LinkListens asked (NotStored call fault) before after = ⊥
LinkListens asked NotBegun before after = Opens asked.serving (Err next.NoMemory) before after
LinkListens asked NotOpened before after = Opens asked.serving (Err next.Failed) before after
LinkListens asked NotServed before after = Opens asked.serving (Ok tt) before after
LinkListens asked (LoopEnded how) before after = (opened : Linked) × Opens asked.serving (Ok tt) before opened × ServesUntil asked how opened after

-- the store is ready, and this was done after it
abbrev pub ServesPrepared : ServeAsked → ServeEnd → Linked → Linked → Type 0
ServesPrepared asked end before after = (ready : Linked) × IsPrepared asked asked.serving.changes before ready × LinkListens asked end ready after

-- what was done with the link: a call of its store failed; or the store was made ready, and then the link opened
unfoldable pub LinkServes : ServeAsked → ServeEnd → Linked → Linked → Type 0
LinkServes asked (NotStored call fault) before after = StoreFails asked call fault before after
LinkServes asked NotBegun before after = ServesPrepared asked NotBegun before after
LinkServes asked NotOpened before after = ServesPrepared asked NotOpened before after
LinkServes asked NotServed before after = ServesPrepared asked NotServed before after
LinkServes asked (LoopEnded how) before after = ServesPrepared asked (LoopEnded how) before after
