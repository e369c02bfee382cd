-- Lemmas on which outcome may come with the words and the shelf, by the status that it has.
use Rattle.std.proofs.Common.{◌≡◌, ℕ, Bool, true, false, List, length, Option, refl, inl, inr, ◌⊎◌, if◌then◌else◌, nat_lt}
use Rattle.command_files.specs.script_text.declared.event.ScriptEvent.{ScriptEvent}
use Rattle.command_files.specs.wire_io.Files.{Files}
use Rattle.command_files.specs.wire_io.Pieces.{pieces}
use Rattle.session_hub.specs.serve.Loops.{buffer_length}
use Rattle.command_words.specs.command.Command.{CommandView, IsCommand, Serve, Why}
use Rattle.command_files.specs.dir_tree.Entry.{EntryInformation}
use Rattle.command_files.specs.declared.changing.ChangesCause.{ChangesCause}
use Rattle.command_files.specs.declared.loading.SecondFile.{SecondFile}
use Rattle.command_files.specs.ldif_load.load.DataFile.{FileCause}
use Rattle.command_files.specs.loading.Accepting.{HoldsIn}
use Rattle.acl_program.specs.declared.status.Status.{Status}
use Rattle.acl_program.specs.declared.status.Status.TheVariants.{Done, Usage, BadData, ShelfFault, SinkFault, LinkFault, TurnsSpent, NoMemory, BadScript, NotProved, StoreFault}
use Rattle.acl_program.specs.program.Outside.{Linked, Outside, NoneFailed, LinkFailed, StoreFailed}
use Rattle.acl_program.specs.Outcomes.{Outcome, NoCommand, NoFile, BadDataLine, BadChangesLine, BadLine, FalseLine, Checked, Dumped, Replayed, Served, Answered, Explained, Sampled, OutOfMemory, status_of}
use Rattle.acl_program.specs.program.Causes.{IsNoCommand, AsksData, AsksServing, AsksServe, ExplainsData, AsksStoring, MayOpenStore, OpensFor, LacksChanges, LacksData, LacksSecond, RefusesChanges, RefusesData, RefusesSecond, RefutesCertificate, Comes, Links}
use Rattle.acl_program.specs.Sampling.{RefusesSample}
use Rattle.acl_program.specs.program.Running.{Puts, IsCause, EndsAtFaults}
use Rattle.acl_program.specs.program.Playing.{Ends}
use Rattle.acl_program.specs.serve.Storing.{ServeAsked}
use Rattle.acl_program.specs.serve.Serving.{ServeEnd}
use Rattle.acl_program.proofs.program.ReadyLemmas.{content_fails}
use Rattle.acl_program.proofs.serve.StoreLemmas.{none_same, opens_count}
use Rattle.acl_program.proofs.serve.CountLemmas.{serve_not, fault_rose, store_rose, serve_count_stays}

-- a replay's status is one of two
is_either : (status : Status) (stopped : Bool) → status ≡ (if stopped then Done else TurnsSpent) → (status ≡ Done) ⊎ (status ≡ TurnsSpent)
is_either status true is = inl is
is_either status false is = inr is

replayed_status : (status : Status) (events : List ScriptEvent) (turns : ℕ) (dump : Bool) (entries : List EntryInformation)
    → status ≡ status_of (Replayed events turns dump entries) → (status ≡ Done) ⊎ (status ≡ TurnsSpent)
unfolding status_of
replayed_status status events turns dump entries is = is_either status (nat_lt (length (pieces buffer_length events)) turns) is

not_replayed : (status : Status) (events : List ScriptEvent) (turns : ℕ) (dump : Bool) (entries : List EntryInformation)
    → status ≡ status_of (Replayed events turns dump entries) → (status ≡ Done → ⊥) → (status ≡ TurnsSpent → ⊥) → ⊥
not_replayed status events turns dump entries is not_done not_spent =
    elim (replayed_status status events turns dump entries is) [ inl done ↦ not_done done | inr spent ↦ not_spent spent ]

-- Usage comes of words that are no command
pub usage_comes : (words : List (List ℕ)) (files : Option Files) (before after : ℕ) (outcome : Outcome)
    → Usage ≡ status_of outcome → Comes words files before after outcome → IsNoCommand words
unfolding status_of Comes
usage_comes words files before after NoCommand is comes = comes.0
usage_comes words files before after NoFile is comes = absurd (cc)
usage_comes words files before after (BadDataLine line cause) is comes = absurd (cc)
usage_comes words files before after (BadChangesLine line cause) is comes = absurd (cc)
usage_comes words files before after (BadLine file line) is comes = absurd (cc)
usage_comes words files before after (FalseLine line) is comes = absurd (cc)
usage_comes words files before after (Checked left) is comes = absurd (cc)
usage_comes words files before after (Dumped left) is comes = absurd (cc)
usage_comes words files before after (Replayed events turns dump entries) is comes = absurd (not_replayed Usage events turns dump entries is (λ e. cc) (λ e. cc))
usage_comes words files before after (Served asked end) is comes = absurd (serve_not Usage end is (λ e. cc) (λ e. cc) (λ e. cc) (λ e. cc) (λ e. cc))
usage_comes words files before after (Answered text) is comes = absurd (cc)
usage_comes words files before after (Explained line cause content) is comes = absurd (cc)
usage_comes words files before after (Sampled text) is comes = absurd (cc)
usage_comes words files before after OutOfMemory is comes = absurd (cc)

-- a data file whose refusal was explained is refused
explained_refuses : (words : List (List ℕ)) (files : Option Files) (line : ℕ) (cause : FileCause) (content : List ℕ) → ExplainsData words (HoldsIn files) line cause content → RefusesData words files line cause
unfolding AsksData
explained_refuses words files line cause content own = record {
  data_file = own.data_file;
  asked = (Why own.data_file, own.asked, refl);
  bad = content_fails files own.data_file line cause content own.is own.bad;
}

-- what came, by the status of the outcome
data_cause : (words : List (List ℕ)) (files : Option Files) (before after : ℕ) (outcome : Outcome)
    → BadData ≡ status_of outcome → Comes words files before after outcome
    → ((line : ℕ) × (cause : FileCause) × (RefusesData words files line cause ⊎ RefusesSample words line cause)) ⊎ ((line : ℕ) × (cause : ChangesCause) × RefusesChanges words files line cause)
unfolding status_of Comes
data_cause words files before after NoCommand is comes = absurd (cc)
data_cause words files before after NoFile is comes = absurd (cc)
data_cause words files before after (BadDataLine line cause) is comes = inl (line, cause, comes.0)
data_cause words files before after (BadChangesLine line cause) is comes = inr (line, cause, comes.0)
data_cause words files before after (BadLine file line) is comes = absurd (cc)
data_cause words files before after (FalseLine line) is comes = absurd (cc)
data_cause words files before after (Checked left) is comes = absurd (cc)
data_cause words files before after (Dumped left) is comes = absurd (cc)
data_cause words files before after (Replayed events turns dump entries) is comes = absurd (not_replayed BadData events turns dump entries is (λ e. cc) (λ e. cc))
data_cause words files before after (Served asked end) is comes = absurd (serve_not BadData end is (λ e. cc) (λ e. cc) (λ e. cc) (λ e. cc) (λ e. cc))
data_cause words files before after (Answered text) is comes = absurd (cc)
data_cause words files before after (Explained line cause content) is comes = inl (line, cause, inl (explained_refuses words files line cause content comes.0))
data_cause words files before after (Sampled text) is comes = absurd (cc)
data_cause words files before after OutOfMemory is comes = absurd (cc)

shelf_cause : (words : List (List ℕ)) (files : Option Files) (before after : ℕ) (outcome : Outcome)
    → ShelfFault ≡ status_of outcome → Comes words files before after outcome → LacksData words files before after ⊎ (LacksSecond words files before after ⊎ LacksChanges words files before after)
unfolding status_of Comes
shelf_cause words files before after NoCommand is comes = absurd (cc)
shelf_cause words files before after NoFile is comes = comes
shelf_cause words files before after (BadDataLine line cause) is comes = absurd (cc)
shelf_cause words files before after (BadChangesLine line cause) is comes = absurd (cc)
shelf_cause words files before after (BadLine file line) is comes = absurd (cc)
shelf_cause words files before after (FalseLine line) is comes = absurd (cc)
shelf_cause words files before after (Checked left) is comes = absurd (cc)
shelf_cause words files before after (Dumped left) is comes = absurd (cc)
shelf_cause words files before after (Replayed events turns dump entries) is comes = absurd (not_replayed ShelfFault events turns dump entries is (λ e. cc) (λ e. cc))
shelf_cause words files before after (Served asked end) is comes = absurd (serve_not ShelfFault end is (λ e. cc) (λ e. cc) (λ e. cc) (λ e. cc) (λ e. cc))
shelf_cause words files before after (Answered text) is comes = absurd (cc)
shelf_cause words files before after (Explained line cause content) is comes = absurd (cc)
shelf_cause words files before after (Sampled text) is comes = absurd (cc)
shelf_cause words files before after OutOfMemory is comes = absurd (cc)

script_cause : (words : List (List ℕ)) (files : Option Files) (before after : ℕ) (outcome : Outcome)
    → BadScript ≡ status_of outcome → Comes words files before after outcome → (file : SecondFile) × (line : ℕ) × RefusesSecond words files file line
unfolding status_of Comes
script_cause words files before after NoCommand is comes = absurd (cc)
script_cause words files before after NoFile is comes = absurd (cc)
script_cause words files before after (BadDataLine line cause) is comes = absurd (cc)
script_cause words files before after (BadChangesLine line cause) is comes = absurd (cc)
script_cause words files before after (BadLine file line) is comes = (file, line, comes.0)
script_cause words files before after (FalseLine line) is comes = absurd (cc)
script_cause words files before after (Checked left) is comes = absurd (cc)
script_cause words files before after (Dumped left) is comes = absurd (cc)
script_cause words files before after (Replayed events turns dump entries) is comes = absurd (not_replayed BadScript events turns dump entries is (λ e. cc) (λ e. cc))
script_cause words files before after (Served asked end) is comes = absurd (serve_not BadScript end is (λ e. cc) (λ e. cc) (λ e. cc) (λ e. cc) (λ e. cc))
script_cause words files before after (Answered text) is comes = absurd (cc)
script_cause words files before after (Explained line cause content) is comes = absurd (cc)
script_cause words files before after (Sampled text) is comes = absurd (cc)
script_cause words files before after OutOfMemory is comes = absurd (cc)

false_cause : (words : List (List ℕ)) (files : Option Files) (before after : ℕ) (outcome : Outcome)
    → NotProved ≡ status_of outcome → Comes words files before after outcome → (line : ℕ) × RefutesCertificate words files line
unfolding status_of Comes
false_cause words files before after NoCommand is comes = absurd (cc)
false_cause words files before after NoFile is comes = absurd (cc)
false_cause words files before after (BadDataLine line cause) is comes = absurd (cc)
false_cause words files before after (BadChangesLine line cause) is comes = absurd (cc)
false_cause words files before after (BadLine file line) is comes = absurd (cc)
false_cause words files before after (FalseLine line) is comes = (line, comes.0)
false_cause words files before after (Checked left) is comes = absurd (cc)
false_cause words files before after (Dumped left) is comes = absurd (cc)
false_cause words files before after (Replayed events turns dump entries) is comes = absurd (not_replayed NotProved events turns dump entries is (λ e. cc) (λ e. cc))
false_cause words files before after (Served asked end) is comes = absurd (serve_not NotProved end is (λ e. cc) (λ e. cc) (λ e. cc) (λ e. cc) (λ e. cc))
false_cause words files before after (Answered text) is comes = absurd (cc)
false_cause words files before after (Explained line cause content) is comes = absurd (cc)
false_cause words files before after (Sampled text) is comes = absurd (cc)
false_cause words files before after OutOfMemory is comes = absurd (cc)

-- a data file is to be served
serving_asked : (words : List (List ℕ)) (files : Option Files) (asked : ServeAsked) (end : ServeEnd) → AsksServe words files asked end → AsksServing words
unfolding AsksServing
serving_asked words files asked end asks = (asked.serving, asks.asked)

-- a fault of the link comes of serving alone, and raised its count alone
link_cause : (words : List (List ℕ)) (files : Option Files) (before after : ℕ) (old new : Linked) (outcome : Outcome)
    → LinkFault ≡ status_of outcome → Comes words files before after outcome → Links words outcome old new → AsksServing words × LinkFailed old new
unfolding status_of Comes Links
link_cause words files before after old new NoCommand is comes links = absurd (cc)
link_cause words files before after old new NoFile is comes links = absurd (cc)
link_cause words files before after old new (BadDataLine line cause) is comes links = absurd (cc)
link_cause words files before after old new (BadChangesLine line cause) is comes links = absurd (cc)
link_cause words files before after old new (BadLine file line) is comes links = absurd (cc)
link_cause words files before after old new (FalseLine line) is comes links = absurd (cc)
link_cause words files before after old new (Checked left) is comes links = absurd (cc)
link_cause words files before after old new (Dumped left) is comes links = absurd (cc)
link_cause words files before after old new (Replayed events turns dump entries) is comes links = absurd (not_replayed LinkFault events turns dump entries is (λ e. cc) (λ e. cc))
link_cause words files before after old new (Served asked end) is comes links = (serving_asked words files asked end comes.0, fault_rose asked old new end links is)
link_cause words files before after old new (Answered text) is comes links = absurd (cc)
link_cause words files before after old new (Explained line cause content) is comes links = absurd (cc)
link_cause words files before after old new (Sampled text) is comes links = absurd (cc)
link_cause words files before after old new OutOfMemory is comes links = absurd (cc)

-- a fault of the store comes of serving with a file of changes alone, and raised the store's count alone
store_cause : (words : List (List ℕ)) (files : Option Files) (before after : ℕ) (old new : Linked) (outcome : Outcome)
    → StoreFault ≡ status_of outcome → Comes words files before after outcome → Links words outcome old new → AsksStoring words × StoreFailed old new
unfolding status_of Comes Links AsksStoring
store_cause words files before after old new NoCommand is comes links = absurd (cc)
store_cause words files before after old new NoFile is comes links = absurd (cc)
store_cause words files before after old new (BadDataLine line cause) is comes links = absurd (cc)
store_cause words files before after old new (BadChangesLine line cause) is comes links = absurd (cc)
store_cause words files before after old new (BadLine file line) is comes links = absurd (cc)
store_cause words files before after old new (FalseLine line) is comes links = absurd (cc)
store_cause words files before after old new (Checked left) is comes links = absurd (cc)
store_cause words files before after old new (Dumped left) is comes links = absurd (cc)
store_cause words files before after old new (Replayed events turns dump entries) is comes links = absurd (not_replayed StoreFault events turns dump entries is (λ e. cc) (λ e. cc))
store_cause words files before after old new (Served asked end) is comes links = (let rose = store_rose asked old new end links is in ((asked.serving, comes.0.asked, rose.0), rose.1))
store_cause words files before after old new (Answered text) is comes links = absurd (cc)
store_cause words files before after old new (Explained line cause content) is comes links = absurd (cc)
store_cause words files before after old new (Sampled text) is comes links = absurd (cc)
store_cause words files before after old new OutOfMemory is comes links = absurd (cc)

-- a store is opened of serving alone, and leaves the link's counts as they are
unopened : (words : List (List ℕ)) (old new : Linked) → (AsksServing words → ⊥) → MayOpenStore words old new → new ≡ old
unfolding AsksServing
unopened words old new other (inl same) = same
unopened words old new other (inr opens) = absurd (other (opens.0, opens.1))

unopened_for : (words : List (List ℕ)) (asked : CommandView) (old new : Linked) → (AsksServing words → ⊥) → IsCommand words asked → OpensFor asked old new → new ≡ old
unfolding AsksServing
unopened_for words (Serve serving) old new other is opens = absurd (other (serving, is))
unopened_for words asked old new other is opens = opens

opened_count : (words : List (List ℕ)) (old new : Linked) → MayOpenStore words old new → NoneFailed old new
opened_count words old new (inl same) = none_same old new same
opened_count words old new (inr opens) = opens_count opens.0.changes old new opens.2

opened_for_count : (asked : CommandView) (old new : Linked) → OpensFor asked old new → NoneFailed old new
opened_for_count (Serve serving) old new opens = opens_count serving.changes old new opens
opened_for_count asked old new opens = none_same old new opens

-- words that ask for nothing to be served leave the link as it is
pub link_stays : (words : List (List ℕ)) (files : Option Files) (before after : ℕ) (old new : Linked) (outcome : Outcome)
    → (AsksServing words → ⊥) → Comes words files before after outcome → Links words outcome old new → new ≡ old
unfolding Comes Links
link_stays words files before after old new NoCommand other comes links = links
link_stays words files before after old new NoFile other comes links = unopened words old new other links
link_stays words files before after old new (BadDataLine line cause) other comes links = links
link_stays words files before after old new (BadChangesLine line cause) other comes links = unopened_for words links.0 old new other links.1 links.2
link_stays words files before after old new (BadLine file line) other comes links = links
link_stays words files before after old new (FalseLine line) other comes links = links
link_stays words files before after old new (Checked left) other comes links = links
link_stays words files before after old new (Dumped left) other comes links = links
link_stays words files before after old new (Replayed events turns dump entries) other comes links = links
link_stays words files before after old new (Served asked end) other comes links = absurd (other (serving_asked words files asked end comes.0))
link_stays words files before after old new (Answered text) other comes links = links
link_stays words files before after old new (Explained line cause content) other comes links = links
link_stays words files before after old new (Sampled text) other comes links = links
link_stays words files before after old new OutOfMemory other comes links = unopened words old new other links

-- the cause of each status
pub cause_comes : (words : List (List ℕ)) (before after : Outside) (outcome : Outcome) (status : Status)
    → Puts outcome before.out.put status after.out.put → Comes words before.shelf.files before.shelf.faults after.shelf.faults outcome → Links words outcome before.link after.link
    → IsCause words before after status
unfolding IsCause
cause_comes words before after outcome Done puts comes links = tt
cause_comes words before after outcome Usage puts comes links = tt
cause_comes words before after outcome BadData puts comes links = data_cause words before.shelf.files before.shelf.faults after.shelf.faults outcome puts.0 comes
cause_comes words before after outcome ShelfFault puts comes links = shelf_cause words before.shelf.files before.shelf.faults after.shelf.faults outcome puts.0 comes
cause_comes words before after outcome SinkFault puts comes links = tt
cause_comes words before after outcome LinkFault puts comes links =
    link_cause words before.shelf.files before.shelf.faults after.shelf.faults before.link after.link outcome puts.0 comes links
cause_comes words before after outcome TurnsSpent puts comes links = tt
cause_comes words before after outcome StoreFault puts comes links =
    store_cause words before.shelf.files before.shelf.faults after.shelf.faults before.link after.link outcome puts.0 comes links
cause_comes words before after outcome NoMemory puts comes links = tt
cause_comes words before after outcome BadScript puts comes links = script_cause words before.shelf.files before.shelf.faults after.shelf.faults outcome puts.0 comes
cause_comes words before after outcome NotProved puts comes links = false_cause words before.shelf.files before.shelf.faults after.shelf.faults outcome puts.0 comes

-- the shelf's count is as it was where its fault isn't answered
pub count_stays : (words : List (List ℕ)) (files : Option Files) (before after : ℕ) (outcome : Outcome) (status : Status)
    → status ≡ status_of outcome → (status ≡ ShelfFault → ⊥) → Comes words files before after outcome → after ≡ before
unfolding status_of Comes
count_stays words files before after NoCommand status is other comes = comes.1
count_stays words files before after NoFile status is other comes = absurd (other is)
count_stays words files before after (BadDataLine line cause) status is other comes = comes.2
count_stays words files before after (BadChangesLine line cause) status is other comes = comes.1
count_stays words files before after (BadLine file line) status is other comes = comes.1
count_stays words files before after (FalseLine line) status is other comes = comes.1
count_stays words files before after (Checked left) status is other comes = comes.1
count_stays words files before after (Dumped left) status is other comes = comes.1
count_stays words files before after (Replayed events turns dump entries) status is other comes = comes.1
count_stays words files before after (Served asked end) status is other comes = comes.1
count_stays words files before after (Answered text) status is other comes = comes.1
count_stays words files before after (Explained line cause content) status is other comes = comes.1
count_stays words files before after (Sampled text) status is other comes = comes.1
count_stays words files before after OutOfMemory status is other comes = comes

-- the link's counts are as they were where no fault of it is answered, and memory was there
link_count_stays : (words : List (List ℕ)) (outcome : Outcome) (old new : Linked) (status : Status)
    → status ≡ status_of outcome → (status ≡ LinkFault → ⊥) → (status ≡ StoreFault → ⊥) → (status ≡ NoMemory → ⊥) → Links words outcome old new → NoneFailed old new
unfolding status_of Links
link_count_stays words NoCommand old new status is not_fault not_store not_memory links = none_same old new links
link_count_stays words NoFile old new status is not_fault not_store not_memory links = opened_count words old new links
link_count_stays words (BadDataLine line cause) old new status is not_fault not_store not_memory links = none_same old new links
link_count_stays words (BadChangesLine line cause) old new status is not_fault not_store not_memory links = opened_for_count links.0 old new links.2
link_count_stays words (BadLine file line) old new status is not_fault not_store not_memory links = none_same old new links
link_count_stays words (FalseLine line) old new status is not_fault not_store not_memory links = none_same old new links
link_count_stays words (Checked left) old new status is not_fault not_store not_memory links = none_same old new links
link_count_stays words (Dumped left) old new status is not_fault not_store not_memory links = none_same old new links
link_count_stays words (Replayed events turns dump entries) old new status is not_fault not_store not_memory links = none_same old new links
link_count_stays words (Served asked end) old new status is not_fault not_store not_memory links = serve_count_stays asked old new end links status is not_fault not_store not_memory
link_count_stays words (Answered text) old new status is not_fault not_store not_memory links = none_same old new links
link_count_stays words (Explained line cause content) old new status is not_fault not_store not_memory links = none_same old new links
link_count_stays words (Sampled text) old new status is not_fault not_store not_memory links = none_same old new links
link_count_stays words OutOfMemory old new status is not_fault not_store not_memory links = opened_count words old new links

module _ (words : List (List ℕ)) (before after : Outside) (outcome : Outcome)
    (comes : Comes words before.shelf.files before.shelf.faults after.shelf.faults outcome) (links : Links words outcome before.link after.link) where
  -- the shelf's count, and the link's
  shelf_stays : (status : Status) → status ≡ status_of outcome → (status ≡ ShelfFault → ⊥) → after.shelf.faults ≡ before.shelf.faults
  shelf_stays status is other = count_stays words before.shelf.files before.shelf.faults after.shelf.faults outcome status is other comes

  linked_stays : (status : Status) → status ≡ status_of outcome → (status ≡ LinkFault → ⊥) → (status ≡ StoreFault → ⊥) → (status ≡ NoMemory → ⊥) → NoneFailed before.link after.link
  linked_stays status is not_fault not_store not_memory = link_count_stays words outcome before.link after.link status is not_fault not_store not_memory links

  -- what the counts say of each status
  pub faults_end : (status : Status) → Ends outcome before.out status after.out → EndsAtFaults before after status
  unfolding EndsAtFaults
  faults_end Done ends = ((shelf_stays Done ends.puts.0 (λ e. cc), ends.cause), linked_stays Done ends.puts.0 (λ e. cc) (λ e. cc) (λ e. cc))
  faults_end Usage ends = ((shelf_stays Usage ends.puts.0 (λ e. cc), ends.cause), linked_stays Usage ends.puts.0 (λ e. cc) (λ e. cc) (λ e. cc))
  faults_end BadData ends = ((shelf_stays BadData ends.puts.0 (λ e. cc), ends.cause), linked_stays BadData ends.puts.0 (λ e. cc) (λ e. cc) (λ e. cc))
  faults_end ShelfFault ends = (ends.cause, linked_stays ShelfFault ends.puts.0 (λ e. cc) (λ e. cc) (λ e. cc))
  faults_end SinkFault ends = ends.cause
  faults_end LinkFault ends = (
    (shelf_stays LinkFault ends.puts.0 (λ e. cc), ends.cause),
    (link_cause words before.shelf.files before.shelf.faults after.shelf.faults before.link after.link outcome ends.puts.0 comes links).1,
  )
  faults_end StoreFault ends = (
    (shelf_stays StoreFault ends.puts.0 (λ e. cc), ends.cause),
    (store_cause words before.shelf.files before.shelf.faults after.shelf.faults before.link after.link outcome ends.puts.0 comes links).1,
  )
  faults_end TurnsSpent ends = ((shelf_stays TurnsSpent ends.puts.0 (λ e. cc), ends.cause), linked_stays TurnsSpent ends.puts.0 (λ e. cc) (λ e. cc) (λ e. cc))
  faults_end NoMemory ends = ends.cause
  faults_end BadScript ends = ((shelf_stays BadScript ends.puts.0 (λ e. cc), ends.cause), linked_stays BadScript ends.puts.0 (λ e. cc) (λ e. cc) (λ e. cc))
  faults_end NotProved ends = ((shelf_stays NotProved ends.puts.0 (λ e. cc), ends.cause), linked_stays NotProved ends.puts.0 (λ e. cc) (λ e. cc) (λ e. cc))
