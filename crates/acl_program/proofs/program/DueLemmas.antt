-- Where the words are a command, and its files are known and accepted or it says why one isn't, its outcome is due: no other comes, but for want of
-- memory.
use Rattle.std.proofs.Common.{◌≡◌, ℕ, Bool, false, List, [], Option, Some, Ok, refl, sym, ap, ◌∙◌, subst, inl, inr, ◌⊎◌}
use Rattle.command_files.specs.plain_values.Counts.{Rose}
use Rattle.command_files.specs.script_text.declared.event.ScriptEvent.{ScriptEvent}
use Rattle.command_files.specs.wire_io.Files.{Files}
use Rattle.session_hub.specs.declared.ended.Ended.TheVariants as ended
use Rattle.command_words.specs.command.Command.{CommandView, Serve, Replay, Check, Dump, Sample, IsCommand}
use Rattle.command_words.proofs.Theorems.{IsCommand-unique}
use Rattle.command_files.specs.declared.loading.SecondFile.TheVariants as second
use Rattle.command_files.specs.dir_tree.Entry.{EntryInformation}
use Rattle.command_files.specs.ldif_load.load.DataFile.{loads}
use Rattle.sample_input.specs.SampleFile.{sample_file}
use Rattle.command_files.proofs.Theorems.{both_in, one_events, IsTold-weaker, one_left, told_from}
use Rattle.acl_program.specs.Outcomes.{Outcome, NoCommand, NoFile, BadDataLine, BadChangesLine, BadLine, FalseLine, Checked, Dumped, Replayed, Served, Answered, Explained, Sampled, OutOfMemory, status_of}
use Rattle.acl_program.specs.declared.status.Status.TheVariants.{Done, NoMemory}
use Rattle.acl_program.specs.program.Outside.{Linked}
use Rattle.acl_program.specs.Answering.{Tells, AsksAnswer}
use Rattle.acl_program.specs.Sampling.{Samples, sample_text}
use Rattle.acl_program.specs.serve.Storing.{ServeAsked}
use Rattle.acl_program.specs.serve.Serving.{ServeEnd, LoopEnded}
use Rattle.acl_program.proofs.serve.CountLemmas.{served_done}
use Rattle.command_files.specs.loading.Accepting.{IsGoodData, IsGoodScript, IsLoaded, IsLoadedFrom, HoldsIn, IsTold}
use Rattle.command_files.specs.loading.Changing.{Left}
use Rattle.acl_program.specs.program.Causes.{AsksLoaded, Comes, Links, HearsStop, IsDue, changes_of, data_of}
use Rattle.acl_program.proofs.program.AcceptLemmas.{IsGoodSecond}
use Rattle.acl_program.proofs.program.ReadyLemmas.{IsReady, ReadyChanges, ReadyData, ReadySecond, ReadySample, OfServe, OfReplay, OfCheck, OfDump, OfAnswer, OfSample, IsDone, tells_kind, same_entries, comes_done, ready_both, ready_loaded, Settles, settled_by}
use Rattle.acl_program.proofs.program.AnswerLemmas.{answer_once, told_ready}
use Rattle.acl_program.proofs.program.ExplainLemmas.{explain_due}

-- a tree was to be checked, or put again
module _ (words : List (List ℕ)) (files : Option Files) (before after : ℕ) (name : List ℕ) (changes : Option (List ℕ)) (left : Left)
    (known : IsLoaded (IsTold files) name changes left) (still : Rose before after → ⊥) where
  -- what was found to be left is left
  same_left :
      (command : List ℕ → Option (List ℕ) → CommandView) → ((file : List ℕ) (also : Option (List ℕ)) → data_of (command file also) ≡ Some file) → ((file : List ℕ) (also : Option (List ℕ)) → changes_of (command file also) ≡ also)
      → IsCommand words (command name changes) → (found : Left) → AsksLoaded command words (HoldsIn files) found → found ≡ left
  same_left command data_is changes_is is found own =
      let same : command own.data_file own.changes ≡ command name changes = IsCommand-unique words (command own.data_file own.changes) (command name changes) own.asked is in
      let names : Some own.data_file ≡ Some name = sym (data_is own.data_file own.changes) ∙ ap data_of same ∙ data_is name changes in
      let same_name : own.data_file ≡ name = cc (names) in
      let same_changes : own.changes ≡ changes = sym (changes_is own.data_file own.changes) ∙ ap changes_of same ∙ changes_is name changes in
      one_left files name changes left found known
      (subst (λ also. IsLoaded (HoldsIn files) name also found) same_changes (subst (λ file. IsLoaded (HoldsIn files) file own.changes found) same_name own.good))

  check_ready : (entries : List EntryInformation) × IsReady files (Check name changes) entries
  unfolding ReadySample
  check_ready = ready_loaded files (Check name changes) name changes left refl refl refl tt tt known

  check_own : IsCommand words (Check name changes) → (outcome : Outcome) → Comes words files before after outcome → IsDone OfCheck outcome → outcome ≡ Checked left
  unfolding Comes
  check_own is (Checked found) comes done = ap Checked (same_left Check (λ file also. refl) (λ file also. refl) is found comes.0)
  check_own is outcome comes done = absurd done

  check_due : IsCommand words (Check name changes) → (outcome : Outcome) → Comes words files before after outcome → (outcome ≡ OutOfMemory) ⊎ (outcome ≡ Checked left)
  unfolding Settles
  check_due is outcome comes =
      settled_by OfCheck (Checked left) outcome (check_own is outcome comes) (comes_done words files before after (Check name changes) is check_ready.0 check_ready.1 still outcome comes)

  dump_ready : (entries : List EntryInformation) × IsReady files (Dump name changes) entries
  unfolding ReadySample
  dump_ready = ready_loaded files (Dump name changes) name changes left refl refl refl tt tt known

  dump_own : IsCommand words (Dump name changes) → (outcome : Outcome) → Comes words files before after outcome → IsDone OfDump outcome → outcome ≡ Dumped left
  unfolding Comes
  dump_own is (Dumped found) comes done = ap Dumped (same_left Dump (λ file also. refl) (λ file also. refl) is found comes.0)
  dump_own is outcome comes done = absurd done

  dump_due : IsCommand words (Dump name changes) → (outcome : Outcome) → Comes words files before after outcome → (outcome ≡ OutOfMemory) ⊎ (outcome ≡ Dumped left)
  unfolding Settles
  dump_due is outcome comes =
      settled_by OfDump (Dumped left) outcome (dump_own is outcome comes) (comes_done words files before after (Dump name changes) is dump_ready.0 dump_ready.1 still outcome comes)

-- the parts of a replay
script_of : CommandView → List ℕ
script_of (Replay data_file script turns dump) = script
script_of asked = []

turns_of : CommandView → ℕ
turns_of (Replay data_file script turns dump) = turns
turns_of asked = 0

dump_of : CommandView → Bool
dump_of (Replay data_file script turns dump) = dump
dump_of asked = false

-- a script was to be replayed
module _ (words : List (List ℕ)) (files : Option Files) (before after : ℕ) (name script : List ℕ) (turns : ℕ) (dump : Bool) (entries : List EntryInformation) (events : List ScriptEvent)
    (is : IsCommand words (Replay name script turns dump)) (known : IsTold files name (IsGoodData entries)) (scripted : IsTold files script (IsGoodScript events)) (still : Rose before after → ⊥) where
  abbrev replay : CommandView
  replay = Replay name script turns dump

  replay_ready : IsReady files replay entries
  unfolding ReadySample IsGoodSecond
  replay_ready = ready_both files replay name (record { kind = second.Script; name = script }) entries refl refl refl tt tt known
      (IsTold-weaker files script (IsGoodScript events) (IsGoodSecond second.Script entries) (λ content good. (events, good)) scripted)

  replay_own : (outcome : Outcome) → Comes words files before after outcome → IsDone OfReplay outcome → outcome ≡ Replayed events turns dump entries
  unfolding Comes script_of turns_of dump_of
  replay_own (Replayed played count again found) comes done =
      let own = comes.0.asked in
      let other = Replay own.data_file comes.0.script count again in
      let same : other ≡ replay = IsCommand-unique words other replay own.asked is in
      let script_is : comes.0.script ≡ script = ap script_of same in
      let both = both_in files script (IsGoodScript events) (IsGoodScript played) scripted (subst (λ file. HoldsIn files file (IsGoodScript played)) script_is comes.0.good) in
      let played_is : played ≡ events = one_events played events both.0 both.2 both.1 in
      let turns_is : count ≡ turns = ap turns_of same in
      let dump_is : again ≡ dump = ap dump_of same in
      let found_is : found ≡ entries = same_entries words files before after replay is entries replay_ready still found other own.data_file own.asked refl own.good in
      cc (played_is, turns_is, dump_is, found_is)
  replay_own outcome comes done = absurd done

  pub replay_due : (outcome : Outcome) → Comes words files before after outcome → (outcome ≡ OutOfMemory) ⊎ (outcome ≡ Replayed events turns dump entries)
  unfolding Settles
  replay_due outcome comes = settled_by OfReplay (Replayed events turns dump entries) outcome (replay_own outcome comes) (comes_done words files before after replay is entries replay_ready still outcome comes)

-- the status of want of memory, and that of serving
status_of-memory : status_of OutOfMemory ≡ NoMemory
unfolding status_of
status_of-memory = refl

status_of-stopped : (asks : ServeAsked) → status_of (Served asks (LoopEnded ended.Stopped)) ≡ Done
unfolding status_of
status_of-stopped asks = refl

-- a data file was to be served, and the link didn't fail and gave Stop
module _ (words : List (List ℕ)) (files : Option Files) (before after : ℕ) (asks : ServeAsked) (old new : Linked)
    (is : IsCommand words (Serve asks.serving)) (known : IsLoadedFrom (IsTold files) asks.serving.data_file asks.serving.changes asks.content asks.left) (still : Rose before after → ⊥)
    (no_fault : Rose old.faults new.faults → ⊥) (no_store_fault : Rose old.store_faults new.store_faults → ⊥) (hears : HearsStop old.journal new.journal) where
  serve_ready : (entries : List EntryInformation) × IsReady files (Serve asks.serving) entries
  unfolding ReadySample
  serve_ready = ready_loaded files (Serve asks.serving) asks.serving.data_file asks.serving.changes asks.left refl refl refl tt tt
      (told_from files asks.serving.data_file asks.serving.changes asks.content asks.left known)

  serve_own : (outcome : Outcome) → Links words outcome old new → IsDone OfServe outcome → (status_of outcome ≡ NoMemory) ⊎ (status_of outcome ≡ Done)
  unfolding Links status_of
  serve_own (Served other end) links done = served_done other old new no_fault no_store_fault hears end links
  serve_own outcome links done = absurd done

  serve_due : (outcome : Outcome) → Comes words files before after outcome → Links words outcome old new → (status_of outcome ≡ NoMemory) ⊎ (status_of outcome ≡ Done)
  serve_due outcome comes links = by (comes_done words files before after (Serve asks.serving) is serve_ready.0 serve_ready.1 still outcome comes)
    where
      by : (outcome ≡ OutOfMemory) ⊎ IsDone OfServe outcome → (status_of outcome ≡ NoMemory) ⊎ (status_of outcome ≡ Done)
      by (inl none) = inl (ap status_of none ∙ status_of-memory)
      by (inr done) = serve_own outcome links done

-- something was to be answered
module _ (words : List (List ℕ)) (files : Option Files) (before after : ℕ) (text : List ℕ) (due : AsksAnswer words (IsTold files) text) (still : Rose before after → ⊥) where
  answer_own : (outcome : Outcome) → Comes words files before after outcome → IsDone OfAnswer outcome → outcome ≡ Answered text
  unfolding Comes
  answer_own (Answered other) comes done =
      let same : comes.0.command ≡ due.command = IsCommand-unique words comes.0.command due.command comes.0.asked due.asked in
      ap Answered (answer_once files due.command text other due.tells (subst (λ command. Tells command (HoldsIn files) other) same comes.0.tells))
  answer_own outcome comes done = absurd done

  answer_due : (outcome : Outcome) → Comes words files before after outcome → (outcome ≡ OutOfMemory) ⊎ (outcome ≡ Answered text)
  unfolding Settles
  answer_due outcome comes =
      let ready = told_ready files due.command text due.tells in
      let kind = tells_kind due.command (IsTold files) text due.tells in
      let done = comes_done words files before after due.command due.asked ready.0 ready.1 still outcome comes in
      settled_by OfAnswer (Answered text) outcome (answer_own outcome comes) (subst (λ kind. (outcome ≡ OutOfMemory) ⊎ IsDone kind outcome) kind done)

-- how many persons a sample has
count_of : CommandView → ℕ
count_of (Sample count) = count
count_of asked = 0

-- a sample was to be made
module _ (words : List (List ℕ)) (files : Option Files) (before after : ℕ) (text : List ℕ) (due : Samples words text) (still : Rose before after → ⊥) where
  sample_ready : IsReady files (Sample due.count) due.entries
  unfolding ReadyChanges ReadyData ReadySecond ReadySample
  sample_ready = record { performed = tt; data_ready = tt; second_ready = tt; changes_ready = tt; sample_ready = (due.entries, due.loaded) }

  -- a sample of so many persons has one text
  sample_own : (outcome : Outcome) → Comes words files before after outcome → IsDone OfSample outcome → outcome ≡ Sampled text
  unfolding Comes count_of
  sample_own (Sampled other) comes done =
      let found = comes.0 in
      let counts : found.count ≡ due.count = ap count_of (IsCommand-unique words (Sample found.count) (Sample due.count) found.asked due.asked) in
      let loaded : Ok found.entries ≡ Ok due.entries = sym found.loaded ∙ ap (λ count. loads (sample_file count)) counts ∙ due.loaded in
      let entries : found.entries ≡ due.entries = cc (loaded) in
      ap Sampled (found.is ∙ ap (λ count. sample_text found.entries count) counts ∙ ap (λ all. sample_text all due.count) entries ∙ sym due.is)
  sample_own outcome comes done = absurd done

  sample_due : (outcome : Outcome) → Comes words files before after outcome → (outcome ≡ OutOfMemory) ⊎ (outcome ≡ Sampled text)
  unfolding Settles
  sample_due outcome comes = settled_by OfSample (Sampled text) outcome (sample_own outcome comes) (comes_done words files before after (Sample due.count) due.asked due.entries sample_ready still outcome comes)

-- an outcome that is want of memory, or the one that is due, has its status
as_status : (outcome due : Outcome) → (outcome ≡ OutOfMemory) ⊎ (outcome ≡ due) → (status_of outcome ≡ NoMemory) ⊎ (status_of outcome ≡ status_of due)
as_status outcome due (inl none) = inl (ap status_of none ∙ status_of-memory)
as_status outcome due (inr same) = inr (ap status_of same)

-- the outcome that is due comes, but for want of memory
pub due_comes : (words : List (List ℕ)) (files : Option Files) (before after : ℕ) (old new : Linked) (outcome due : Outcome)
    → IsDue words files old new due → (Rose before after → ⊥) → Comes words files before after outcome → Links words outcome old new
    → (status_of outcome ≡ NoMemory) ⊎ (status_of outcome ≡ status_of due)
unfolding IsDue
due_comes words files before after old new outcome NoCommand is still comes links = absurd is
due_comes words files before after old new outcome NoFile is still comes links = absurd is
due_comes words files before after old new outcome (BadDataLine line cause) is still comes links = absurd is
due_comes words files before after old new outcome (BadChangesLine line cause) is still comes links = absurd is
due_comes words files before after old new outcome (BadLine file line) is still comes links = absurd is
due_comes words files before after old new outcome (FalseLine line) is still comes links = absurd is
due_comes words files before after old new outcome (Checked left) is still comes links =
    as_status outcome (Checked left) (check_due words files before after is.data_file is.changes left is.good still is.asked outcome comes)
due_comes words files before after old new outcome (Dumped left) is still comes links =
    as_status outcome (Dumped left) (dump_due words files before after is.data_file is.changes left is.good still is.asked outcome comes)
due_comes words files before after old new outcome (Replayed events turns dump entries) is still comes links =
    as_status outcome (Replayed events turns dump entries) (replay_due words files before after is.0 is.1 turns dump entries events is.2 is.3 is.4 still outcome comes)
due_comes words files before after old new outcome (Served asks end) is still comes links =
    let P : ServeEnd → Type 0 = λ how. (status_of outcome ≡ NoMemory) ⊎ (status_of outcome ≡ status_of (Served asks how)) in
    subst P (sym is.0) (subst (λ wanted. (status_of outcome ≡ NoMemory) ⊎ (status_of outcome ≡ wanted)) (sym (status_of-stopped asks))
    (serve_due words files before after asks old new is.1 is.2 still is.3 is.4 is.5 outcome comes links))
due_comes words files before after old new outcome (Answered text) is still comes links =
    as_status outcome (Answered text) (answer_due words files before after text is still outcome comes)
due_comes words files before after old new outcome (Explained line cause content) is still comes links =
    as_status outcome (Explained line cause content) (explain_due words files before after line cause content is still outcome comes)
due_comes words files before after old new outcome (Sampled text) is still comes links =
    as_status outcome (Sampled text) (sample_due words files before after text is still outcome comes)
due_comes words files before after old new outcome OutOfMemory is still comes links = absurd is
