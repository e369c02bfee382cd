-- What the parts of a command say together of how the program ends, and each clause of the program from that.
use Rattle.std.proofs.Common.{◌≡◌, ℕ, ◌<◌, ◌≤◌, Bool, List, [], ◌++◌, length, Option, Some, None, Ok, refl, sym, ap, ◌∙◌, subst, arith, inl, inr, ◌⊎◌}
use Rattle.std.proofs.lemmas.Bool.Decides.{nat_tests}
use Rattle.command_files.specs.plain_values.Counts.{Rose}
use Rattle.command_files.specs.script_text.declared.event.ScriptEvent.{ScriptEvent}
use Rattle.command_files.specs.wire_io.declared.journal.Item.{Item}
use Rattle.command_files.specs.wire_io.Files.{Files}
use Rattle.command_files.specs.wire_io.Pieces.{pieces}
use Rattle.command_files.specs.wire_io.Scripted.{LinkState, fresh_link}
use Rattle.command_files.proofs.wire_io_proofs.Theorems.{appended-none}
use Rattle.session_hub.specs.declared.ended.Ended.TheVariants as ended
use Rattle.session_hub.specs.serve.Loops.{buffer_length}
use Rattle.command_words.specs.command.Command.{CommandView, IsCommand}
use Rattle.command_words.proofs.Theorems.{IsCommand-unique}
use Rattle.command_files.specs.dir_tree.Entry.{EntryInformation}
use Rattle.command_files.specs.dir_tree.tree.Numbered.{Numbered}
use Rattle.command_files.specs.dir_tree.tree.Numbered.{entries_of}
use Rattle.command_files.specs.aci_item.Rules.{IsGoodTree}
use Rattle.command_files.specs.Outside.{Written}
use Rattle.acl_program.specs.declared.status.Status.{Status}
use Rattle.acl_program.specs.declared.status.Status.TheVariants.{Done, Usage, BadData, ShelfFault, SinkFault, LinkFault, TurnsSpent, NoMemory, BadScript, NotProved, StoreFault}
use Rattle.acl_program.specs.Outcomes.{Outcome, NoCommand, Replayed, OutOfMemory, dump_text, text_of, status_of}
use Rattle.acl_program.specs.Lines.{entries_after}
use Rattle.acl_program.specs.program.Causes.{IsNoCommand, IsPerformed, AsksServing, Comes, Links, IsDue}
use Rattle.acl_program.specs.program.Running.{Prints, Puts, EndsAs, IsCause, EndsAtFaults}
use Rattle.acl_program.specs.program.Outside.{Outside}
use Rattle.acl_program.specs.program.Playing.{IsSinkCount, Plays, Shows, Ends, Performs, Runs, journal_text}
use Rattle.command_files.specs.declared.changing.Loaded.{Loaded}
use Rattle.command_files.specs.loading.Loading.{LoadsScript, LoadsData, LoadsTree}
use Rattle.acl_program.proofs.troubles.EndsLemmas.{Ends-no_memory}
use Rattle.acl_program.proofs.status.OutcomeLemmas.{usage_comes, cause_comes, faults_end, link_stays}
use Rattle.acl_program.proofs.program.DueLemmas.{due_comes}

-- a replay is done where the script has fewer pieces than turns, and otherwise its turns are spent
status_of-done : (events : List ScriptEvent) (turns : ℕ) (dump : Bool) (entries : List EntryInformation)
    → length (pieces buffer_length events) < turns → status_of (Replayed events turns dump entries) ≡ Done
unfolding status_of
status_of-done events turns dump entries short = grind (arith, nat_tests)

status_of-spent : (events : List ScriptEvent) (turns : ℕ) (dump : Bool) (entries : List EntryInformation)
    → turns ≤ length (pieces buffer_length events) → status_of (Replayed events turns dump entries) ≡ TurnsSpent
unfolding status_of
status_of-spent events turns dump entries long = grind (arith, nat_tests)

-- Stop was heard, and the lines and the tree were to be put
pub Played-stopped :
    (entries left : List EntryInformation) (events : List ScriptEvent) (turns : ℕ) (dump : Bool) (journal : List Item) (dumped : List ℕ) (before after : Written) (status : Status)
    → Plays entries left events turns ended.Stopped journal → dumped ≡ dump_text dump left → Shows journal dumped Done before status after → Ends (Replayed events turns dump entries) before status after
unfolding Plays Shows text_of
Played-stopped entries left events turns dump journal dumped before after status plays is shows =
    shows (Replayed events turns dump entries)
    (ap (λ text. text ++ dump_text dump (entries_after entries events turns)) (sym plays.0) ∙ ap (λ text. journal_text journal ++ text) (ap (dump_text dump) (sym plays.1) ∙ sym is)) (status_of-done events turns dump entries plays.2)

-- the turns were spent, and they were to be put
pub Played-spent :
    (entries left : List EntryInformation) (events : List ScriptEvent) (turns : ℕ) (dump : Bool) (journal : List Item) (dumped : List ℕ) (before after : Written) (status : Status)
    → Plays entries left events turns ended.TurnsSpent journal → dumped ≡ dump_text dump left → Shows journal dumped TurnsSpent before status after → Ends (Replayed events turns dump entries) before status after
unfolding Plays Shows text_of
Played-spent entries left events turns dump journal dumped before after status plays is shows =
    shows (Replayed events turns dump entries)
    (ap (λ text. text ++ dump_text dump (entries_after entries events turns)) (sym plays.0) ∙ ap (λ text. journal_text journal ++ text) (ap (dump_text dump) (sym plays.1) ∙ sym is)) (status_of-spent events turns dump entries plays.2)

-- the link doesn't fail
pub no_fault : (entries left : List EntryInformation) (events : List ScriptEvent) (turns : ℕ) (journal : List Item) → Plays entries left events turns ended.LinkFault journal → ⊥
unfolding Plays
no_fault entries left events turns journal plays = plays

-- and has no store that may
pub no_store_fault : (entries left : List EntryInformation) (events : List ScriptEvent) (turns : ℕ) (journal : List Item) → Plays entries left events turns ended.StoreFault journal → ⊥
unfolding Plays
no_store_fault entries left events turns journal plays = plays

-- nothing was put for want of memory
pub Played-nothing : (entries : List EntryInformation) (events : List ScriptEvent) (turns : ℕ) (dump : Bool) (before : Written) → Ends (Replayed events turns dump entries) before NoMemory before
Played-nothing entries events turns dump before = Ends-no_memory (Replayed events turns dump entries) before before 0 (appended-none before.put) refl

-- the entries that were served are those of the tree
pub Played-over : (served entries : List EntryInformation) (events : List ScriptEvent) (turns : ℕ) (dump : Bool) (before after : Written) (status : Status)
    → served ≡ entries → Ends (Replayed events turns dump served) before status after → Ends (Replayed events turns dump entries) before status after
Played-over served entries events turns dump before after status same ends = subst (λ found. Ends (Replayed events turns dump found) before status after) same ends

-- a link that was loaded has done nothing yet
pub LoadsScript-fresh : (files : Option Files) (name : List ℕ) (before after : ℕ) (link : LinkState) → LoadsScript files name before after (Ok link)
    → link ≡ fresh_link link.plan.to_come [] [] []
unfolding LoadsScript
LoadsScript-fresh files name before after link loads = loads.1

-- a tree that was loaded is good
pub LoadsData-good : (files : Option Files) (name : List ℕ) (before after : ℕ) (rows : List Numbered) → LoadsData files name before after (Ok rows) → IsGoodTree (entries_of rows)
unfolding LoadsData
LoadsData-good files name before after rows loads = loads.1

pub LoadsTree-good : (files : Option Files) (name : List ℕ) (changes : Option (List ℕ)) (before after : ℕ) (loaded : Loaded) → LoadsTree files name changes before after (Ok loaded) → IsGoodTree (entries_of loaded.tree)
unfolding LoadsTree
LoadsTree-good files name changes before after loaded loads = loads.1

-- the words ask for this command
pub Runs-performed :
    (words : List (List ℕ)) (asked : CommandView) (before after : Outside) (status : Status)
    → IsCommand words asked → Performs asked before status after → Runs words before status after
unfolding Runs Performs
Runs-performed words asked before after status is performs = (performs.0, performs.1 words is, performs.2, performs.3 words is)

-- there was no memory to read them
pub Runs-unread : (words : List (List ℕ)) (before after : Outside) → after.shelf.faults ≡ before.shelf.faults → after.out ≡ before.out → after.link ≡ before.link → Runs words before NoMemory after
unfolding Runs Comes Links
Runs-unread words before after stays out same =
    (OutOfMemory, stays, Ends-no_memory OutOfMemory before.out after.out 0 (ap (λ written. written.put) out ∙ appended-none before.out.put) (ap (λ written. written.faults) out), inl same)

-- they ask for nothing
pub Runs-usage :
    (words : List (List ℕ)) (before after : Outside) (status : Status)
    → ((asked : CommandView) → IsCommand words asked → None ≡ Some asked) → Ends NoCommand before.out status after.out
    → after.shelf.faults ≡ before.shelf.faults → after.link ≡ before.link → Runs words before status after
unfolding Runs Comes Links IsNoCommand
Runs-usage words before after status only ends stays same =
    (NoCommand, ((λ asked is performed. let none : None ≡ Some asked = only asked is in cc), stays), ends, same)

-- they ask for a command that isn't done
pub Performs-undone :
    (asked : CommandView) (before after : Outside) (status : Status)
    → (IsPerformed asked → ⊥) → Ends NoCommand before.out status after.out → after.shelf.faults ≡ before.shelf.faults → after.link ≡ before.link → Performs asked before status after
unfolding Performs Comes Links IsNoCommand
Performs-undone asked before after status undone ends stays same =
    let P : CommandView → Type 0 = λ command. IsPerformed command in
    (NoCommand, (λ words is. ((λ other is_other performed. undone (subst P (IsCommand-unique words other asked is_other is) performed)), stays)), ends, λ words is. same)

module _ (words : List (List ℕ)) (before after : Outside) (status : Status) where
  -- the text of an outcome that comes
  pub Runs-prints : Runs words before status after → Prints words before status after
  unfolding Runs Prints
  Runs-prints runs = (runs.0, runs.1, runs.2.puts, runs.3)

  -- a fault ends the program
  pub Runs-faults : Runs words before status after → EndsAtFaults before after status
  unfolding Runs
  Runs-faults runs = faults_end words before after runs.0 runs.1 runs.3 status runs.2

  -- only serving uses the link
  pub Runs-link : Runs words before status after → (AsksServing words → ⊥) → after.link ≡ before.link
  unfolding Runs
  Runs-link runs other = link_stays words before.shelf.files before.shelf.faults after.shelf.faults before.link after.link runs.0 other runs.1 runs.3

-- a status that isn't one of a refusal of the sink, or of want of memory, is that of the outcome
status_is : (outcome : Outcome) (old : Option (List ℕ)) (status : Status) (new : Option (List ℕ)) → Puts outcome old status new
    → (status ≡ SinkFault) ⊎ ((status ≡ NoMemory) ⊎ (status ≡ status_of outcome))
status_is outcome old Done new puts = inr (inr puts.0)
status_is outcome old Usage new puts = inr (inr puts.0)
status_is outcome old BadData new puts = inr (inr puts.0)
status_is outcome old ShelfFault new puts = inr (inr puts.0)
status_is outcome old SinkFault new puts = inl refl
status_is outcome old LinkFault new puts = inr (inr puts.0)
status_is outcome old TurnsSpent new puts = inr (inr puts.0)
status_is outcome old NoMemory new puts = inr (inl refl)
status_is outcome old BadScript new puts = inr (inr puts.0)
status_is outcome old NotProved new puts = inr (inr puts.0)
status_is outcome old StoreFault new puts = inr (inr puts.0)

-- so it is where it is none of these two
status_comes : (outcome : Outcome) (old : Option (List ℕ)) (status wanted : Status) (new : Option (List ℕ)) → Puts outcome old status new → status ≡ wanted
    → (wanted ≡ SinkFault → ⊥) → (wanted ≡ NoMemory → ⊥) → wanted ≡ status_of outcome
status_comes outcome old status wanted new puts is not_sink not_memory =
    elim (status_is outcome old status new puts) [
      | inl sink ↦ absurd (not_sink (sym is ∙ sink))
      | inr (inl memory) ↦ absurd (not_memory (sym is ∙ memory))
      | inr (inr same) ↦ sym is ∙ same
    ]

module _ (words : List (List ℕ)) (before after : Outside) (status : Status) where
  pub Runs-usage_cause : Runs words before status after → status ≡ Usage → IsNoCommand words
  unfolding Runs
  Runs-usage_cause runs is =
      usage_comes words before.shelf.files before.shelf.faults after.shelf.faults runs.0
      (status_comes runs.0 before.out.put status Usage after.out.put runs.2.puts is (λ e. cc) (λ e. cc)) runs.1

  pub Runs-cause : Runs words before status after → IsCause words before after status
  unfolding Runs
  Runs-cause runs = cause_comes words before after runs.0 status runs.2.puts runs.1 runs.3

  -- a command whose files are told and accepted is done
  pub Runs-complete : (outcome : Outcome) → Runs words before status after
      → IsDue words before.shelf.files before.link after.link outcome → (Rose before.shelf.faults after.shelf.faults → ⊥) → (Rose before.out.faults after.out.faults → ⊥) → EndsAs outcome status
  unfolding Runs
  Runs-complete outcome runs due shelf sink =
      elim (status_is runs.0 before.out.put status after.out.put runs.2.puts) [
        | inl fault ↦ absurd (sink (subst (λ ended. IsSinkCount before.out.faults after.out.faults ended) fault runs.2.cause))
        | inr (inl memory) ↦ inl memory
        | inr (inr same) ↦ elim (due_comes words before.shelf.files before.shelf.faults after.shelf.faults before.link after.link runs.0 outcome due shelf runs.1 runs.3) [
          | inl none ↦ inl (same ∙ none)
          | inr is ↦ inr (same ∙ is)
        ]
      ]
