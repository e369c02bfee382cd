-- A replay puts the lines of the replay over twins.
use Rattle.std.proofs.Common.{◌≡◌, ℕ, false, List, Option, refl, ap, sym, ◌∙◌, subst, arith, inl, inr, ◌⊎◌, append-nil}
use Rattle.std.specs.List.{AllByRecursion}
use Rattle.command_files.specs.plain_values.Counts.{Rose}
use Rattle.command_files.specs.script_text.declared.event.ScriptEvent.{ScriptEvent}
use Rattle.command_files.specs.wire_io.Files.{Files}
use Rattle.command_files.specs.wire_io.Putting.{appended}
use Rattle.command_files.specs.dn_names.name.Names.{RdnSequence}
use Rattle.session_hub.specs.session_model.Run.{Sessions}
use Rattle.session_hub.specs.session_model.Journaled.{steps_of_events}
use Rattle.session_hub.specs.session_model.AnsweredMessages.{over}
use Rattle.session_hub.specs.Parties.{DirectoryEntries, Requester}
use Rattle.session_hub.specs.Twins.{IsOverTwins}
use Rattle.session_hub.proofs.Theorems.{replayed-twins}
use Rattle.session_hub.specs.Terms.{no_terms}
use Rattle.acl_program.specs.declared.status.Status.{Status}
use Rattle.acl_program.specs.declared.status.Status.TheVariants.{Done, ShelfFault, TurnsSpent, NoMemory}
use Rattle.acl_program.specs.Lines.{lines_of, heard_of, replay_of, replay_text}
use Rattle.acl_program.specs.Outcomes.{Outcome, NoFile, BadDataLine, Replayed, OutOfMemory, text_of, status_of}
use Rattle.acl_program.specs.program.Outside.{Outside}
use Rattle.acl_program.specs.program.Causes.{Comes}
use Rattle.acl_program.specs.program.Running.{Puts}
use Rattle.acl_program.specs.program.Playing.{Runs}
use Rattle.acl_program.specs.program.Twins.{answered_of_script, AsksLines, PrintsAlike}
use Rattle.acl_program.proofs.program.DueLemmas.{replay_due}

-- the lines are of the connections, and not of the entries
lines_of-over : (other : DirectoryEntries) (u : Sessions DirectoryEntries Requester) → lines_of (over other u) ≡ lines_of u
unfolding lines_of
lines_of-over other u = refl

replay_text-twins : (one other : DirectoryEntries) (top : RdnSequence) (events : List ScriptEvent) (turns : ℕ)
    → AllByRecursion (IsOverTwins other top) (answered_of_script one events turns) → replay_text one events turns ≡ replay_text other events turns
unfolding replay_text
replay_text-twins one other top events turns all =
    let alike = replayed-twins no_terms one other top (steps_of_events (heard_of events turns)) all in
    sym (lines_of-over other (replay_of one events turns)) ∙ ap lines_of (sym alike.same)

-- an outcome whose status isn't that of a file that wasn't read leaves the shelf's count as it was, whatever that is
comes_anyway : (words : List (List ℕ)) (files : Option Files) (before after : ℕ) (outcome : Outcome) → (status_of outcome ≡ ShelfFault → ⊥)
    → Comes words files before after outcome → Comes words files 0 0 outcome
unfolding Comes status_of
comes_anyway words files before after NoFile other comes = absurd (other refl)
comes_anyway words files before after OutOfMemory other comes = refl
comes_anyway words files before after (BadDataLine line cause) other comes = (comes.0, comes.1, refl)
comes_anyway words files before after outcome other comes = (comes.0, refl)

-- a count that stands at 0 didn't rise
none_rose : Rose 0 0 → ⊥
none_rose rose = elim rose.rose [ inl more ↦ omega arith | inr last ↦ omega arith ]

-- the outcome of a replay that is done, or whose turns are spent
outcome_of_lines : (words : List (List ℕ)) (files : Option Files) (before after : ℕ) (events : List ScriptEvent) (turns : ℕ) (entries : DirectoryEntries) (outcome : Outcome)
    → AsksLines words files events turns entries → (status_of outcome ≡ Done) ⊎ (status_of outcome ≡ TurnsSpent) → Comes words files before after outcome
    → outcome ≡ Replayed events turns false entries
unfolding status_of
outcome_of_lines words files before after events turns entries outcome asks ended comes =
    elim (replay_due words files 0 0 asks.data_file asks.script turns false entries events asks.asked asks.data_good asks.script_good none_rose outcome
    (comes_anyway words files before after outcome (not_shelf ended) comes)) [
      | inl none ↦ absurd (not_memory (ap status_of none) ended)
      | inr same ↦ same
    ]
  where
    not_shelf : (status_of outcome ≡ Done) ⊎ (status_of outcome ≡ TurnsSpent) → status_of outcome ≡ ShelfFault → ⊥
    not_shelf (inl is) e = (let clash : Done ≡ ShelfFault = sym is ∙ e in cc)
    not_shelf (inr is) e = (let clash : TurnsSpent ≡ ShelfFault = sym is ∙ e in cc)

    not_memory : status_of outcome ≡ NoMemory → (status_of outcome ≡ Done) ⊎ (status_of outcome ≡ TurnsSpent) → ⊥
    not_memory none (inl is) = (let clash : NoMemory ≡ Done = sym none ∙ is in cc)
    not_memory none (inr is) = (let clash : NoMemory ≡ TurnsSpent = sym none ∙ is in cc)

-- its text
text_of-lines : (events : List ScriptEvent) (turns : ℕ) (entries : DirectoryEntries) → text_of (Replayed events turns false entries) ≡ replay_text entries events turns
unfolding text_of
text_of-lines events turns entries = append-nil (replay_text entries events turns)

module _ (words : List (List ℕ)) (before after : Outside) (status : Status) where
  -- what was put is the text of an outcome with this status
  whole_put : (outcome : Outcome) → Puts outcome before.out.put status after.out.put → (status ≡ Done) ⊎ (status ≡ TurnsSpent)
      → ((status_of outcome ≡ Done) ⊎ (status_of outcome ≡ TurnsSpent)) × (after.out.put ≡ appended before.out.put (text_of outcome))
  whole_put outcome puts (inl done) =
      let as_done : Puts outcome before.out.put Done after.out.put = subst (λ ended. Puts outcome before.out.put ended after.out.put) done puts in
      (inl (sym as_done.0), as_done.1)
  whole_put outcome puts (inr spent) =
      let as_spent : Puts outcome before.out.put TurnsSpent after.out.put = subst (λ ended. Puts outcome before.out.put ended after.out.put) spent puts in
      (inr (sym as_spent.0), as_spent.1)

  pub Runs-twins : Runs words before status after → PrintsAlike words before status after
  unfolding Runs PrintsAlike
  Runs-twins runs events turns entries other top asks all ended =
      let whole = whole_put runs.0 runs.2.puts ended in
      let is : runs.0 ≡ Replayed events turns false entries =
      outcome_of_lines words before.shelf.files before.shelf.faults after.shelf.faults events turns entries runs.0 asks whole.0 runs.1 in
      whole.1 ∙ ap (appended before.out.put) (ap text_of is ∙ text_of-lines events turns entries ∙ replay_text-twins entries other top events turns all)
