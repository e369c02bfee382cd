-- Each clause of the program from what it came to.
use Rattle.std.proofs.Common.{◌≡◌, ◌⊎◌, ℕ, List, Result, Ok, Err, sym, ap, ◌∙◌, subst, inl, inr}
use Rattle.command_files.specs.plain_values.Counts.{Rose}
use Rattle.command_files.specs.wire_io.declared.answers.PutFault.{PutFault}
use Rattle.command_files.specs.wire_io.declared.answers.PutFault.TheVariants as put
use Rattle.command_files.specs.wire_io.Putting.{appended, PutsAll, PutCause}
use Rattle.command_files.specs.Ending.{EndsBy, status_after}
use Rattle.command_files.specs.Outside.{Written}
use Rattle.audit_program.specs.declared.status.AuditStatus.{AuditStatus}
use Rattle.audit_program.specs.declared.status.AuditStatus.TheVariants.{Done, Usage, BadData, ShelfFault, SinkFault, NoMemory, BadScript}
use Rattle.audit_program.specs.Statuses.{put_statuses}
use Rattle.audit_program.specs.Auditing.{Comes, EndsAtFaults, IsCause, IsDue, Outside, Prints, PutsAudit}
use Rattle.audit_program.proofs.program.DueLemmas.{due_comes}

-- all was put, and it ended as it wanted; or the sink refused; or memory ran out
record IsWhole (text : List ℕ) (wanted : AuditStatus) (before : Written) (status : AuditStatus) (after : Written) : Type 0 where
  is : status ≡ wanted
  whole : after.put ≡ appended before.put text
  stays : after.faults ≡ before.faults

record IsRefused (before : Written) (status : AuditStatus) (after : Written) : Type 0 where
  is : status ≡ SinkFault
  rose : Rose before.faults after.faults

record IsStarved (before : Written) (status : AuditStatus) (after : Written) : Type 0 where
  is : status ≡ NoMemory
  stays : after.faults ≡ before.faults

abbrev HowEnded : List ℕ → AuditStatus → Written → AuditStatus → Written → Type 0
HowEnded text wanted before status after = IsWhole text wanted before status after ⊎ (IsRefused before status after ⊎ IsStarved before status after)

by_answer : (text : List ℕ) (wanted : AuditStatus) (before after : Written) (status : AuditStatus) (answer : Result (Unit {0}) PutFault)
    → status ≡ status_after put_statuses answer wanted → PutsAll before.put text answer after.put → PutCause before.faults after.faults answer
    → HowEnded text wanted before status after
unfolding PutsAll PutCause
by_answer text wanted before after status (Ok done) is puts cause = inl (record { is = is; whole = puts; stays = cause })
by_answer text wanted before after status (Err put.Failed) is puts cause = inr (inl (record { is = is; rose = cause }))
by_answer text wanted before after status (Err put.NoMemory) is puts cause = inr (inr (record { is = is; stays = cause }))

how_ended : (text : List ℕ) (wanted : AuditStatus) (before after : Written) (status : AuditStatus)
    → EndsBy put_statuses text wanted before status after → HowEnded text wanted before status after
how_ended text wanted before after status ends = by_answer text wanted before after status ends.answer ends.is ends.puts ends.cause

-- the cause of each status that is wanted
comes_cause : (words : List (List ℕ)) (before after : Outside) (wanted : AuditStatus) (text : List ℕ) → Comes words before.shelf after.shelf wanted text → IsCause words before after wanted
unfolding Comes IsCause
comes_cause words before after Done text comes = tt
comes_cause words before after Usage text comes = comes.0
comes_cause words before after BadData text comes = (comes.0, comes.1, comes.2)
comes_cause words before after ShelfFault text comes = comes.0
comes_cause words before after SinkFault text comes = absurd comes
comes_cause words before after NoMemory text comes = tt
comes_cause words before after BadScript text comes = (comes.0, comes.1)

-- what the counts are then
comes_faults : (words : List (List ℕ)) (before after : Outside) (wanted : AuditStatus) (text : List ℕ)
    → after.out.faults ≡ before.out.faults → Comes words before.shelf after.shelf wanted text → EndsAtFaults before after wanted
unfolding Comes EndsAtFaults
comes_faults words before after Done text stays comes = (stays, comes.3)
comes_faults words before after Usage text stays comes = (stays, comes.2)
comes_faults words before after BadData text stays comes = (stays, comes.4)
comes_faults words before after ShelfFault text stays comes = stays
comes_faults words before after SinkFault text stays comes = absurd comes
comes_faults words before after NoMemory text stays comes = stays
comes_faults words before after BadScript text stays comes = (stays, comes.3)

-- the lines of an audit that is done
comes_done : (words : List (List ℕ)) (before after : Outside) (wanted : AuditStatus) (text : List ℕ)
    → wanted ≡ Done → after.out.put ≡ appended before.out.put text → Comes words before.shelf after.shelf wanted text → PutsAudit words before after
unfolding Comes PutsAudit
comes_done words before after Done text is whole comes = (comes.0, comes.1, whole ∙ ap (appended before.out.put) comes.2)
comes_done words before after Usage text is whole comes = absurd (cc is)
comes_done words before after BadData text is whole comes = absurd (cc is)
comes_done words before after ShelfFault text is whole comes = absurd (cc is)
comes_done words before after SinkFault text is whole comes = absurd (cc is)
comes_done words before after NoMemory text is whole comes = absurd (cc is)
comes_done words before after BadScript text is whole comes = absurd (cc is)

sink_not_done : (status : AuditStatus) → status ≡ SinkFault → status ≡ Done → ⊥
sink_not_done status is done = let clash : SinkFault ≡ Done = sym is ∙ done in cc clash

starved_not_done : (status : AuditStatus) → status ≡ NoMemory → status ≡ Done → ⊥
starved_not_done status is done = let clash : NoMemory ≡ Done = sym is ∙ done in cc clash

module _ (words : List (List ℕ)) (before after : Outside) (status : AuditStatus) where
  pub Prints-done : Prints words before status after → status ≡ Done → PutsAudit words before after
  unfolding Prints
  Prints-done prints done = elim (how_ended prints.1 prints.0 before.out after.out status prints.3) [
    | inl ended ↦ comes_done words before after prints.0 prints.1 (sym ended.is ∙ done) ended.whole prints.2
    | inr (inl refused) ↦ absurd (sink_not_done status refused.is done)
    | inr (inr starved) ↦ absurd (starved_not_done status starved.is done)
  ]

  pub Prints-cause : Prints words before status after → IsCause words before after status
  unfolding Prints IsCause
  Prints-cause prints =
      let P : AuditStatus → Type 0 = λ ended. IsCause words before after ended in
      elim (how_ended prints.1 prints.0 before.out after.out status prints.3) [
        | inl ended ↦ subst P (sym ended.is) (comes_cause words before after prints.0 prints.1 prints.2)
        | inr (inl refused) ↦ subst P (sym refused.is) refused.rose
        | inr (inr starved) ↦ subst P (sym starved.is) tt
      ]

  pub Prints-faults : Prints words before status after → EndsAtFaults before after status
  unfolding Prints EndsAtFaults
  Prints-faults prints =
      let P : AuditStatus → Type 0 = λ ended. EndsAtFaults before after ended in
      elim (how_ended prints.1 prints.0 before.out after.out status prints.3) [
        | inl ended ↦ subst P (sym ended.is) (comes_faults words before after prints.0 prints.1 ended.stays prints.2)
        | inr (inl refused) ↦ subst P (sym refused.is) refused.rose
        | inr (inr starved) ↦ subst P (sym starved.is) starved.stays
      ]

  pub Prints-complete : Prints words before status after → IsDue words before.shelf.files
      → (Rose before.shelf.faults after.shelf.faults → ⊥) → (Rose before.out.faults after.out.faults → ⊥) → (status ≡ Done) ⊎ (status ≡ NoMemory)
  unfolding Prints
  Prints-complete prints due shelf sink = elim (how_ended prints.1 prints.0 before.out after.out status prints.3) [
    | inl ended ↦ elim (due_comes words before.shelf after.shelf prints.0 prints.1 due shelf prints.2) [
      | inl done ↦ inl (ended.is ∙ done)
      | inr none ↦ inr (ended.is ∙ none)
    ]
    | inr (inl refused) ↦ absurd (sink refused.rose)
    | inr (inr starved) ↦ inr starved.is
  ]
