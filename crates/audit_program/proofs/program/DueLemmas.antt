-- Where an audit is due, it is made, but for want of memory.
use Rattle.std.proofs.Common.{◌≡◌, ◌⊎◌, ℕ, List, Option, refl, subst, inl, inr}
use Rattle.command_files.specs.plain_values.Counts.{Rose}
use Rattle.command_files.specs.wire_io.Files.{Files}
use Rattle.command_files.specs.ldif_load.load.DataFile.{FileCause}
use Rattle.command_files.specs.loading.Accepting.{IsUnread, FailsIn, IsGoodData, IsBadData, IsGoodScript, IsBadScript}
use Rattle.command_files.specs.Outside.{Shelved}
use Rattle.command_files.proofs.Theorems.{known_read, both_fail, good_not_refused, good_not_bad}
use Rattle.audit_program.specs.declared.status.AuditStatus.{AuditStatus}
use Rattle.audit_program.specs.declared.status.AuditStatus.TheVariants.{Done, Usage, BadData, ShelfFault, SinkFault, NoMemory, BadScript}
use Rattle.audit_program.specs.Auditing.{AskNoAudit, Comes, IsDue, LacksData, LacksScript, RefusesData, RefusesScript}
use Rattle.audit_program.specs.Words.{AuditView}
use Rattle.audit_program.proofs.words.WordLemmas.{one_asked}

module _ (words : List (List ℕ)) (files : Option Files) (due : IsDue words files) where
  -- a data file that is accepted is not refused
  data_stands : (line : ℕ) (cause : FileCause) → RefusesData words files line cause → ⊥
  data_stands line cause refuses =
      let same = one_asked words refuses.asked due.asked refuses.asks due.asks in
      let P : AuditView → Type 0 = λ asked. FailsIn files asked.data_file (IsBadData line cause) in
      let both = both_fail files due.asked.data_file (IsGoodData due.entries) (IsBadData line cause) due.good_data (subst P same refuses.bad) in
      good_not_refused due.entries line cause both.0 both.1 both.2

  -- nor is a script
  script_stands : (line : ℕ) → RefusesScript words files line → ⊥
  script_stands line refuses =
      let same = one_asked words refuses.asked due.asked refuses.asks due.asks in
      let P : AuditView → Type 0 = λ asked. FailsIn files asked.script (IsBadScript line) in
      let both = both_fail files due.asked.script (IsGoodScript due.events) (IsBadScript line) due.good_script (subst P same refuses.bad) in
      good_not_bad due.events line both.0 both.1 both.2

  -- and both are read, where the shelf is not at fault
  files_read : (before after : ℕ) → (Rose before after → ⊥) → LacksData words files before after ⊎ LacksScript words files before after → ⊥
  files_read before after still (inl lacks) =
      let same = one_asked words lacks.asked due.asked lacks.asks due.asks in
      let P : AuditView → Type 0 = λ asked. IsUnread files asked.data_file before after in
      known_read files due.asked.data_file (IsGoodData due.entries) before after due.good_data still (subst P same lacks.unread)
  files_read before after still (inr lacks) =
      let same = one_asked words lacks.asked due.asked lacks.asks due.asks in
      let P : AuditView → Type 0 = λ asked. IsUnread files asked.script before after in
      known_read files due.asked.script (IsGoodScript due.events) before after due.good_script still (subst P same lacks.unread)

-- what the program comes to
pub due_comes : (words : List (List ℕ)) (before after : Shelved) (wanted : AuditStatus) (text : List ℕ)
    → IsDue words before.files → (Rose before.faults after.faults → ⊥) → Comes words before after wanted text → (wanted ≡ Done) ⊎ (wanted ≡ NoMemory)
unfolding Comes AskNoAudit
due_comes words before after Done text due still comes = inl refl
due_comes words before after Usage text due still comes = absurd (comes.0 due.asked due.asks)
due_comes words before after BadData text due still comes = absurd (data_stands words before.files due comes.0 comes.1 comes.2)
due_comes words before after ShelfFault text due still comes = absurd (files_read words before.files due before.faults after.faults still comes.0)
due_comes words before after SinkFault text due still comes = absurd comes
due_comes words before after NoMemory text due still comes = inr refl
due_comes words before after BadScript text due still comes = absurd (script_stands words before.files due comes.0 comes.1)
