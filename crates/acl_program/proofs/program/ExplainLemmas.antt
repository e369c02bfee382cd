-- Where the words ask why a data file is refused that the shelf tells, and it isn't accepted, its explanation is due: no other
-- outcome comes, but for want of memory.
use Rattle.std.proofs.Common.{◌≡◌, ◌<◌, ℕ, List, length, Option, Some, None, Ok, Err, refl, sym, ap, ◌∙◌, subst, arith, inl, inr, ◌⊎◌}
use Rattle.command_files.specs.plain_values.Counts.{Rose}
use Rattle.command_files.specs.wire_io.Files.{Files}
use Rattle.command_words.specs.command.Command.{CommandView, Serve, Replay, Check, Why, Dump, Sample, Verify, IsCommand}
use Rattle.command_words.proofs.Theorems.{IsCommand-unique}
use Rattle.command_files.specs.declared.loading.SecondFile.TheVariants as second
use Rattle.command_files.specs.ldif_load.load.DataFile.{FileCause, FileFault, loads}
use Rattle.command_files.specs.loading.Accepting.{FailsIn, HoldsIn, IsBadBeside, IsGoodData, IsLongData, IsTold, IsUnreadBeside, most_data}
use Rattle.command_files.proofs.Theorems.{known_read, both_in, both_fail, FailsIn-weaker}
use Rattle.acl_program.specs.Answering.{Tells, TellsWhy}
use Rattle.acl_program.specs.Outcomes.{Outcome, NoCommand, NoFile, BadDataLine, BadChangesLine, BadLine, FalseLine, Checked, Dumped, Replayed, Served, Answered, Explained, Sampled, OutOfMemory}
use Rattle.acl_program.specs.program.Causes.{AsksData, Comes, ExplainsData, IsNoCommand, Second, changes_of, data_of, second_of}
use Rattle.acl_program.proofs.program.ReadyLemmas.{OfServe, OfReplay, OfCheck, OfDump, OfAnswer, OfSample, kind_of}

module _ (words : List (List ℕ)) (files : Option Files) (before after line : ℕ) (cause : FileCause) (content : List ℕ)
    (due : ExplainsData words (IsTold files) line cause content) (still : Rose before after → ⊥) where
  -- a command of these words is this one
  same_command : (other : CommandView) → IsCommand words other → other ≡ Why due.data_file
  same_command other is = IsCommand-unique words other (Why due.data_file) is due.asked

  -- so it answers, has no second file, and its data file is told
  answers : (other : CommandView) → IsCommand words other → kind_of other ≡ OfAnswer
  answers other is = ap kind_of (same_command other is)

  no_second : (other : CommandView) (read : Second) → IsCommand words other → second_of other ≡ Some read → ⊥
  no_second other read is has = let none : None ≡ Some read = sym (ap second_of (same_command other is)) ∙ has in cc

  told_data : (other : CommandView) (name : List ℕ) → IsCommand words other → data_of other ≡ Some name → IsTold files name (λ own. own ≡ content)
  told_data other name is has =
      let same : Some due.data_file ≡ Some name = sym (ap data_of (same_command other is)) ∙ has in
      let file : due.data_file ≡ name = cc (same) in
      subst (λ name. IsTold files name (λ own. own ≡ content)) file due.is

  -- it isn't too long
  not_long : (found : ℕ) → FailsIn files due.data_file (IsLongData found) → ⊥
  not_long found long =
      let both = both_fail files due.data_file (λ own. own ≡ content) (λ own. most_data < length own) due.is
      (FailsIn-weaker files due.data_file (IsLongData found) (λ own. most_data < length own) (λ own longer. longer.0) long) in
      let longer : most_data < length content = subst (λ all. most_data < length all) both.1 both.2 in
      omega (arith, due.bad.0, longer)

  -- and isn't accepted
  not_good : (text : List ℕ) → TellsWhy due.data_file (HoldsIn files) text → ⊥
  not_good text tells =
      let both = both_in files due.data_file (λ own. own ≡ content) (IsGoodData tells.entries) due.is tells.good in
      let clash : Ok tells.entries ≡ Err (record { line = line; cause = cause }) = sym both.2.loaded ∙ ap loads both.1 ∙ due.bad.1 in cc

  -- what is explained of it is this fault
  same_fault : (found : ℕ) (other : FileCause) (read : List ℕ) → ExplainsData words (HoldsIn files) found other read → Explained found other read ≡ Explained line cause content
  same_fault found other read own =
      let both = both_in files own.data_file (λ all. all ≡ content) (λ all. all ≡ read) (told_data (Why own.data_file) own.data_file own.asked refl) own.is in
      let same : read ≡ content = sym both.2 ∙ both.1 in
      let told : FileFault = record { line = found; cause = other } in
      let fault : FileFault = record { line = line; cause = cause } in
      let errors : Err told ≡ Err fault = sym own.bad.1 ∙ ap loads same ∙ due.bad.1 in
      let faults : told ≡ fault = cc (errors) in
      let lines : found ≡ line = ap (λ all. all.line) faults in
      let causes : other ≡ cause = ap (λ all. all.cause) faults in
      cc (lines, causes, same)

  pub explain_due : (outcome : Outcome) → Comes words files before after outcome → (outcome ≡ OutOfMemory) ⊎ (outcome ≡ Explained line cause content)
  unfolding Comes IsNoCommand AsksData
  explain_due NoCommand comes = absurd (comes.0 (Why due.data_file) due.asked tt)
  explain_due NoFile (inl lacks) =
      absurd (known_read files lacks.data_file (λ own. own ≡ content) before after (told_data lacks.asked.0 lacks.data_file lacks.asked.1 lacks.asked.2) still lacks.unread)
  explain_due NoFile (inr (inl lacks)) = absurd (no_second lacks.asked.command lacks.read lacks.asked.asked lacks.asked.has_second)
  explain_due NoFile (inr (inr lacks)) =
      absurd (subst (λ changes. IsUnreadBeside files lacks.data_file before after changes) (ap changes_of (same_command lacks.command lacks.asked)) lacks.unread)
  explain_due (BadDataLine found other) comes = absurd (not_long found (comes.1 due.data_file due.asked).0)
  explain_due (BadChangesLine found other) comes =
      absurd (subst (λ changes. IsBadBeside files comes.0.data_file found other changes) (ap changes_of (same_command comes.0.command comes.0.asked)) comes.0.bad)
  explain_due (BadLine file found) comes =
      absurd (no_second comes.0.asked.command (record { kind = file; name = comes.0.name }) comes.0.asked.asked comes.0.asked.has_second)
  explain_due (FalseLine found) comes =
      absurd (no_second (Verify comes.0.data_file comes.0.certificate) (record { kind = second.Certificate; name = comes.0.certificate }) comes.0.asked refl)
  explain_due (Checked left) comes = let clash : OfCheck ≡ OfAnswer = answers (Check comes.0.data_file comes.0.changes) comes.0.asked in absurd (cc)
  explain_due (Dumped left) comes = let clash : OfDump ≡ OfAnswer = answers (Dump comes.0.data_file comes.0.changes) comes.0.asked in absurd (cc)
  explain_due (Replayed events turns dump entries) comes =
      let own = comes.0.asked in
      let clash : OfReplay ≡ OfAnswer = answers (Replay own.data_file comes.0.script turns dump) own.asked in absurd (cc)
  explain_due (Served asks end) comes = let clash : OfServe ≡ OfAnswer = answers (Serve asks.serving) comes.0.asked in absurd (cc)
  explain_due (Answered text) comes =
      absurd (not_good text (subst (λ command. Tells command (HoldsIn files) text) (same_command comes.0.command comes.0.asked) comes.0.tells))
  explain_due (Explained found other read) comes = inr (same_fault found other read comes.0)
  explain_due (Sampled text) comes = let clash : OfSample ≡ OfAnswer = answers (Sample comes.0.count) comes.0.asked in absurd (cc)
  explain_due OutOfMemory comes = inl refl
