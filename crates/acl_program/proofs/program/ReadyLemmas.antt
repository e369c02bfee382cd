-- A command whose files are told and accepted comes to nothing but its own work, or want of memory.
use Rattle.std.proofs.Common.{◌≡◌, ℕ, List, Option, Some, None, Ok, Err, refl, sym, ap, ◌∙◌, subst, inl, inr, ◌⊎◌}
use Rattle.command_files.specs.plain_values.Counts.{Rose}
use Rattle.command_files.specs.wire_io.Files.{Files}
use Rattle.command_words.specs.command.Command.{CommandView, Serve, Replay, Check, Why, Dump, Explain, Sample, Ask, Prove, Verify, Rights, Help, Version, IsCommand}
use Rattle.command_words.proofs.Theorems.{IsCommand-unique}
use Rattle.command_files.specs.declared.changing.ChangesCause.{ChangesCause}
use Rattle.command_files.specs.loading.Changing.{Left}
use Rattle.command_files.specs.declared.loading.SecondFile.{SecondFile}
use Rattle.command_files.specs.declared.loading.SecondFile.TheVariants as second
use Rattle.command_files.specs.dir_tree.Entry.{EntryInformation}
use Rattle.command_files.specs.ldif_load.load.DataFile.{FileCause, loads}
use Rattle.sample_input.specs.SampleFile.{sample_file}
use Rattle.command_files.proofs.Theorems.{known_read, both_in, both_fail, HoldsIn-fails, HoldsIn-weaker, good_not_refused, one_entries, IsTold-weaker, beside_read, beside_not_bad}
use Rattle.acl_program.specs.Outcomes.{Outcome, NoCommand, NoFile, BadDataLine, BadChangesLine, BadLine, FalseLine, Checked, Dumped, Replayed, Served, Answered, Explained, Sampled, OutOfMemory}
use Rattle.acl_program.specs.Answering.{IsFalseCertificate, Tells}
use Rattle.acl_program.specs.Sampling.{RefusesSample}
use Rattle.command_files.specs.loading.Accepting.{HoldsBeside, IsBadBeside, IsGoodChanges, IsGoodData, IsBadData, IsFaultyData, IsLoaded, IsUnreadBeside, HoldsIn, FailsIn, IsTold}
use Rattle.acl_program.specs.program.Causes.{IsNoCommand, IsPerformed, AsksData, changes_of, data_of, Second, second_of, IsBadSecond, Comes, RefusesData}
use Rattle.acl_program.proofs.program.AcceptLemmas.{certificate_not_false, IsGoodSecond, second_not_bad}

-- the files of a command, where it has them, are told and accepted
unfoldable pub ReadyData : Option Files → List EntryInformation → Option (List ℕ) → Type 0
ReadyData files entries None = Unit {0}
ReadyData files entries (Some name) = IsTold files name (IsGoodData entries)

unfoldable pub ReadySecond : Option Files → List EntryInformation → Option Second → Type 0
ReadySecond files entries None = Unit {0}
ReadySecond files entries (Some read) = IsTold files read.name (IsGoodSecond read.kind entries)

unfoldable pub ReadyBeside : Option Files → List EntryInformation → List ℕ → Option (List ℕ) → Type 0
ReadyBeside files entries changes None = Unit {0}
ReadyBeside files entries changes (Some name) = (left : Left) × HoldsBeside (IsTold files) entries name changes (IsGoodChanges entries left)

unfoldable pub ReadyChanges : Option Files → List EntryInformation → Option (List ℕ) → Option (List ℕ) → Type 0
ReadyChanges files entries None data_file = Unit {0}
ReadyChanges files entries (Some changes) data_file = ReadyBeside files entries changes data_file

-- and the data file of a sample is accepted
unfoldable pub ReadySample : CommandView → Type 0
ReadySample (Sample count) = (found : List EntryInformation) × (loads (sample_file count) ≡ Ok found)
ReadySample asked = Unit {0}

-- a command that is done, over these entries
pub record IsReady (files : Option Files) (asked : CommandView) (entries : List EntryInformation) : Type 0 where
  pub performed : IsPerformed asked
  pub data_ready : ReadyData files entries (data_of asked)
  pub second_ready : ReadySecond files entries (second_of asked)
  pub changes_ready : ReadyChanges files entries (changes_of asked) (data_of asked)
  pub sample_ready : ReadySample asked

-- the kinds of work
pub data Kind : Type 0 where
  OfServe : Kind
  OfReplay : Kind
  OfCheck : Kind
  OfDump : Kind
  OfAnswer : Kind
  OfSample : Kind

-- that of a command
abbrev pub kind_of : CommandView → Kind
kind_of (Serve serving) = OfServe
kind_of (Replay data_file script turns dump) = OfReplay
kind_of (Check data_file changes) = OfCheck
kind_of (Why data_file) = OfAnswer
kind_of (Dump data_file changes) = OfDump
kind_of (Explain data_file who target item permission) = OfAnswer
kind_of (Sample count) = OfSample
kind_of (Ask data_file requests script) = OfAnswer
kind_of (Prove data_file who target item permission) = OfAnswer
kind_of (Verify data_file certificate) = OfAnswer
kind_of (Rights data_file who target) = OfAnswer
kind_of Help = OfAnswer
kind_of Version = OfAnswer

-- work of the kind is done
abbrev pub IsDone : Kind → Outcome → Type 0
IsDone OfServe (Served asks end) = Unit {0}
IsDone OfReplay (Replayed events turns dump entries) = Unit {0}
IsDone OfCheck (Checked left) = Unit {0}
IsDone OfDump (Dumped left) = Unit {0}
IsDone OfAnswer (Answered text) = Unit {0}
IsDone OfSample (Sampled text) = Unit {0}
IsDone kind outcome = ⊥

-- a file whose content isn't accepted is refused
pub content_fails : (files : Option Files) (name : List ℕ) (line : ℕ) (cause : FileCause) (content : List ℕ) → HoldsIn files name (λ own. own ≡ content) → IsFaultyData line cause content → FailsIn files name (IsBadData line cause)
unfolding IsBadData
content_fails files name line cause content is faulty =
    let bad : IsBadData line cause content = inl faulty in
    HoldsIn-fails files name (IsBadData line cause) (HoldsIn-weaker files name (λ own. own ≡ content) (IsBadData line cause) (λ own same. subst (IsBadData line cause) (sym same) bad) is)

-- a command that tells something answers
pub tells_kind : (command : CommandView) (holds : List ℕ → (List ℕ → Type 0) → Type 0) (text : List ℕ) → Tells command holds text → kind_of command ≡ OfAnswer
tells_kind (Why data_file) holds text tells = refl
tells_kind (Explain data_file who target item permission) holds text tells = refl
tells_kind (Prove data_file who target item permission) holds text tells = refl
tells_kind (Rights data_file who target) holds text tells = refl
tells_kind (Verify data_file certificate) holds text tells = refl
tells_kind (Ask data_file requests script) holds text tells = refl
tells_kind Help holds text tells = refl
tells_kind Version holds text tells = refl
tells_kind command holds text tells = absurd tells

-- the words ask for a command that is done: its work is done, but for want of memory
module _ (words : List (List ℕ)) (files : Option Files) (before after : ℕ) (asked : CommandView) (is : IsCommand words asked) (entries : List EntryInformation)
    (ready : IsReady files asked entries) (still : Rose before after → ⊥) where
  -- a command of these words is this one
  same_command : (other : CommandView) → IsCommand words other → other ≡ asked
  same_command other is_other = IsCommand-unique words other asked is_other is

  -- its data file is told, and its second file
  told_data : (other : CommandView) (name : List ℕ) → IsCommand words other → data_of other ≡ Some name → IsTold files name (IsGoodData entries)
  unfolding ReadyData
  told_data other name is_other has =
      let same : data_of asked ≡ Some name = sym (ap (λ command. data_of command) (same_command other is_other)) ∙ has in
      subst (λ name. ReadyData files entries name) same ready.data_ready

  told_second : (other : CommandView) (read : Second) → IsCommand words other → second_of other ≡ Some read → IsTold files read.name (IsGoodSecond read.kind entries)
  unfolding ReadySecond
  told_second other read is_other has =
      let same : second_of asked ≡ Some read = sym (ap (λ command. second_of command) (same_command other is_other)) ∙ has in
      subst (λ read. ReadySecond files entries read) same ready.second_ready

  -- with these entries
  pub same_entries : (found : List EntryInformation) (other : CommandView) (name : List ℕ) → IsCommand words other → data_of other ≡ Some name → HoldsIn files name (IsGoodData found) → found ≡ entries
  same_entries found other name is_other has good =
      let both = both_in files name (IsGoodData entries) (IsGoodData found) (told_data other name is_other has) good in
      one_entries found entries both.0 both.2 both.1

  -- the data file isn't refused
  accepts_data : (line : ℕ) (cause : FileCause) (other : CommandView) (name : List ℕ) → IsCommand words other → data_of other ≡ Some name → FailsIn files name (IsBadData line cause) → ⊥
  accepts_data line cause other name is_other has bad =
      let both = both_fail files name (IsGoodData entries) (IsBadData line cause) (told_data other name is_other has) bad in
      good_not_refused entries line cause both.0 both.1 both.2

  accepts_sample : (line : ℕ) (cause : FileCause) → RefusesSample words line cause → ⊥
  unfolding ReadySample
  accepts_sample line cause refuses =
      let loaded : ReadySample (Sample refuses.count) = subst (λ command. ReadySample command) (sym (same_command (Sample refuses.count) refuses.asked)) ready.sample_ready in
      let clash : Ok loaded.0 ≡ Err (record { line = line; cause = cause }) = sym loaded.1 ∙ refuses.bad in cc

  -- nor the second one
  accepts_second : (kind : SecondFile) (found : List EntryInformation) (line : ℕ) (other : CommandView) (name data_file : List ℕ) → IsCommand words other → data_of other ≡ Some data_file
      → second_of other ≡ Some (record { kind = kind; name = name }) → HoldsIn files data_file (IsGoodData found) → FailsIn files name (IsBadSecond kind found line) → ⊥
  accepts_second kind found line other name data_file is_other has_data has_second good bad =
      let same = same_entries found other data_file is_other has_data good in
      let both = both_fail files name (IsGoodSecond kind entries) (IsBadSecond kind entries line) (told_second other (record { kind = kind; name = name }) is_other has_second)
      (subst (λ all. FailsIn files name (IsBadSecond kind all line)) same bad) in
      second_not_bad kind entries line both.0 both.1 both.2

  accepts_files : (line : ℕ) (cause : FileCause) → RefusesData words files line cause ⊎ RefusesSample words line cause → ⊥
  unfolding AsksData
  accepts_files line cause (inl refuses) = accepts_data line cause refuses.asked.0 refuses.data_file refuses.asked.1 refuses.asked.2 refuses.bad
  accepts_files line cause (inr refuses) = accepts_sample line cause refuses

  -- nor is the file of changes
  changes_read : (changes : Option (List ℕ)) (name : List ℕ) → ReadyChanges files entries changes (Some name) → IsUnreadBeside files name before after changes → ⊥
  unfolding ReadyChanges ReadyBeside
  changes_read None name beside unread = unread
  changes_read (Some changes) name beside unread = beside_read files name changes entries beside.0 beside.1 before after still unread.2

  changes_stand : (line : ℕ) (cause : ChangesCause) (changes : Option (List ℕ)) (name : List ℕ) → ReadyChanges files entries changes (Some name) → IsBadBeside files name line cause changes → ⊥
  unfolding ReadyChanges ReadyBeside
  changes_stand line cause None name beside bad = bad
  changes_stand line cause (Some changes) name beside bad = beside_not_bad files name changes entries beside.0 beside.1 bad.0 line cause bad.1

  told_changes : (other : CommandView) (name : List ℕ) → IsCommand words other → data_of other ≡ Some name → ReadyChanges files entries (changes_of other) (Some name)
  told_changes other name is_other has =
      let own = subst (λ command. ReadyChanges files entries (changes_of command) (data_of command)) (sym (same_command other is_other)) ready.changes_ready in
      subst (λ data_file. ReadyChanges files entries (changes_of other) data_file) has own

  pub comes_done : (outcome : Outcome) → Comes words files before after outcome → (outcome ≡ OutOfMemory) ⊎ IsDone (kind_of asked) outcome
  unfolding Comes IsNoCommand AsksData IsGoodSecond
  comes_done NoCommand comes = absurd (comes.0 asked is ready.performed)
  comes_done NoFile (inl lacks) =
      absurd (known_read files lacks.data_file (IsGoodData entries) before after (told_data lacks.asked.0 lacks.data_file lacks.asked.1 lacks.asked.2) still lacks.unread)
  comes_done NoFile (inr (inr lacks)) =
      absurd (changes_read (changes_of lacks.command) lacks.data_file (told_changes lacks.command lacks.data_file lacks.asked lacks.has_data) lacks.unread)
  comes_done NoFile (inr (inl lacks)) =
      absurd (known_read files lacks.read.name (IsGoodSecond lacks.read.kind entries) before after (told_second lacks.asked.command lacks.read lacks.asked.asked lacks.asked.has_second) still lacks.unread)
  comes_done (BadDataLine line cause) comes = absurd (accepts_files line cause comes.0)
  comes_done (BadChangesLine line cause) comes =
      let own = comes.0 in
      absurd (changes_stand line cause (changes_of own.command) own.data_file (told_changes own.command own.data_file own.asked own.has_data) own.bad)
  comes_done (BadLine file line) comes =
      let own = comes.0.asked in
      absurd (accepts_second file comes.0.entries line own.command comes.0.name own.data_file own.asked own.has_data own.has_second own.good comes.0.bad)
  comes_done (FalseLine line) comes =
      let own = comes.0 in
      let command = Verify own.data_file own.certificate in
      let same = same_entries own.entries command own.data_file own.asked refl own.good in
      let both = both_in files own.certificate (IsGoodSecond second.Certificate entries) (IsFalseCertificate entries line) (told_second command (record { kind = second.Certificate; name = own.certificate }) own.asked refl)
      (subst (λ all. HoldsIn files own.certificate (IsFalseCertificate all line)) same own.refuted) in
      absurd (certificate_not_false entries both.1.0 line both.0 both.1.1 both.2)
  comes_done (Checked found) comes = inr (subst (λ command. IsDone (kind_of command) (Checked found)) (same_command (Check comes.0.data_file comes.0.changes) comes.0.asked) tt)
  comes_done (Dumped found) comes = inr (subst (λ command. IsDone (kind_of command) (Dumped found)) (same_command (Dump comes.0.data_file comes.0.changes) comes.0.asked) tt)
  comes_done (Replayed events turns dump found) comes =
      let own = comes.0.asked in
      inr (subst (λ command. IsDone (kind_of command) (Replayed events turns dump found)) (same_command (Replay own.data_file comes.0.script turns dump) own.asked) tt)
  comes_done (Served asks end) comes = inr (subst (λ command. IsDone (kind_of command) (Served asks end)) (same_command (Serve asks.serving) comes.0.asked) tt)
  comes_done (Answered text) comes =
      let kind : kind_of asked ≡ OfAnswer = ap (λ command. kind_of command) (sym (same_command comes.0.command comes.0.asked)) ∙ tells_kind comes.0.command (HoldsIn files) text comes.0.tells in
      inr (subst (λ kind. IsDone kind (Answered text)) (sym kind) tt)
  comes_done (Explained line cause content) comes =
      let own = comes.0 in
      absurd (accepts_data line cause (Why own.data_file) own.data_file own.asked refl (content_fails files own.data_file line cause content own.is own.bad))
  comes_done (Sampled text) comes = inr (subst (λ command. IsDone (kind_of command) (Sampled text)) (same_command (Sample comes.0.count) comes.0.asked) tt)
  comes_done OutOfMemory comes = inl refl

-- a command of a data file alone is ready
pub ready_alone : (files : Option Files) (asked : CommandView) (name : List ℕ) (entries : List EntryInformation) → data_of asked ≡ Some name → second_of asked ≡ None → changes_of asked ≡ None → IsPerformed asked → ReadySample asked
    → IsTold files name (IsGoodData entries) → IsReady files asked entries
unfolding ReadyData ReadySecond ReadyChanges
ready_alone files asked name entries has_data no_second no_changes performed sampled known = record {
  performed = performed;
  data_ready = subst (λ name. ReadyData files entries name) (sym has_data) known;
  second_ready = subst (λ read. ReadySecond files entries read) (sym no_second) tt;
  changes_ready = subst (λ changes. ReadyChanges files entries changes (data_of asked)) (sym no_changes) tt;
  sample_ready = sampled;
}

-- one of a data file with changes too
pub ready_beside : (files : Option Files) (asked : CommandView) (name changes : List ℕ) (entries : List EntryInformation) (left : Left) → data_of asked ≡ Some name → second_of asked ≡ None → changes_of asked ≡ Some changes → IsPerformed asked → ReadySample asked
    → HoldsBeside (IsTold files) entries name changes (IsGoodChanges entries left) → IsReady files asked entries
unfolding ReadyData ReadySecond ReadyChanges ReadyBeside
ready_beside files asked name changes entries left has_data no_second has_changes performed sampled known = record {
  performed = performed;
  data_ready = subst (λ name. ReadyData files entries name) (sym has_data)
      (IsTold-weaker files name (λ content. IsGoodData entries content × IsTold files changes (IsGoodChanges entries left content)) (IsGoodData entries) (λ content both. both.0) known);
  second_ready = subst (λ read. ReadySecond files entries read) (sym no_second) tt;
  changes_ready = subst (λ changes. ReadyChanges files entries changes (data_of asked)) (sym has_changes)
      (subst (λ data_file. ReadyBeside files entries changes data_file) (sym has_data) (left, known));
  sample_ready = sampled;
}

-- so one whose files are accepted
pub ready_loaded : (files : Option Files) (asked : CommandView) (name : List ℕ) (changes : Option (List ℕ)) (left : Left) → data_of asked ≡ Some name → second_of asked ≡ None → changes_of asked ≡ changes → IsPerformed asked → ReadySample asked
    → IsLoaded (IsTold files) name changes left → (entries : List EntryInformation) × IsReady files asked entries
ready_loaded files asked name None left has_data no_second no_changes performed sampled known =
    (known.0, ready_alone files asked name known.0 has_data no_second no_changes performed sampled known.1)
ready_loaded files asked name (Some changes) left has_data no_second has_changes performed sampled known =
    (known.0, ready_beside files asked name changes known.0 left has_data no_second has_changes performed sampled known.1)

-- one of two files too
pub ready_both : (files : Option Files) (asked : CommandView) (name : List ℕ) (read : Second) (entries : List EntryInformation) → data_of asked ≡ Some name → second_of asked ≡ Some read → changes_of asked ≡ None → IsPerformed asked → ReadySample asked
    → IsTold files name (IsGoodData entries) → IsTold files read.name (IsGoodSecond read.kind entries) → IsReady files asked entries
unfolding ReadyData ReadySecond ReadyChanges
ready_both files asked name read entries has_data has_second no_changes performed sampled known also = record {
  performed = performed;
  data_ready = subst (λ name. ReadyData files entries name) (sym has_data) known;
  second_ready = subst (λ read. ReadySecond files entries read) (sym has_second) also;
  changes_ready = subst (λ changes. ReadyChanges files entries changes (data_of asked)) (sym no_changes) tt;
  sample_ready = sampled;
}

-- the work of a kind is that which is due
unfoldable pub Settles : Kind → Outcome → Outcome → Type 0
Settles kind due outcome = IsDone kind outcome → outcome ≡ due

pub settled_by : (kind : Kind) (due outcome : Outcome) → Settles kind due outcome → (outcome ≡ OutOfMemory) ⊎ IsDone kind outcome → (outcome ≡ OutOfMemory) ⊎ (outcome ≡ due)
unfolding Settles
settled_by kind due outcome settles (inl none) = inl none
settled_by kind due outcome settles (inr done) = inr (settles done)
