-- Lemmas on files of changes: what one leaves of the entries of a data file, read from a shelf.
use Rattle.std.proofs.Common.{◌≡◌, ℕ, ◌≤◌, ◌-◌, List, length, Option, Some, None, Result, Ok, Err, refl, sym, ap, ◌∙◌, subst, inl, inr}
use Rattle.std.proofs.lemmas.List.{length-take-le}
use Rattle.std.specs.Prelude.{take}
use Rattle.wire_io.specs.Files.{Files, file_of}
use Rattle.wire_io.specs.ReadWhole.{GivesFile, IsLonger, IsLongerFile, ReadCause}
use Rattle.wire_io.specs.declared.answers.ReadFault.{ReadFault}
use Rattle.wire_io.specs.declared.answers.ReadFault.TheVariants as read
use Rattle.wire_io.specs.plain_values.Answers.{Answers, IsFaultOf}
use Rattle.wire_io.specs.plain_values.Results.{◌>>=◌}
use Rattle.dir_tree.specs.Entry.{EntryInformation}
use Rattle.dir_tree.specs.tree.Numbered.{Numbered, entries_of}
use Rattle.change_replay.specs.aci_item.Rules.{IsGoodTree}
use Rattle.whole_blocks.specs.Blocks.{whole_part}
use Rattle.change_replay.specs.change_records.declared.types.RecordedChange.{RecordedChange}
use Rattle.change_replay.specs.Replayed.{replayed}
use Rattle.command_files.specs.declared.changing.Loaded.{Loaded}
use Rattle.command_files.specs.declared.changing.ChangesCause.TheVariants.{Limit}
use Rattle.command_files.specs.declared.changing.ChangesFault.{ChangesFault}
use Rattle.command_files.specs.declared.changing.ChangesFault.TheVariants as changing
use Rattle.command_files.specs.declared.loading.DataFile.{DataFile}
use Rattle.command_files.specs.declared.loading.Trouble.{Trouble}
use Rattle.command_files.specs.declared.loading.Trouble.TheVariants as trouble
use Rattle.command_files.specs.loading.Changing.{BadChange, applied_to, changed_by, changed_by_whole, changes_of, fault_of, left_by, left_of}
use Rattle.command_files.specs.loading.Accepting.{FailsIn, HoldsIn, HoldsOf, IsBadChanges, IsGoodChanges, IsGoodData, IsUnread, most_changes}
use Rattle.command_files.specs.loading.Loading.{LoadsChanges, LoadsData, LoadsFile, LoadsTree, ReadsChanges, ReadsData, changes_trouble_of_file, trouble_of_changes}
use Rattle.command_files.proofs.loading.LoadLemmas.{FailsIn-given, HoldsIn-given}
use Rattle.command_files.proofs.loading.AcceptLemmas.{HoldsIn-weaker}

-- a fault of the changes that were read comes before their use
changes-fault :
    (fault : ChangesFault) (entries : List EntryInformation) (whole torn : ℕ) (changes : Result (List RecordedChange) BadChange)
    → IsFaultOf (fault_of fault) changes → IsFaultOf (fault_of fault) (changes >>= λ found. applied_to entries whole torn found)
changes-fault (changing.Bad line cause) entries whole torn changes is = ap (λ one. one >>= λ found. applied_to entries whole torn found) is
changes-fault changing.NoMemory entries whole torn changes is = tt

-- the changes of the whole part were read
module _ (entries : List EntryInformation) (digest text front : List ℕ) (count : ℕ) (front_is : front ≡ take count text) (part : take count text ≡ whole_part text) where
  pub changed_by_whole-left :
      (lent changes : List RecordedChange) (result : Result Loaded ChangesFault)
      → count ≤ length text → changes_of digest front ≡ Ok changes → lent ≡ changes
      → Answers left_of fault_of result (left_by (length lent) count (length text - count) (replayed entries lent))
      → Answers left_of fault_of result (changed_by_whole entries digest text (whole_part text))
  changed_by_whole-left lent changes result within said same answers =
      let size : length (whole_part text) ≡ count = sym (ap length part) ∙ length-take-le count text within in
      let said_whole : changes_of digest (whole_part text) ≡ Ok lent = sym (ap (changes_of digest) (front_is ∙ part)) ∙ said ∙ ap Ok (sym same) in
      let is : changed_by_whole entries digest text (whole_part text) ≡ left_by (length lent) count (length text - count) (replayed entries lent) =
      ap (λ found. found >>= λ own. applied_to entries (length (whole_part text)) (length text - length (whole_part text)) own) said_whole
      ∙ ap (λ size. applied_to entries size (length text - size) lent) size in
      subst (λ expected. Answers left_of fault_of result expected) (sym is) answers

  -- they weren't
  pub changed_by_whole-fault : (fault : ChangesFault) → IsFaultOf (fault_of fault) (changes_of digest front) → IsFaultOf (fault_of fault) (changed_by_whole entries digest text (whole_part text))
  changed_by_whole-fault fault is =
      changes-fault fault entries (length (whole_part text)) (length text - length (whole_part text)) (changes_of digest (whole_part text))
      (subst (λ whole. IsFaultOf (fault_of fault) (changes_of digest whole)) (front_is ∙ part) is)

-- the changes of a text were not applied
pub ReadsChanges-refused :
    (entries : List EntryInformation) (content text : List ℕ) (fault : ChangesFault)
    → IsFaultOf (fault_of fault) (changed_by entries content text) → ReadsChanges entries content text (Err (trouble_of_changes fault))
unfolding ReadsChanges
ReadsChanges-refused entries content text (changing.Bad line cause) is = is
ReadsChanges-refused entries content text changing.NoMemory is = tt

module _ (entries : List EntryInformation) (content : List ℕ) (files : Option Files) (name : List ℕ) where
  -- the file of changes was read
  changes_given :
      (text : List ℕ) (before after : ℕ) (result : Result Loaded Trouble)
      → length text ≤ most_changes → GivesFile files name text → after ≡ before → ReadsChanges entries content text result
      → LoadsChanges entries content files name before after result
  unfolding LoadsChanges ReadsChanges IsBadChanges
  changes_given text before after (Ok loaded) short gives stays reads =
      (HoldsIn-given files name text (IsGoodChanges entries (left_of loaded) content) gives (record { short = short; leaves = reads.0 }), reads.1, stays)
  changes_given text before after (Err trouble.NoFile) short gives stays reads = absurd reads
  changes_given text before after (Err (trouble.BadData line cause)) short gives stays reads = absurd reads
  changes_given text before after (Err (trouble.BadLine kind line)) short gives stays reads = absurd reads
  changes_given text before after (Err (trouble.BadChanges line cause)) short gives stays reads =
      (FailsIn-given files name text (IsBadChanges entries line cause content) gives (inl (short, reads)), stays)
  changes_given text before after (Err trouble.NoMemory) short gives stays reads = stays

  pub LoadsChanges-read :
      {T : Type 0} (text lent : List ℕ) (before after : ℕ) (given : T) (result : Result Loaded Trouble)
      → length text ≤ most_changes → lent ≡ text → GivesFile files name text → ReadCause {T = T} files name most_changes before after (Ok given)
      → ReadsChanges entries content lent result → LoadsChanges entries content files name before after result
  unfolding ReadCause
  LoadsChanges-read text lent before after given result short same gives stays reads =
      changes_given text before after result short gives stays (let P : List ℕ → Type 0 = λ octets. ReadsChanges entries content octets result in subst P same reads)

  -- it is too long
  too_long : (file : Option (List ℕ)) (line : ℕ) → IsLongerFile file most_changes line → HoldsOf (IsBadChanges entries line Limit content) file
  unfolding IsLongerFile IsBadChanges
  too_long None line longer = absurd longer
  too_long (Some text) line longer = inr (longer.0, longer.1, refl)

  holds_too_long : (known : Option Files) (line : ℕ) → IsLonger known name most_changes line → FailsIn known name (IsBadChanges entries line Limit content)
  unfolding IsLonger FailsIn
  holds_too_long None line longer = tt
  holds_too_long (Some known) line longer = too_long (file_of name known) line longer

  -- it wasn't read, or is too long
  pub LoadsChanges-refused :
      (T : Type 0) (before after : ℕ) (fault : ReadFault)
      → ReadCause {T = T} files name most_changes before after (Err fault) → LoadsChanges entries content files name before after (Err (changes_trouble_of_file fault))
  unfolding LoadsChanges ReadCause IsUnread
  LoadsChanges-refused T before after read.Absent cause = inr cause
  LoadsChanges-refused T before after read.Failed cause = inl cause
  LoadsChanges-refused T before after (read.TooLong line) cause = (holds_too_long files line cause.0, cause.1)
  LoadsChanges-refused T before after read.NoMemory cause = cause

-- a tree that was loaded from a text is good
pub ReadsData-good : (content : List ℕ) (rows : List Numbered) → ReadsData content (Ok rows) → IsGoodTree (entries_of rows)
unfolding ReadsData
ReadsData-good content rows reads = reads.1

-- the data file that was read, and this of its content
pub holds_of : (files : Option Files) (name content : List ℕ) (P : List ℕ → Type 0) → HoldsIn files name (λ own. own ≡ content) → P content → HoldsIn files name P
holds_of files name content P is holds = HoldsIn-weaker files name (λ own. own ≡ content) P (λ own same. subst P (sym same) holds) is

-- the data file was read, and the file of changes after it
module _ (files : Option Files) (name changes content : List ℕ) (before after : ℕ) (entries : List EntryInformation)
    (is : HoldsIn files name (λ own. own ≡ content)) (good : IsGoodData entries content) where
  tree_given : (result : Result Loaded Trouble) → LoadsChanges entries content files changes before after result → LoadsTree files name (Some changes) before after result
  unfolding LoadsTree LoadsChanges
  tree_given (Ok loaded) loads = (
    (entries, holds_of files name content (λ own. IsGoodData entries own × HoldsIn files changes (IsGoodChanges entries (left_of loaded) own)) is (good, loads.0)),
    loads.1,
    loads.2,
  )
  tree_given (Err trouble.NoFile) loads = inr (entries, holds_of files name content (IsGoodData entries) is good, loads)
  tree_given (Err (trouble.BadData line cause)) loads = absurd loads
  tree_given (Err (trouble.BadLine kind line)) loads = absurd loads
  tree_given (Err (trouble.BadChanges line cause)) loads =
      ((entries, holds_of files name content (λ own. IsGoodData entries own × FailsIn files changes (IsBadChanges entries line cause own)) is (good, loads.0)), loads.1)
  tree_given (Err trouble.NoMemory) loads = loads

-- the data file wasn't taken
pub LoadsTree-untaken :
    (files : Option Files) (name : List ℕ) (changes : Option (List ℕ)) (before after : ℕ) (why : Trouble)
    → LoadsData files name before after (Err why) → LoadsTree files name changes before after (Err why)
unfolding LoadsTree LoadsData
LoadsTree-untaken files name changes before after trouble.NoFile loads = inl loads
LoadsTree-untaken files name changes before after (trouble.BadData line cause) loads = loads
LoadsTree-untaken files name changes before after (trouble.BadLine kind line) loads = absurd loads
LoadsTree-untaken files name changes before after (trouble.BadChanges line cause) loads = absurd loads
LoadsTree-untaken files name changes before after trouble.NoMemory loads = loads

pub LoadsTree-unread :
    (files : Option Files) (name : List ℕ) (changes : Option (List ℕ)) (before after : ℕ) (why : Trouble)
    → LoadsFile files name before after (Err why) → LoadsTree files name changes before after (Err why)
unfolding LoadsFile
LoadsTree-unread files name changes before after why loads = LoadsTree-untaken files name changes before after why loads

-- it was loaded, and there are no changes
pub LoadsTree-alone :
    (files : Option Files) (name : List ℕ) (before after : ℕ) (rows : List Numbered)
    → LoadsData files name before after (Ok rows) → LoadsTree files name None before after (Ok (record { tree = rows; applied = None }))
unfolding LoadsTree LoadsData
LoadsTree-alone files name before after rows loads = ((entries_of rows, loads.0, refl), loads.1, loads.2)

-- it was read, and the changes, from the shelf as it then was
pub LoadsTree-read :
    (files kept : Option Files) (name changes lent : List ℕ) (before middle after : ℕ) (file : DataFile) (result : Result Loaded Trouble)
    → lent ≡ file.content.items → kept ≡ files → LoadsFile files name before middle (Ok file)
    → LoadsChanges (entries_of file.tree) lent kept changes middle after result → LoadsTree files name (Some changes) before after result
unfolding LoadsFile ReadsData
LoadsTree-read files kept name changes lent before middle after file result same stays read loads =
    let entries = entries_of file.tree in
    let P : List ℕ → Type 0 = λ octets. LoadsChanges entries octets kept changes middle after result in
    let Q : Option Files → Type 0 = λ known. LoadsChanges entries file.content.items known changes middle after result in
    let R : ℕ → Type 0 = λ count. LoadsChanges entries file.content.items files changes count after result in
    tree_given files name changes file.content.items before after entries read.0 read.1.0 result (subst R read.2 (subst Q stays (subst P same loads)))

-- a data file that was loaded has a good tree
pub LoadsFile-good : (files : Option Files) (name : List ℕ) (before after : ℕ) (file : DataFile) → LoadsFile files name before after (Ok file) → IsGoodTree (entries_of file.tree)
unfolding LoadsFile ReadsData
LoadsFile-good files name before after file read = read.1.1
