-- Lemmas on a data file with a file of changes, both told and accepted: they were read, aren't refused, and leave one thing.
use Rattle.std.proofs.Common.{◌≡◌, ℕ, List, Option, Some, None, Ok, refl, sym, ap, ◌∙◌, subst, arith, inl, inr}
use Rattle.wire_io.specs.plain_values.Counts.{Rose}
use Rattle.wire_io.specs.Files.{Files, file_of}
use Rattle.dir_tree.specs.Entry.{EntryInformation}
use Rattle.dir_tree.specs.tree.Numbered.{Numbered, entries_of}
use Rattle.command_files.specs.declared.changing.Loaded.{Loaded}
use Rattle.command_files.specs.declared.loading.DataFile.{DataFile}
use Rattle.command_files.specs.declared.changing.ChangesCause.{ChangesCause}
use Rattle.command_files.specs.loading.Changing.{Left, left_of, unchanged}
use Rattle.command_files.specs.loading.Loading.{LoadsChanges, LoadsData, LoadsFile, ReadsData}
use Rattle.command_files.specs.loading.Accepting.{FailsIn, HoldsBeside, HoldsIn, HoldsOf, IsBadChanges, IsGoodChanges, IsGoodData, IsLoaded, IsLoadedFrom, IsTold, IsUnread}
use Rattle.command_files.proofs.loading.AcceptLemmas.{both_in, both_fail, known_read, one_entries, IsTold-weaker}
use Rattle.command_files.proofs.loading.ChangeLemmas.{holds_of}

-- what is told is told of some content
content_of : (file : Option (List ℕ)) (P : List ℕ → Type 0) → HoldsOf P file → (content : List ℕ) × P content
content_of None P holds = absurd holds
content_of (Some content) P holds = (content, holds)

told_content : (files : Option Files) (name : List ℕ) (P : List ℕ → Type 0) → IsTold files name P → (content : List ℕ) × P content
unfolding IsTold
told_content None name P told = absurd told
told_content (Some files) name P told = content_of (file_of name files) P told

-- changes that are accepted aren't refused, and leave one thing
changes_not_bad : (entries : List EntryInformation) (left : Left) (line : ℕ) (cause : ChangesCause) (content text : List ℕ) → IsGoodChanges entries left content text → IsBadChanges entries line cause content text → ⊥
unfolding IsBadChanges
changes_not_bad entries left line cause content text good (inl bad) = cc (good.leaves, bad.1)
changes_not_bad entries left line cause content text good (inr long) = omega (arith, good.short, long.0)

changes_once : (entries : List EntryInformation) (left other : Left) (content text : List ℕ) → IsGoodChanges entries left content text → IsGoodChanges entries other content text → left ≡ other
changes_once entries left other content text good good_other = cc (good.leaves, good_other.leaves)

module _ (files : Option Files) (name changes : List ℕ) (entries : List EntryInformation) (left : Left) (told : HoldsBeside (IsTold files) entries name changes (IsGoodChanges entries left)) where
  -- the file of changes was read, where the shelf is not at fault
  pub beside_read : (before after : ℕ) → (Rose before after → ⊥) → IsUnread files changes before after → ⊥
  beside_read before after still unread =
      let own = told_content files name (λ content. IsGoodData entries content × IsTold files changes (IsGoodChanges entries left content)) told in
      known_read files changes (IsGoodChanges entries left own.0) before after own.1.1 still unread

  -- what is told of both files, and what holds of them, are of one content each
  both_beside :
      (found : List EntryInformation) (Q : List EntryInformation → List ℕ → List ℕ → Type 0) → HoldsBeside (HoldsIn files) found name changes (Q found)
      → (content : List ℕ) × (text : List ℕ) × IsGoodChanges entries left content text × Q entries content text
  both_beside found Q holds =
      let outer = both_in files name (λ content. IsGoodData entries content × IsTold files changes (IsGoodChanges entries left content)) (λ content. IsGoodData found content × HoldsIn files changes (Q found content)) told holds in
      let same : found ≡ entries = one_entries found entries outer.0 outer.2.0 outer.1.0 in
      let P : List EntryInformation → Type 0 = λ all. HoldsIn files changes (Q all outer.0) in
      let inner = both_in files changes (IsGoodChanges entries left outer.0) (Q entries outer.0) outer.1.1 (subst P same outer.2.1) in
      (outer.0, inner.0, inner.1, inner.2)

  -- it isn't refused
  pub beside_not_bad : (found : List EntryInformation) (line : ℕ) (cause : ChangesCause) → HoldsIn files name (λ content. IsGoodData found content × FailsIn files changes (IsBadChanges found line cause content)) → ⊥
  beside_not_bad found line cause bad =
      let outer = both_in files name (λ content. IsGoodData entries content × IsTold files changes (IsGoodChanges entries left content)) (λ content. IsGoodData found content × FailsIn files changes (IsBadChanges found line cause content)) told bad in
      let same : found ≡ entries = one_entries found entries outer.0 outer.2.0 outer.1.0 in
      let P : List EntryInformation → Type 0 = λ all. FailsIn files changes (IsBadChanges all line cause outer.0) in
      let inner = both_fail files changes (IsGoodChanges entries left outer.0) (IsBadChanges entries line cause outer.0) outer.1.1 (subst P same outer.2.1) in
      changes_not_bad entries left line cause outer.0 inner.0 inner.1 inner.2

  beside_once : (found : List EntryInformation) (other : Left) → HoldsBeside (HoldsIn files) found name changes (IsGoodChanges found other) → other ≡ left
  beside_once found other good =
      let both = both_beside found (λ all content text. IsGoodChanges all other content text) good in
      changes_once entries other left both.0 both.1 both.3 both.2

-- files that are told and accepted leave one thing
pub one_left : (files : Option Files) (name : List ℕ) (changes : Option (List ℕ)) (left other : Left) → IsLoaded (IsTold files) name changes left → IsLoaded (HoldsIn files) name changes other → other ≡ left
one_left files name None left other told loaded =
    let both = both_in files name (IsGoodData told.0) (IsGoodData loaded.0) told.1 loaded.1 in
    loaded.2 ∙ ap unchanged (one_entries loaded.0 told.0 both.0 both.2 both.1) ∙ sym told.2
one_left files name (Some changes) left other told loaded = beside_once files name changes told.0 left told.1 loaded.0 other loaded.1

-- files that are accepted, with the content of the data file, are accepted
pub loaded_from : (files : Option Files) (name : List ℕ) (changes : Option (List ℕ)) (content : List ℕ) (left : Left) → IsLoadedFrom (HoldsIn files) name changes content left → IsLoaded (HoldsIn files) name changes left
loaded_from files name None content left from = (from.1.0, holds_of files name content (IsGoodData from.1.0) from.0 from.1.1, from.1.2)
loaded_from files name (Some changes) content left from =
    (from.1.0, holds_of files name content (λ own. IsGoodData from.1.0 own × HoldsIn files changes (IsGoodChanges from.1.0 left own)) from.0 (from.1.1, from.1.2))

-- the same of files that are told
told_of : (files : Option Files) (name content : List ℕ) (P : List ℕ → Type 0) → IsTold files name (λ own. own ≡ content) → P content → IsTold files name P
told_of files name content P is told = IsTold-weaker files name (λ own. own ≡ content) P (λ own same. subst P (sym same) told) is

pub told_from : (files : Option Files) (name : List ℕ) (changes : Option (List ℕ)) (content : List ℕ) (left : Left) → IsLoadedFrom (IsTold files) name changes content left → IsLoaded (IsTold files) name changes left
told_from files name None content left from = (from.1.0, told_of files name content (IsGoodData from.1.0) from.0 from.1.1, from.1.2)
told_from files name (Some changes) content left from =
    (from.1.0, told_of files name content (λ own. IsGoodData from.1.0 own × IsTold files changes (IsGoodChanges from.1.0 left own)) from.0 (from.1.1, from.1.2))

-- what holds of a file's content holds of one content
content_in : (files : Option Files) (name : List ℕ) (P : List ℕ → Type 0) → HoldsIn files name P → (content : List ℕ) × HoldsIn files name (λ own. own ≡ content) × P content
unfolding HoldsIn
content_in None name P holds = (holds.0, (holds.0, refl), holds.1)
content_in (Some files) name P holds = by (file_of name files) holds
  where
    by : (file : Option (List ℕ)) → HoldsOf P file → (content : List ℕ) × HoldsOf (λ own. own ≡ content) file × P content
    by None there = absurd there
    by (Some content) there = (content, refl, there)

module _ (files : Option Files) (name : List ℕ) (before after : ℕ) where
  -- a data file that was loaded has some content
  pub data_loaded : (rows : List Numbered) → LoadsData files name before after (Ok rows) → (content : List ℕ) × IsLoadedFrom (HoldsIn files) name None content (unchanged (entries_of rows))
  unfolding LoadsData
  data_loaded rows loads =
      let found = content_in files name (IsGoodData (entries_of rows)) loads.0 in
      (found.0, (found.1, (entries_of rows, found.2, refl)))

  -- one that was loaded with its content
  pub file_loaded : (file : DataFile) → LoadsFile files name before after (Ok file) → IsLoadedFrom (HoldsIn files) name None file.content.items (unchanged (entries_of file.tree))
  unfolding LoadsFile ReadsData
  file_loaded file loads = (loads.0, (entries_of file.tree, loads.1.0, refl))

  -- and one whose changes were applied
  pub changes_loaded :
      (last : ℕ) (changes : List ℕ) (file : DataFile) (loaded : Loaded) → LoadsFile files name before after (Ok file)
      → LoadsChanges (entries_of file.tree) file.content.items files changes after last (Ok loaded)
      → IsLoadedFrom (HoldsIn files) name (Some changes) file.content.items (left_of loaded)
  unfolding LoadsFile LoadsChanges ReadsData
  changes_loaded last changes file loaded loads applied = (loads.0, (entries_of file.tree, loads.1.0, applied.0))

  -- the shelf's count stays
  pub file_stays : (file : DataFile) → LoadsFile files name before after (Ok file) → after ≡ before
  unfolding LoadsFile
  file_stays file loads = loads.2

  pub changes_stay : (entries : List EntryInformation) (content : List ℕ) (loaded : Loaded) → LoadsChanges entries content files name before after (Ok loaded) → after ≡ before
  unfolding LoadsChanges
  changes_stay entries content loaded loads = loads.2

  pub data_stays : (rows : List Numbered) → LoadsData files name before after (Ok rows) → after ≡ before
  unfolding LoadsData
  data_stays rows loads = loads.2
