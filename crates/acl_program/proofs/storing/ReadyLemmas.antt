-- Lemmas on what is made ready to be served: the files that were read, and the store.
use Rattle.std.proofs.Common.{◌≡◌, ℕ, zero, suc, List, Option, Some, None, Result, Ok, Err, refl, sym, subst, ◌∙◌, inl, inr}
use Rattle.command_files.specs.wire_io.Files.{Files}
use Rattle.command_files.specs.wire_io.declared.answers.NextFault.{NextFault}
use Rattle.command_words.specs.command.Command.{ServingView}
use Rattle.command_files.specs.dir_tree.Entry.{EntryInformation}
use Rattle.command_files.specs.dir_tree.tree.Numbered.{entries_of}
use Rattle.command_files.specs.declared.changing.Loaded.{Loaded}
use Rattle.command_files.specs.declared.loading.DataFile.{DataFile}
use Rattle.command_files.specs.declared.loading.Trouble.{Trouble}
use Rattle.command_files.specs.declared.loading.Trouble.TheVariants as trouble
use Rattle.command_files.specs.loading.Accepting.{HoldsIn, IsLoadedFrom}
use Rattle.command_files.specs.loading.Changing.{head_of, left_of, unchanged}
use Rattle.command_files.specs.loading.Loading.{LoadsChanges, LoadsData, LoadsFile, LoadsTree}
use Rattle.command_files.proofs.Theorems.{LoadsTree-read, LoadsTree-unread, changes_loaded, changes_stay, file_loaded, file_stays}
use Rattle.acl_program.specs.declared.storing.Unready.{Unready}
use Rattle.acl_program.specs.declared.storing.Unready.TheVariants as unready
use Rattle.acl_program.specs.program.Outside.{Linked, Outside, with_files}
use Rattle.acl_program.specs.serve.Listening.{LeavesLink, Prepares, Readies}
use Rattle.acl_program.specs.serve.Storing.{OpenStore, CutStore, StoreHead, OpensStore, CutsStore, Stores, Heads, IsCut, IsPrepared, serve_asked, whole_of}

-- a data file that wasn't loaded leaves the link as it is
leaves_same : (changes : Option (List ℕ)) (why : Trouble) (files : Option Files) (name : List ℕ) (count last : ℕ) (before after : Linked) → after ≡ before → LoadsFile files name count last (Err why) → LeavesLink changes why before after
unfolding LoadsFile LoadsData
leaves_same changes trouble.NoFile files name count last before after same loads = inl same
leaves_same changes (trouble.BadData line cause) files name count last before after same loads = same
leaves_same changes (trouble.BadLine file line) files name count last before after same loads = same
leaves_same changes (trouble.BadChanges line cause) files name count last before after same loads = absurd loads
leaves_same changes trouble.NoMemory files name count last before after same loads = inl same

module _ (serving : ServingView) (before after : Outside) where
  -- the data file wasn't loaded
  pub Readies-unread :
      (why : Trouble) → LoadsFile before.shelf.files serving.data_file before.shelf.faults after.shelf.faults (Err why) → after.link ≡ before.link → Readies serving before (Err (unready.Files why)) after
  unfolding Readies
  Readies-unread why loads same = (
    LoadsTree-unread before.shelf.files serving.data_file serving.changes before.shelf.faults after.shelf.faults why loads,
    leaves_same serving.changes why before.shelf.files serving.data_file before.shelf.faults after.shelf.faults before.link after.link same loads,
  )

  -- it was loaded, and there are no changes
  pub Readies-alone :
      (file : DataFile) (loaded : Loaded)
      → serving.changes ≡ None → LoadsFile before.shelf.files serving.data_file before.shelf.faults after.shelf.faults (Ok file) → left_of loaded ≡ unchanged (entries_of file.tree)
      → after.link ≡ before.link → Readies serving before (Ok loaded) after
  unfolding Readies
  Readies-alone file loaded none loads is same =
      let content = file.content.items in
      let alone = file_loaded before.shelf.files serving.data_file before.shelf.faults after.shelf.faults file loads in
      let good = subst (λ left. IsLoadedFrom (HoldsIn before.shelf.files) serving.data_file None content left) (sym is) alone in (
        record {
          content = content;
          good = subst (λ changes. IsLoadedFrom (HoldsIn before.shelf.files) serving.data_file changes content (left_of loaded)) (sym none) good;
          ready = subst (λ changes. IsPrepared (serve_asked serving content (left_of loaded)) changes before.link after.link) (sym none) same;
        },
        file_stays before.shelf.files serving.data_file before.shelf.faults after.shelf.faults file loads,
      )

  -- what follows, from the shelf as it then was
  pub Readies-after :
      (kept : Option Files) (middle : ℕ) (file : DataFile) (result : Result Loaded Unready)
      → kept ≡ before.shelf.files → LoadsFile before.shelf.files serving.data_file before.shelf.faults middle (Ok file)
      → (LoadsFile kept serving.data_file before.shelf.faults middle (Ok file) → Readies serving (with_files kept before) result after) → Readies serving before result after
  Readies-after kept middle file result same loads readies =
      let P : Option Files → Type 0 = λ known. Readies serving (with_files known before) result after in
      let Q : Option Files → Type 0 = λ known. LoadsFile known serving.data_file before.shelf.faults middle (Ok file) in
      subst P same (readies (subst Q (sym same) loads))

  module _ (middle : ℕ) (file : DataFile) (name : List ℕ) (named : serving.changes ≡ Some name) (loads : LoadsFile before.shelf.files serving.data_file before.shelf.faults middle (Ok file)) where
    -- the store failed to open
    pub Readies-unopened : (fault : NextFault) → OpensStore (Some name) (Err fault) before.link after.link → after.shelf.faults ≡ middle → Readies serving before (Err (unready.Store fault)) after
    unfolding Readies
    Readies-unopened fault opens stays =
        let content = file.content.items in (
          record {
            call = OpenStore;
            content = content;
            left = unchanged (entries_of file.tree);
            good = file_loaded before.shelf.files serving.data_file before.shelf.faults middle file loads;
            fails = subst (λ changes. OpensStore changes (Err fault) before.link after.link) (sym named) opens;
          },
          stays ∙ file_stays before.shelf.files serving.data_file before.shelf.faults middle file loads,
        )

    -- it opened
    opens_own : (opened : Linked) → OpensStore (Some name) (Ok tt) before.link opened → OpensStore serving.changes (Ok tt) before.link opened
    opens_own opened opens = subst (λ changes. OpensStore changes (Ok tt) before.link opened) (sym named) opens

    -- and the file of changes wasn't taken
    leaves_opened :
        (why : Trouble) (entries : List EntryInformation) (content : List ℕ)
        → OpensStore (Some name) (Ok tt) before.link after.link → LoadsChanges entries content before.shelf.files name middle after.shelf.faults (Err why) → LeavesLink serving.changes why before.link after.link
    unfolding LoadsChanges
    leaves_opened trouble.NoFile entries content opens refused = inr (opens_own after.link opens)
    leaves_opened (trouble.BadData line cause) entries content opens refused = absurd refused
    leaves_opened (trouble.BadLine kind line) entries content opens refused = absurd refused
    leaves_opened (trouble.BadChanges line cause) entries content opens refused = opens_own after.link opens
    leaves_opened trouble.NoMemory entries content opens refused = inr (opens_own after.link opens)

    pub Readies-refused :
        (lent : List ℕ) (why : Trouble) → OpensStore (Some name) (Ok tt) before.link after.link → lent ≡ file.content.items
        → LoadsChanges (entries_of file.tree) lent before.shelf.files name middle after.shelf.faults (Err why) → Readies serving before (Err (unready.Files why)) after
    unfolding Readies
    Readies-refused lent why opens same refused = (
      subst (λ changes. LoadsTree before.shelf.files serving.data_file changes before.shelf.faults after.shelf.faults (Err why)) (sym named)
          (LoadsTree-read before.shelf.files before.shelf.files serving.data_file name lent before.shelf.faults middle after.shelf.faults file (Err why) same refl loads refused),
      leaves_opened why (entries_of file.tree) lent opens refused,
    )

    -- it was taken
    module _ (opened : Linked) (lent : List ℕ) (loaded : Loaded) (opens : OpensStore (Some name) (Ok tt) before.link opened) (same : lent ≡ file.content.items)
        (taken : LoadsChanges (entries_of file.tree) lent before.shelf.files name middle after.shelf.faults (Ok loaded)) where
      taken_own : LoadsChanges (entries_of file.tree) file.content.items before.shelf.files name middle after.shelf.faults (Ok loaded)
      taken_own = subst (λ octets. LoadsChanges (entries_of file.tree) octets before.shelf.files name middle after.shelf.faults (Ok loaded)) same taken

      good_own : IsLoadedFrom (HoldsIn before.shelf.files) serving.data_file serving.changes file.content.items (left_of loaded)
      good_own =
          subst (λ changes. IsLoadedFrom (HoldsIn before.shelf.files) serving.data_file changes file.content.items (left_of loaded)) (sym named)
          (changes_loaded before.shelf.files serving.data_file before.shelf.faults middle after.shelf.faults name file loaded loads taken_own)

      stays : after.shelf.faults ≡ before.shelf.faults
      stays =
          changes_stay before.shelf.files name middle after.shelf.faults (entries_of file.tree) file.content.items loaded taken_own
          ∙ file_stays before.shelf.files serving.data_file before.shelf.faults middle file loads

      -- and the store is ready
      pub Readies-stored : (number : ℕ) (done : Unit {0}) → number ≡ whole_of loaded.applied → Prepares lent number (Ok done) opened after.link → Readies serving before (Ok loaded) after
      unfolding Readies
      Readies-stored number done is prepares =
          let P : List ℕ → Type 0 = λ octets. Prepares octets (whole_of loaded.applied) (Ok done) opened after.link in
          let Q : ℕ → Type 0 = λ count. Prepares lent count (Ok done) opened after.link in
          let own = subst P same (subst Q is prepares) in (
            record {
              content = file.content.items;
              good = good_own;
              ready = subst (λ changes. IsPrepared (serve_asked serving file.content.items (left_of loaded)) changes before.link after.link) (sym named)
                  (record { cut = own.0; is_cut = record { opened = opened; opens = opens_own opened opens; cuts = own.1 }; heads = own.2 });
            },
            stays,
          )

      -- or one of the other calls failed
      pub Readies-unstored : (number : ℕ) (fault : NextFault) → number ≡ whole_of loaded.applied → Prepares lent number (Err fault) opened after.link → Readies serving before (Err (unready.Store fault)) after
      unfolding Readies
      Readies-unstored number fault is prepares =
          let P : List ℕ → Type 0 = λ octets. Prepares octets (whole_of loaded.applied) (Err fault) opened after.link in
          let Q : ℕ → Type 0 = λ count. Prepares lent count (Err fault) opened after.link in
          by (subst P same (subst Q is prepares))
        where
          by : Prepares file.content.items (whole_of loaded.applied) (Err fault) opened after.link → Readies serving before (Err (unready.Store fault)) after
          by (inl cuts) =
              (record { call = CutStore; content = file.content.items; left = left_of loaded; good = good_own; fails = (opened, opens_own opened opens, cuts) }, stays)
          by (inr head) =
              let cut : IsCut (serve_asked serving file.content.items (left_of loaded)) before.link head.0 = record { opened = opened; opens = opens_own opened opens; cuts = head.1 } in
              (record { call = StoreHead; content = file.content.items; left = left_of loaded; good = good_own; fails = (head.0, cut, head.2, head.3) }, stays)

-- the store was cut, and needs a head
pub Prepares-head : (content : List ℕ) (whole : ℕ) (result : Result (Unit {0}) NextFault) (before cut after : Linked) → whole ≡ 0 → CutsStore whole (Ok tt) before cut → Stores (head_of content) result cut after → Prepares content whole result before after
Prepares-head content whole (Ok done) before cut after none cuts stores = (cut, cuts, subst (λ count. Heads count content cut after) (sym none) stores)
Prepares-head content whole (Err fault) before cut after none cuts stores = inr (cut, cuts, none, stores)

-- and needs none
pub Prepares-whole : (content : List ℕ) (whole : ℕ) (before after : Linked) → (whole ≡ 0 → ⊥) → CutsStore whole (Ok tt) before after → Prepares content whole (Ok tt) before after
Prepares-whole content zero before after some cuts = absurd (some refl)
Prepares-whole content (suc whole) before after some cuts = (after, cuts, refl)
