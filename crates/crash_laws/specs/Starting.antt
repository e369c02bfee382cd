-- What a start makes of a file of changes that a server wrote on, and that a crash may have cut.
use Rattle.std.specs.Prelude.{◌≡◌, ◌<◌, ◌-◌, ℕ, List, [], ◌++◌, length, take, Ok}
use Rattle.sha2.specs.Sha256.{sha256}
use Rattle.whole_blocks.specs.Blocks.{whole_part}
use Rattle.change_replay.specs.change_records.Files.{head_text}
use Rattle.change_replay.specs.Accepted.{AcceptedChange, left_after}
use Rattle.session_model.specs.wire_io.declared.journal.Item.{Item}
use Rattle.session_model.specs.wire_io.Journal.{stored_of}
use Rattle.session_model.specs.Run.{Sessions, Step}
use Rattle.session_model.specs.Serving.{Sound}
use Rattle.session_hub.specs.Parties.{DirectoryEntries, Requester}
use Rattle.session_hub.specs.declared.bounds.Terms.{Terms}
use Rattle.session_hub.specs.Answering.{rules}
use Rattle.command_files.specs.loading.Changing.{changed, changed_by}
use Rattle.crash_laws.specs.Written.{IsWrittenFile}
use Rattle.crash_laws.specs.Going.{sessions_after, KeepsChanges}
use Rattle.crash_laws.specs.Crashes.{MayBeLeft, IsTaking, KeepsWhatWasShown}

-- the entries are those that the changes left, and it is told how many changes there are, in how many octets, and how many are
-- torn behind them
abbrev pub IsStartedWith : DirectoryEntries → List ℕ → List AcceptedChange → List ℕ → Type 0
IsStartedWith first content done text =
    changed_by first content text
    ≡ Ok (changed (left_after first done) (length done) (length (whole_part text)) (length text - length (whole_part text)))

-- a start applies the changes of which the whole part of a text is a file
abbrev pub StartsWithWhatWasWritten : Type 0
StartsWithWhatWasWritten =
    (first : DirectoryEntries) (content : List ℕ) (done : List AcceptedChange) (text : List ℕ)
    → IsWrittenFile first (sha256 content) done (whole_part text) → IsStartedWith first content done text

-- the head of a data file of this content begins a file of changes
abbrev pub BeginsWithTheHeadOfItsData : Type 0
BeginsWithTheHeadOfItsData =
    (first : DirectoryEntries) (content : List ℕ) → IsWrittenFile first (sha256 content) [] (head_text (sha256 content))

-- a head that was begun and isn't whole has no changes: a start has the entries of the data file
abbrev pub StartsWithTheDataWhereTheHeadIsTorn : Type 0
StartsWithTheDataWhereTheHeadIsTorn =
    (first : DirectoryEntries) (content : List ℕ) (count : ℕ) → count < length (head_text (sha256 content))
    → changed_by first content (take count (head_text (sha256 content))) ≡ Ok (changed first 0 0 count)

-- what was shown is kept, and a start goes on from it
pub record StartsWithWhatWasShown (first : DirectoryEntries) (content : List ℕ) (done : List AcceptedChange) (file : List ℕ) (early all : Sessions DirectoryEntries Requester) (text : List ℕ) : Type 0 where
  pub kept : KeepsWhatWasShown first (sha256 content) done file early all text
  pub started : IsStartedWith first content (done ++ (kept.shown ++ kept.more)) text

-- a start after a crash goes on from all that was shown
abbrev pub AStartAfterACrashHasWhatWasShown : Type 0
AStartAfterACrashHasWhatWasShown =
    (terms : Terms) (first : DirectoryEntries) (content : List ℕ) (done : List AcceptedChange) (file : List ℕ) (steps : List Step) (journal : List Item)
    → KeepsChanges terms first (sha256 content) done file steps → Sound (rules terms) (left_after first done) steps journal
    → (early : List Step) (before : List Item) → IsTaking steps journal early before
    → let all = sessions_after terms first done steps in
    (text : List ℕ) → MayBeLeft (file ++ stored_of before) (file ++ all.changes) text
    → StartsWithWhatWasShown first content done file (sessions_after terms first done early) all text
