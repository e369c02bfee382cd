-- What a crash leaves of a file that is written on: what was on the disk, of what was to stand behind it any front, and octets
-- that end no line, as the zeros of a file that was lengthened before it was written.
use Rattle.std.specs.Prelude.{◌≡◌, ◌≤◌, ℕ, true, List, [], ◌∷◌, ◌++◌, length, take}
use Rattle.std.specs.List.{list_all}
use Rattle.whole_blocks.specs.Blocks.{is_within, whole_part}
use Rattle.change_replay.specs.Accepted.{AcceptedChange, left_after}
use Rattle.session_model.specs.wire_io.declared.journal.Item.{Item}
use Rattle.session_model.specs.wire_io.declared.journal.Item.TheVariants as item
use Rattle.session_model.specs.wire_io.Journal.{stored_of}
use Rattle.session_model.specs.Run.{Sessions, Step}
use Rattle.session_model.specs.Journaled.{StepsOf}
use Rattle.session_model.specs.Serving.{Sound}
use Rattle.session_hub.specs.Parties.{DirectoryEntries, Requester}
use Rattle.session_hub.specs.declared.bounds.Terms.{Terms}
use Rattle.session_hub.specs.Answering.{rules}
use Rattle.crash_laws.specs.Written.{IsWrittenFile, AreRecorded, IsReadAgain}
use Rattle.crash_laws.specs.Going.{sessions_after, KeepsChanges}

-- a text that a crash may leave of a file: a front of all that was to be written, in which all is that is on the disk, and behind
-- it octets that end no line, or none
pub record MayBeLeft (on_disk all text : List ℕ) : Type 0 where
  pub count : ℕ
  pub tail : List ℕ
  pub reaches : length on_disk ≤ count
  pub ends_no_line : list_all is_within tail ≡ true
  pub text_is : text ≡ take count all ++ tail

-- the journal has octets of a reply that were taken: behind these items of it, and behind the early of the steps
pub record IsTaking (steps : List Step) (journal : List Item) (early : List Step) (before : List Item) : Type 0 where
  pub late : List Step
  pub back : List Item
  pub number : ℕ
  pub octets : List ℕ
  pub steps_are : steps ≡ early ++ late
  pub journal_is : journal ≡ before ++ item.Taken number octets ∷ back
  pub are : StepsOf before early

-- the changes that early sessions accepted, which replies may have shown; those that were accepted since and that the text has;
-- and those that are lost. The whole part of the text is a file of all but these, and is read again
pub record KeepsWhatWasShown (first : DirectoryEntries) (digest : List ℕ) (done : List AcceptedChange) (file : List ℕ) (early all : Sessions DirectoryEntries Requester) (text : List ℕ) : Type 0 where
  pub shown : List AcceptedChange
  pub more : List AcceptedChange
  pub lost : List AcceptedChange
  pub early_recorded : AreRecorded first digest (done ++ shown) (file ++ early.changes) early.tree
  pub all_recorded : AreRecorded first digest (done ++ (shown ++ (more ++ lost))) (file ++ all.changes) all.tree
  pub written : IsWrittenFile first digest (done ++ (shown ++ more)) (whole_part text)
  pub read : IsReadAgain first digest (done ++ (shown ++ more)) (whole_part text)

-- wherever octets of a reply were taken, a crash keeps the changes that were accepted before
abbrev pub ACrashKeepsWhatWasShown : Type 0
ACrashKeepsWhatWasShown =
    (terms : Terms) (first : DirectoryEntries) (digest : List ℕ) (done : List AcceptedChange) (file : List ℕ) (steps : List Step) (journal : List Item)
    → KeepsChanges terms first digest done file steps → Sound (rules terms) (left_after first done) steps journal
    → (early : List Step) (before : List Item) → IsTaking steps journal early before
    → let all = sessions_after terms first done steps in
    (text : List ℕ) → MayBeLeft (file ++ stored_of before) (file ++ all.changes) text
    → KeepsWhatWasShown first digest done file (sessions_after terms first done early) all text

-- before any are, it keeps those of the file with which the server began
abbrev pub ACrashKeepsWhatWasThere : Type 0
ACrashKeepsWhatWasThere =
    (terms : Terms) (first : DirectoryEntries) (digest : List ℕ) (done : List AcceptedChange) (file : List ℕ) (steps : List Step)
    → KeepsChanges terms first digest done file steps
    → let all = sessions_after terms first done steps in
    (text : List ℕ) → MayBeLeft file (file ++ all.changes) text
    → KeepsWhatWasShown first digest done file (sessions_after terms first done []) all text
