-- What a replay prints over twins: data files whose directories differ in an ordinary subtree alone, which shows a requester
-- nothing (X.501 18, X.511 7.11).
use Rattle.std.specs.Prelude.{◌≡◌, ◌⊎◌, ℕ, false, List, Option}
use Rattle.std.specs.List.{AllByRecursion}
use Rattle.command_files.specs.script_text.declared.event.ScriptEvent.{ScriptEvent}
use Rattle.command_files.specs.wire_io.Files.{Files}
use Rattle.command_files.specs.wire_io.Putting.{appended}
use Rattle.command_files.specs.dn_names.name.Names.{RdnSequence}
use Rattle.session_hub.specs.session_model.Run.{start}
use Rattle.session_hub.specs.session_model.Journaled.{steps_of_events}
use Rattle.session_hub.specs.session_model.AnsweredMessages.{AnsweredMessage, answered_of_replay}
use Rattle.session_hub.specs.Parties.{DirectoryEntries, Requester}
use Rattle.session_hub.specs.Answering.{rules}
use Rattle.session_hub.specs.Twins.{IsOverTwins}
use Rattle.session_hub.specs.Terms.{no_terms}
use Rattle.command_words.specs.command.Command.{Replay, IsCommand}
use Rattle.command_files.specs.loading.Accepting.{IsTold, IsGoodData, IsGoodScript}
use Rattle.acl_program.specs.declared.status.Status.{Status}
use Rattle.acl_program.specs.declared.status.Status.TheVariants.{Done, TurnsSpent}
use Rattle.acl_program.specs.Lines.{heard_of, replay_text}
use Rattle.acl_program.specs.program.Outside.{Outside}

-- the messages that a replay answers
abbrev pub answered_of_script : DirectoryEntries → List ScriptEvent → ℕ → List (AnsweredMessage DirectoryEntries Requester)
answered_of_script entries events turns = answered_of_replay (rules no_terms) (start (rules no_terms) entries) (steps_of_events (heard_of events turns))

-- the words ask for a replay without the tree at its end, whose files are told and accepted
pub record AsksLines (words : List (List ℕ)) (files : Option Files) (events : List ScriptEvent) (turns : ℕ) (entries : DirectoryEntries) : Type 0 where
  pub data_file : List ℕ
  pub script : List ℕ
  pub asked : IsCommand words (Replay data_file script turns false)
  pub data_good : IsTold files data_file (IsGoodData entries)
  pub script_good : IsTold files script (IsGoodScript events)

-- where it is done, or its turns are spent, it put the lines of the replay over each directory over which, for some name,
-- all of its messages are answered as over a twin
unfoldable pub PrintsAlike : List (List ℕ) → Outside → Status → Outside → Type 0
PrintsAlike words before status after =
    (events : List ScriptEvent) (turns : ℕ) (entries other : DirectoryEntries) (top : RdnSequence) →
    AsksLines words before.shelf.files events turns entries →
    AllByRecursion (IsOverTwins other top) (answered_of_script entries events turns) →
    (status ≡ Done) ⊎ (status ≡ TurnsSpent) → after.out.put ≡ appended before.out.put (replay_text other events turns)
