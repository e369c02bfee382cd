-- What was shown before a crash is kept: it was stored before octets of a reply were taken.
use Rattle.std.proofs.Common.{◌≤◌, ℕ, List, [], ◌++◌, length, refl, sym, subst}
use Rattle.std.proofs.lemmas.List.{append-nil}
use Rattle.session_model.specs.wire_io.declared.journal.Item.{Item}
use Rattle.session_model.specs.wire_io.Journal.{stored_of}
use Rattle.change_replay.specs.Accepted.{AcceptedChange, left_after}
use Rattle.change_replay.specs.Laws.{RecoversWhereCut}
use Rattle.session_model.specs.Run.{Step, start, run_from}
use Rattle.session_model.specs.Serving.{Sound}
use Rattle.session_model.proofs.Theorems.{stored_before}
use Rattle.session_hub.specs.Parties.{DirectoryEntries}
use Rattle.session_hub.specs.declared.bounds.Terms.{Terms}
use Rattle.session_hub.specs.Answering.{rules}
use Rattle.crash_laws.specs.Going.{sessions_after, KeepsChanges, GoesOnInTurn, WritesItsFileOnInTurn}
use Rattle.crash_laws.specs.Crashes.{MayBeLeft, IsTaking, KeepsWhatWasShown}
use Rattle.crash_laws.proofs.laws.CrashLemmas.{kept_where_stored}

module _ (turns : WritesItsFileOnInTurn) (recovers : RecoversWhereCut) (terms : Terms) (first : DirectoryEntries) (digest : List ℕ)
    (done : List AcceptedChange) (file : List ℕ) (steps : List Step) where
  -- where octets of a reply were taken
  pub shown_kept : (journal : List Item) → KeepsChanges terms first digest done file steps → Sound (rules terms) (left_after first done) steps journal
      → (early : List Step) (before : List Item) → IsTaking steps journal early before
      → let all = sessions_after terms first done steps in
      (text : List ℕ) → MayBeLeft (file ++ stored_of before) (file ++ all.changes) text
      → KeepsWhatWasShown first digest done file (sessions_after terms first done early) all text
  shown_kept journal given sound early before taking text left =
      let shown = sessions_after terms first done early in
      let given_in_turn = subst (λ all. KeepsChanges terms first digest done file all) taking.steps_are given in
      let goes = subst (λ all. GoesOnInTurn first digest done file shown (sessions_after terms first done all)) (sym taking.steps_are)
      (turns terms first digest done file early taking.late given_in_turn) in
      let stored = stored_before (rules terms) (left_after first done) steps journal sound early taking.late before taking.back taking.number taking.octets
      taking.steps_are taking.journal_is taking.are in
      kept_where_stored recovers first digest done file (stored_of before) text shown (sessions_after terms first done steps) goes stored left

  -- before any were
  pub there_kept : KeepsChanges terms first digest done file steps
      → let all = sessions_after terms first done steps in
      (text : List ℕ) → MayBeLeft file (file ++ all.changes) text → KeepsWhatWasShown first digest done file (sessions_after terms first done []) all text
  unfolding run_from start
  there_kept given text left =
      let all = sessions_after terms first done steps in
      let now = sessions_after terms first done [] in
      kept_where_stored recovers first digest done file [] text now all (turns terms first digest done file [] steps given) refl
      (record {
        count = left.count;
        tail = left.tail;
        reaches = subst (λ octets. length octets ≤ left.count) (sym (append-nil file)) left.reaches;
        ends_no_line = left.ends_no_line;
        text_is = left.text_is;
      })
