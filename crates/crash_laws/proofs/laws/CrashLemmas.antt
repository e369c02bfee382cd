-- What a crash leaves of a file that is written on: the records of what was shown, and of the others a front.
use Rattle.std.proofs.Common.{◌≡◌, ◌≤◌, ℕ, List, [], ◌++◌, length, take, drop, Ok, sym, ap, subst, ◌∙◌, arith}
use Rattle.std.proofs.lemmas.List.{append_assoc, append-nil, take-append-drop, take-map}
use Rattle.std.proofs.Math.Seq.{take-length, take-nil}
use Rattle.whole_blocks.specs.Blocks.{whole_part}
use Rattle.whole_blocks.proofs.Theorems.{whole-tail}
use Rattle.change_replay.specs.change_records.Files.{file_text}
use Rattle.change_replay.specs.change_records.Laws.{recorded, Says}
use Rattle.change_replay.specs.Accepted.{AcceptedChange, AreAccepted, requests_of, left_after}
use Rattle.change_replay.specs.Laws.{IsOfOctets, AreOfOctets, RecoversWhereCut}
use Rattle.change_replay.specs.Replayed.{replayed}
use Rattle.session_model.specs.Run.{Sessions}
use Rattle.session_model.proofs.Theorems.{all_append}
use Rattle.session_hub.specs.Parties.{DirectoryEntries, Requester}
use Rattle.crash_laws.specs.Written.{IsWrittenFile, AreRecorded, IsReadAgain}
use Rattle.crash_laws.specs.Going.{GoesOnInTurn}
use Rattle.crash_laws.specs.Crashes.{MayBeLeft, KeepsWhatWasShown}
use Rattle.crash_laws.proofs.laws.AcceptedLemmas.{accepted_front, requests-both}

-- the requests of a front of the others
requests-kept : (done more : List AcceptedChange) (kept : ℕ) → requests_of done ++ take kept (requests_of more) ≡ requests_of (done ++ take kept more)
requests-kept done more kept =
    ap (λ asked. requests_of done ++ asked) (take-map (λ (change : AcceptedChange). change.request) kept more) ∙ sym (requests-both done (take kept more))

-- a front of a written file is written: that of its first changes
front_written : (first : DirectoryEntries) (digest : List ℕ) (done more : List AcceptedChange) (text whole : List ℕ)
    → IsWrittenFile first digest (done ++ more) text → whole ≡ file_text digest (requests_of done) → IsWrittenFile first digest done whole
front_written first digest done more text whole written is = record {
  digest_is = written.digest_is;
  accepted = accepted_front first done more written.accepted;
  octets = (all_append (λ (change : AcceptedChange). IsOfOctets change.request) done more written.octets).0;
  text_is = is;
}

module _ (recovers : RecoversWhereCut) where
  -- a written file is read again
  pub written-read : (first : DirectoryEntries) (digest : List ℕ) (done : List AcceptedChange) (text : List ℕ) → IsWrittenFile first digest done text
      → IsReadAgain first digest done text
  written-read first digest done text written =
      let none = append-nil done in
      let size = length (file_text digest (requests_of done)) in
      let within : size ≤ size = omega arith in
      let found = recovers first digest done [] size written.digest_is
      (subst (λ changes. AreAccepted first changes) (sym none) written.accepted) (subst (λ changes. AreOfOctets changes) (sym none) written.octets) within in
      let kept = found.front.kept in
      let all : take size (file_text digest (requests_of (done ++ []))) ≡ text =
      ap (λ changes. take size (file_text digest (requests_of changes))) none ∙ take-length (file_text digest (requests_of done)) ∙ sym written.text_is in
      let asked : requests_of done ++ take kept (requests_of []) ≡ requests_of done =
      ap (λ others. requests_of done ++ others) (take-nil kept) ∙ append-nil (requests_of done) in
      let whole : whole_part text ≡ text =
      ap (λ octets. whole_part octets) (sym all) ∙ found.front.front ∙ ap (λ requests. file_text digest requests) asked ∙ sym written.text_is in
      record {
        whole = whole;
        says = subst (λ octets. Says digest (requests_of done) octets) (ap (λ octets. whole_part octets) all ∙ whole)
            (subst (λ requests. Says digest requests (whole_part (take size (file_text digest (requests_of (done ++ [])))))) asked found.front.says);
        left = ap (λ requests. replayed first (recorded 4 requests)) (sym asked) ∙ found.left
            ∙ ap (λ changes. Ok (left_after first (done ++ changes))) (take-nil kept) ∙ ap (λ changes. Ok (left_after first changes)) none;
      }

  -- what a crash leaves where the changes so far were stored
  pub kept_where_stored : (first : DirectoryEntries) (digest : List ℕ) (done : List AcceptedChange) (file stored text : List ℕ) (early all : Sessions DirectoryEntries Requester)
      → GoesOnInTurn first digest done file early all → stored ≡ early.changes → MayBeLeft (file ++ stored) (file ++ all.changes) text
      → KeepsWhatWasShown first digest done file early all text
  kept_where_stored first digest done file stored text early all goes is left =
      let shown = goes.before.more in
      let later = goes.behind.more in
      let both = done ++ shown in
      let reaches : length (file_text digest (requests_of both)) ≤ left.count =
      subst (λ octets. length octets ≤ left.count) (ap (λ octets. file ++ octets) is ∙ goes.before.recorded.written.text_is) left.reaches in
      let found = recovers first digest both later left.count goes.behind.recorded.written.digest_is goes.behind.recorded.written.accepted goes.behind.recorded.written.octets reaches in
      let kept = found.front.kept in
      let more = take kept later in
      let lost = drop kept later in
      let parts : more ++ lost ≡ later = take-append-drop kept later in
      let whole : whole_part text ≡ file_text digest (requests_of (both ++ more)) =
      ap (λ octets. whole_part octets) left.text_is ∙ whole-tail (take left.count (file ++ all.changes)) left.tail left.ends_no_line
      ∙ ap (λ octets. whole_part (take left.count octets)) goes.behind.recorded.written.text_is
      ∙ found.front.front ∙ ap (λ requests. file_text digest requests) (requests-kept both later kept) in
      let in_parts : both ++ later ≡ (both ++ more) ++ lost = ap (λ changes. both ++ changes) (sym parts) ∙ sym (append_assoc both more lost) in
      let in_turn : both ++ later ≡ done ++ (shown ++ (more ++ lost)) =
      append_assoc done shown later ∙ ap (λ changes. done ++ (shown ++ changes)) (sym parts) in
      let front : IsWrittenFile first digest (both ++ more) (whole_part text) =
      front_written first digest (both ++ more) lost (file ++ all.changes) (whole_part text)
      (subst (λ changes. IsWrittenFile first digest changes (file ++ all.changes)) in_parts goes.behind.recorded.written) whole in
      let written : IsWrittenFile first digest (done ++ (shown ++ more)) (whole_part text) =
      subst (λ changes. IsWrittenFile first digest changes (whole_part text)) (append_assoc done shown more) front in
      record {
        shown = shown;
        more = more;
        lost = lost;
        early_recorded = goes.before.recorded;
        all_recorded = subst (λ changes. AreRecorded first digest changes (file ++ all.changes) all.tree) in_turn goes.behind.recorded;
        written = written;
        read = written-read first digest (done ++ (shown ++ more)) (whole_part text) written;
      }
