-- A server writes its file on: each answer adds the record of the change that it accepted, or nothing.
use Rattle.std.proofs.Common.{◌≡◌, ◌<◌, ℕ, true, List, [], ◌++◌, refl, sym, ap₂, subst, ◌∙◌}
use Rattle.std.specs.List.{AllByRecursion}
use Rattle.std.proofs.lemmas.List.{append_assoc, append-nil}
use Rattle.session_model.specs.ber_elements.Laws.{AreOctets}
use Rattle.change_replay.specs.change_records.Files.{head_text}
use Rattle.change_replay.specs.change_records.Writable.{IsDigest}
use Rattle.change_replay.specs.Accepted.{AcceptedChange, left_after}
use Rattle.change_replay.specs.Laws.{IsOfOctets}
use Rattle.session_model.specs.Rules.{AnswersExtend}
use Rattle.session_model.specs.Run.{Sessions, Step, start, run_from}
use Rattle.session_model.specs.AnsweredMessages.{AnsweredMessage, answered_of_run}
use Rattle.session_model.specs.Hearing.{BringOnly}
use Rattle.session_model.proofs.Theorems.{all_append, all_both, run_brings}
use Rattle.session_hub.specs.Parties.{DirectoryEntries, Requester}
use Rattle.session_hub.specs.declared.bounds.Terms.{Terms}
use Rattle.session_hub.specs.Answering.{rules}
use Rattle.crash_laws.specs.Written.{IsWrittenFile, AreRecorded}
use Rattle.crash_laws.specs.Going.{sessions_after, GoesOn, GoesOnInTurn}
use Rattle.crash_laws.proofs.laws.AcceptedLemmas.{left-both, accepted_both, file-none, file-both}
use Rattle.crash_laws.proofs.laws.MadeLemmas.{IsMade, answer_made}
use Rattle.crash_laws.proofs.laws.RunLemmas.{run-both, answered-both, run_from_extends}

-- a head alone is a written file
pub head_written : (first : DirectoryEntries) (digest : List ℕ) → IsDigest digest → IsWrittenFile first digest [] (head_text digest)
head_written first digest is = record { digest_is = is; accepted = tt; octets = tt; text_is = file-none digest }

-- ---- a file that goes on

-- with nothing more
goes_now : (first : DirectoryEntries) (digest : List ℕ) (done : List AcceptedChange) (text : List ℕ) (entries : DirectoryEntries)
    → AreRecorded first digest done text entries → GoesOn first digest done text entries
goes_now first digest done text entries are =
    record { more = []; recorded = subst (λ changes. AreRecorded first digest changes text entries) (sym (append-nil done)) are }

-- with what an answer made
goes_with : (first : DirectoryEntries) (digest : List ℕ) (done : List AcceptedChange) (text records : List ℕ) (entries left : DirectoryEntries)
    → AreRecorded first digest done text entries → IsMade entries records left → GoesOn first digest done (text ++ records) left
goes_with first digest done text records entries left are made =
    let written = are.written in
    let made_here : IsMade (left_after first done) records left = subst (λ before. IsMade before records left) are.left made in
    let more = made_here.made in
    record {
      more = more;
      recorded = record {
        written = record {
          digest_is = written.digest_is;
          accepted = accepted_both first done more written.accepted made_here.accepted;
          octets = all_both (λ (change : AcceptedChange). IsOfOctets change.request) done more written.octets made_here.octets;
          text_is = ap₂ (λ one other. one ++ other) written.text_is made_here.records_are ∙ file-both digest done more;
        };
        left = made_here.left_is ∙ sym (left-both first done more);
      };
    }

-- what goes on behind a front goes on
goes_behind : (first : DirectoryEntries) (digest : List ℕ) (done front : List AcceptedChange) (text : List ℕ) (entries : DirectoryEntries)
    → GoesOn first digest (done ++ front) text entries → GoesOn first digest done text entries
goes_behind first digest done front text entries goes = record {
  more = front ++ goes.more;
  recorded = subst (λ changes. AreRecorded first digest changes text entries) (append_assoc done front goes.more) goes.recorded;
}

module _ (terms : Terms) (keeps : terms.keeps ≡ true) (first : DirectoryEntries) (digest : List ℕ) where
  -- the file with all changes so far goes on at each message of octets
  answers_extend : (done : List AcceptedChange) (file : List ℕ)
      → AnswersExtend (rules terms) AreOctets (λ entries changes. GoesOn first digest done (file ++ changes) entries)
  answers_extend done file entries who message changes octets goes =
      let came = (rules terms).answer entries who message in
      let made = answer_made terms keeps entries who message octets in
      let next = goes_with first digest (done ++ goes.more) (file ++ changes) came.changes entries came.tree goes.recorded made in
      subst (λ text. GoesOn first digest done text came.tree) (append_assoc file changes came.changes)
      (goes_behind first digest done goes.more ((file ++ changes) ++ came.changes) came.tree next)

  -- from any sessions on
  goes_from : (done : List AcceptedChange) (file : List ℕ) (u : Sessions DirectoryEntries Requester) (steps : List Step)
      → AllByRecursion (λ asked. AreOctets asked.message) (answered_of_run (rules terms) u steps)
      → AreRecorded first digest done (file ++ u.changes) u.tree
      → let all = run_from (rules terms) u steps in GoesOn first digest done (file ++ all.changes) all.tree
  goes_from done file u steps octets are =
      run_from_extends (rules terms) AreOctets (λ entries changes. GoesOn first digest done (file ++ changes) entries) (answers_extend done file)
      u steps octets (goes_now first digest done (file ++ u.changes) u.tree are)

  -- in two parts
  pub goes_in_turn : (done : List AcceptedChange) (file : List ℕ) (early late : List Step) → IsWrittenFile first digest done file
      → BringOnly (λ octet. octet < 256) (early ++ late)
      → GoesOnInTurn first digest done file (sessions_after terms first done early) (sessions_after terms first done (early ++ late))
  unfolding start
  goes_in_turn done file early late written bring =
      let r = rules terms in
      let u = start r (left_after first done) in
      let now = run_from r u early in
      let asked = subst (λ messages. AllByRecursion (λ (one : AnsweredMessage DirectoryEntries Requester). AreOctets one.message) messages) (answered-both r u early late)
      (run_brings (λ octet. octet < 256) r (left_after first done) (early ++ late) bring) in
      let parts = all_append (λ (one : AnsweredMessage DirectoryEntries Requester). AreOctets one.message) (answered_of_run r u early) (answered_of_run r now late) asked in
      let before = goes_from done file u early parts.0
      (record { written = subst (λ text. IsWrittenFile first digest done text) (sym (append-nil file)) written; left = refl }) in
      record {
        before = before;
        behind = subst (λ (all : Sessions DirectoryEntries Requester). GoesOn first digest (done ++ before.more) (file ++ all.changes) all.tree)
            (sym (run-both r u early late)) (goes_from (done ++ before.more) file now late parts.1 before.recorded);
      }

  -- and so all
  pub goes_on : (done : List AcceptedChange) (file : List ℕ) (steps : List Step) → IsWrittenFile first digest done file → BringOnly (λ octet. octet < 256) steps
      → let all = sessions_after terms first done steps in GoesOn first digest done (file ++ all.changes) all.tree
  unfolding run_from
  goes_on done file steps written bring =
      let turn = goes_in_turn done file [] steps written bring in
      goes_behind first digest done turn.before.more (file ++ (sessions_after terms first done steps).changes) (sessions_after terms first done steps).tree turn.behind
