-- What each answer keeps true of a tree and of all changes so far stays true of them, whatever steps come, where each of
-- their messages is allowed.
use Rattle.std.proofs.Common.{ℕ, Bool, true, false, cond, List, [], ◌∷◌, ◌++◌, Option, Some, None, sym, subst}
use Rattle.std.specs.List.{AllByRecursion}
use Rattle.std.proofs.lemmas.List.{append-nil, append_assoc}
use Rattle.ldap_msg.specs.Streams.{is_broken}
use Rattle.session_model.specs.Rules.{Rules, AnswersExtend, talk, after_octets, said, up_to}
use Rattle.session_model.specs.Run.{Sessions, State, Open, Closing, TurnedAway, Away, Unopened, Step, Opened, Bytes, Ended, Gone, HungUp, step, hears, run, run_from, start, new_messages}
use Rattle.session_model.specs.Replaying.{number_of, is_leaving, step_and_hang_up, replayed, replayed_from}
use Rattle.session_model.specs.AnsweredMessages.{AnsweredMessage, answered_messages, answered_of_piece, answered_of_step, answered_of_run, answered_of_replay}
use Rattle.session_model.proofs.laws.AlikeLemmas.{all_append}

module _ {T W : Type 0} (r : Rules T W) (Allowed : List ℕ → Type 0) (P : T → List ℕ → Type 0) (extends : AnswersExtend r Allowed P) where
  -- each of them is allowed
  abbrev AreAllowed : List (AnsweredMessage T W) → Type 0
  AreAllowed asked = AllByRecursion (λ one. Allowed one.message) asked

  -- messages in turn
  talk_extends : (t : T) (w : W) (messages : List (List ℕ)) (c : List ℕ) → AreAllowed (answered_messages r t w messages) → P t c
      → P (talk r t w messages).tree (c ++ (talk r t w messages).changes)
  unfolding talk answered_messages
  talk_extends t w [] c all holds = subst (P t) (sym (append-nil c)) holds
  talk_extends t w (message ∷ messages) c all holds =
      let a = r.answer t w message in
      let first : P a.tree (c ++ a.changes) = extends t w message c all.0 holds in
      by_close a.closes first (λ rest. talk_extends a.tree a.who messages (c ++ a.changes) rest first) all.1
    where
      by_close : (closes : Bool) → let a = r.answer t w message in let next = talk r a.tree a.who messages in
          P a.tree (c ++ a.changes)
          → (AreAllowed (answered_messages r a.tree a.who messages) → P next.tree (c ++ a.changes ++ next.changes))
          → AreAllowed (cond closes [] (answered_messages r a.tree a.who messages))
          → let both = cond closes a (after_octets a.replies a.changes next) in P both.tree (c ++ both.changes)
      by_close true first later rest = first
      by_close false first later rest =
          let a = r.answer t w message in
          let next = talk r a.tree a.who messages in
          subst (P next.tree) (append_assoc c a.changes next.changes) (later rest)

  said_extends : (cut : Option ℕ) (t : T) (w : W) (messages : List (List ℕ)) (broken : Bool) (c : List ℕ)
      → AreAllowed (answered_messages r t w (up_to cut messages)) → P t c
      → P (said r cut t w messages broken).tree (c ++ (said r cut t w messages broken).changes)
  said_extends None t w messages broken c all holds = talk_extends t w messages c all holds
  said_extends (Some count) t w messages broken c all holds = talk_extends t w (up_to (Some count) messages) c all holds

  hears_extends : (st : State) (u : Sessions T W) (c : ℕ) (piece : List ℕ) (cut : Option ℕ) → AreAllowed (answered_of_piece r st u c piece cut)
      → P u.tree u.changes → P (hears r st u c piece cut).tree (hears r st u c piece cut).changes
  hears_extends Open u c piece cut all holds =
      said_extends cut u.tree (u.of c).who (new_messages (u.of c).stream piece) (is_broken ((u.of c).stream ++ piece)) u.changes all holds
  hears_extends Closing u c piece cut all holds = holds
  hears_extends Unopened u c piece cut all holds = holds
  hears_extends TurnedAway u c piece cut all holds = holds
  hears_extends Away u c piece cut all holds = holds

  pub step_extends : (u : Sessions T W) (next : Step) → AreAllowed (answered_of_step r u next) → P u.tree u.changes
      → P (step r u next).tree (step r u next).changes
  unfolding step answered_of_step
  step_extends u (Opened c) all holds = holds
  step_extends u (Bytes c piece cut) all holds = hears_extends (u.of c).state u c piece cut all holds
  step_extends u (Ended c) all holds = holds
  step_extends u (Gone c) all holds = holds
  step_extends u (HungUp c) all holds = holds

  run_from_extends : (u : Sessions T W) (steps : List Step) → AreAllowed (answered_of_run r u steps) → P u.tree u.changes
      → P (run_from r u steps).tree (run_from r u steps).changes
  unfolding run_from answered_of_run
  run_from_extends u [] all holds = holds
  run_from_extends u (next ∷ steps) all holds =
      let parts = all_append (λ one. Allowed one.message) (answered_of_step r u next) (answered_of_run r (step r u next) steps) all in
      run_from_extends (step r u next) steps parts.1 (step_extends u next parts.0 holds)

  -- from the beginning
  pub run_extends : (t : T) (steps : List Step) → AreAllowed (answered_of_run r (start r t) steps) → P t []
      → P (run r t steps).tree (run r t steps).changes
  unfolding start
  run_extends t steps all holds = run_from_extends (start r t) steps all holds

  -- a step and the hanging up of its connection
  hung_up_extends : (u : Sessions T W) (next : Step) → AreAllowed (answered_of_step r u next) → P u.tree u.changes
      → P (step_and_hang_up r u next).tree (step_and_hang_up r u next).changes
  unfolding step
  hung_up_extends u next all holds = by_state (is_leaving ((step r u next).of (number_of next)).state)
    where
      by_state : (leaves : Bool) → let both = cond leaves (step r (step r u next) (HungUp (number_of next))) (step r u next) in P both.tree both.changes
      by_state true = step_extends u next all holds
      by_state false = step_extends u next all holds

  replayed_from_extends : (u : Sessions T W) (events : List Step) → AreAllowed (answered_of_replay r u events) → P u.tree u.changes
      → P (replayed_from r u events).tree (replayed_from r u events).changes
  unfolding replayed_from answered_of_replay
  replayed_from_extends u [] all holds = holds
  replayed_from_extends u (next ∷ events) all holds =
      let after = step_and_hang_up r u next in
      let parts = all_append (λ one. Allowed one.message) (answered_of_step r u next) (answered_of_replay r after events) all in
      replayed_from_extends after events parts.1 (hung_up_extends u next parts.0 holds)

  pub replayed_extends : (t : T) (events : List Step) → AreAllowed (answered_of_replay r (start r t) events) → P t []
      → P (replayed r t events).tree (replayed r t events).changes
  unfolding start
  replayed_extends t events all holds = replayed_from_extends (start r t) events all holds
