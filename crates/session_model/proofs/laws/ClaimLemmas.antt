-- What each answer keeps true of a tree stays true of it, whatever is said and whatever steps come, at each place, and of
-- each message that is answered.
use Rattle.std.proofs.Common.{◌≡◌, ℕ, Bool, true, false, cond, List, [], ◌∷◌, ◌++◌, Option, Some, None, map, refl}
use Rattle.std.specs.List.{AllByRecursion}
use Rattle.ldap_msg.specs.Streams.{is_broken}
use Rattle.session_model.specs.Rules.{Rules, Answered, AnswersKeep, talk, after_octets, said, up_to}
use Rattle.session_model.specs.Run.{Sessions, State, Open, Closing, TurnedAway, Away, Unopened, Step, Opened, Bytes, Ended, Gone, HungUp, step, hears, run, run_from, start, new_messages}
use Rattle.session_model.specs.Replaying.{number_of, is_leaving, step_and_hang_up, replayed, replayed_from}
use Rattle.session_model.specs.AnsweredMessages.{AnsweredMessage, answered_messages, answered_of_piece, answered_of_step}
use Rattle.session_model.proofs.laws.AlikeLemmas.{all_both}
use Rattle.session_model.specs.Purging.{is_of, answered_of_connection, answered_of_connection_by, answered_in_replay}
use Rattle.session_model.specs.Places.{Place, asker_of, behind_own, behind_other, places_within, places_of_step, places_from, places, places_of_replay, heard_with, standing_after, is_turned_away}

module _ {T W : Type 0} (r : Rules T W) (P : T → Type 0) (keeps : AnswersKeep r P) where
  -- an answer, and then what is said next unless it closes
  then_claim : (a b : Answered T W) (closes : Bool) → a.closes ≡ closes → P a.tree → P b.tree → P (cond a.closes a (after_octets a.replies a.changes b)).tree
  then_claim a b true e first next = rw e first
  then_claim a b false e first next = rw e next

  talk_claim : (t : T) (w : W) (messages : List (List ℕ)) → P t → P (talk r t w messages).tree
  unfolding talk
  talk_claim t w [] holds = holds
  talk_claim t w (message ∷ messages) holds =
      let a = r.answer t w message in
      let first : P a.tree = keeps t w message holds in
      then_claim a (talk r a.tree a.who messages) a.closes refl first (talk_claim a.tree a.who messages first)

  said_claim : (cut : Option ℕ) (t : T) (w : W) (messages : List (List ℕ)) (broken : Bool) → P t → P (said r cut t w messages broken).tree
  said_claim None t w messages broken holds = talk_claim t w messages holds
  said_claim (Some count) t w messages broken holds = talk_claim t w (up_to (Some count) messages) holds

  hears_claim : (st : State) (u : Sessions T W) (c : ℕ) (piece : List ℕ) (cut : Option ℕ) → P u.tree → P (hears r st u c piece cut).tree
  hears_claim Open u c piece cut holds = said_claim cut u.tree (u.of c).who (new_messages (u.of c).stream piece) (is_broken ((u.of c).stream ++ piece)) holds
  hears_claim Closing u c piece cut holds = holds
  hears_claim Unopened u c piece cut holds = holds
  hears_claim TurnedAway u c piece cut holds = holds
  hears_claim Away u c piece cut holds = holds

  pub step_claim : (u : Sessions T W) (next : Step) → P u.tree → P (step r u next).tree
  unfolding step
  step_claim u (Opened c) holds = holds
  step_claim u (Bytes c piece cut) holds = hears_claim (u.of c).state u c piece cut holds
  step_claim u (Ended c) holds = holds
  step_claim u (Gone c) holds = holds
  step_claim u (HungUp c) holds = holds

  run_from_claim : (u : Sessions T W) (steps : List Step) → P u.tree → P (run_from r u steps).tree
  unfolding run_from
  run_from_claim u [] holds = holds
  run_from_claim u (next ∷ steps) holds = run_from_claim (step r u next) steps (step_claim u next holds)

  pub run_claim : (t : T) (steps : List Step) → P t → P (run r t steps).tree
  unfolding start
  run_claim t steps holds = run_from_claim (start r t) steps holds

  -- a step and the hanging up of its connection
  pub step_and_hang_up_claim : (u : Sessions T W) (next : Step) → P u.tree → P (step_and_hang_up r u next).tree
  step_and_hang_up_claim u next holds = by_state (is_leaving ((step r u next).of (number_of next)).state)
    where
      stepped : P (step r u next).tree
      stepped = step_claim u next holds

      by_state : (leaves : Bool) → P (cond leaves (step r (step r u next) (HungUp (number_of next))) (step r u next)).tree
      by_state true = step_claim (step r u next) (HungUp (number_of next)) stepped
      by_state false = stepped

  replayed_from_claim : (u : Sessions T W) (events : List Step) → P u.tree → P (replayed_from r u events).tree
  unfolding replayed_from
  replayed_from_claim u [] holds = holds
  replayed_from_claim u (next ∷ events) holds = replayed_from_claim (step_and_hang_up r u next) events (step_and_hang_up_claim u next holds)

  pub replayed_claim : (t : T) (events : List Step) → P t → P (replayed r t events).tree
  unfolding start
  replayed_claim t events holds = replayed_from_claim (start r t) events holds

  -- each message that is answered in turn is answered over such a tree
  messages_claim : (t : T) (w : W) (messages : List (List ℕ)) → P t → AllByRecursion (λ asked. P asked.tree) (answered_messages r t w messages)
  unfolding answered_messages
  messages_claim t w [] holds = tt
  messages_claim t w (message ∷ messages) holds =
      let a = r.answer t w message in (holds, by_close a.closes (messages_claim a.tree a.who messages (keeps t w message holds)))
    where
      by_close : (closes : Bool) → let a = r.answer t w message in AllByRecursion (λ asked. P asked.tree) (answered_messages r a.tree a.who messages)
          → AllByRecursion (λ asked. P asked.tree) (cond closes [] (answered_messages r a.tree a.who messages))
      by_close true later = tt
      by_close false later = later

  piece_claim : (st : State) (u : Sessions T W) (c : ℕ) (piece : List ℕ) (cut : Option ℕ) → P u.tree → AllByRecursion (λ asked. P asked.tree) (answered_of_piece r st u c piece cut)
  piece_claim Open u c piece cut holds = messages_claim u.tree (u.of c).who (up_to cut (new_messages (u.of c).stream piece)) holds
  piece_claim Closing u c piece cut holds = tt
  piece_claim Unopened u c piece cut holds = tt
  piece_claim TurnedAway u c piece cut holds = tt
  piece_claim Away u c piece cut holds = tt

  answered_claim : (u : Sessions T W) (next : Step) → P u.tree → AllByRecursion (λ asked. P asked.tree) (answered_of_step r u next)
  unfolding answered_of_step
  answered_claim u (Opened c) holds = tt
  answered_claim u (Bytes c piece cut) holds = piece_claim (u.of c).state u c piece cut holds
  answered_claim u (Ended c) holds = tt
  answered_claim u (Gone c) holds = tt
  answered_claim u (HungUp c) holds = tt

  -- so it is behind each of them, and at each place of a step
  behind_claim : (c h : ℕ) (asks : Option W) (own : Bool) (xs : List (AnsweredMessage T W)) → AllByRecursion (λ asked. P asked.tree) xs
      → AllByRecursion (λ (place : Place T W). P place.tree) (map (cond own (behind_own r h) (behind_other r h asks)) xs)
  behind_claim c h asks own [] all = tt
  behind_claim c h asks true (x ∷ xs) all = (keeps x.tree x.who x.message all.0, behind_claim c h asks true xs all.1)
  behind_claim c h asks false (x ∷ xs) all = (keeps x.tree x.who x.message all.0, behind_claim c h asks false xs all.1)

  -- where each step leads on to such a tree
  module _ (after : Sessions T W → Step → Sessions T W) (leads : (u : Sessions T W) (next : Step) → P u.tree → P (after u next).tree) (c : ℕ) where
    places_from_claim : (h : ℕ) (u : Sessions T W) (steps : List Step) → P u.tree → AllByRecursion (λ (place : Place T W). P place.tree) (places_from r after c h u steps)
    unfolding places_from places_of_step
    places_from_claim h u [] holds = tt
    places_from_claim h u (next ∷ steps) holds =
        let within = places_within r c (heard_with h next) u next in
        let last = standing_after c (heard_with h next) (is_turned_away c u next) (after u next) in
        all_both (λ (place : Place T W). P place.tree) (within ++ last ∷ []) (places_from r after c (heard_with h next) (after u next) steps)
        (all_both (λ (place : Place T W). P place.tree) within (last ∷ [])
        (behind_claim c (heard_with h next) (asker_of (u.of c)) (is_of c next) (answered_of_step r u next) (answered_claim u next holds))
        (leads u next holds, tt))
        (places_from_claim (heard_with h next) (after u next) steps (leads u next holds))

    messages_of_claim : (u : Sessions T W) (steps : List Step) → P u.tree → AllByRecursion (λ asked. P asked.tree) (answered_of_connection_by r after c u steps)
    unfolding answered_of_connection_by
    messages_of_claim u [] holds = tt
    messages_of_claim u (next ∷ steps) holds =
        all_both (λ asked. P asked.tree) (cond (is_of c next) (answered_of_step r u next) []) (answered_of_connection_by r after c (after u next) steps)
        (by_own (is_of c next)) (messages_of_claim (after u next) steps (leads u next holds))
      where
        by_own : (own : Bool) → AllByRecursion (λ asked. P asked.tree) (cond own (answered_of_step r u next) [])
        by_own true = answered_claim u next holds
        by_own false = tt

  -- from the beginning
  pub places_claim : (c : ℕ) (t : T) (steps : List Step) → P t → AllByRecursion (λ (place : Place T W). P place.tree) (places r c t steps)
  unfolding start
  places_claim c t steps holds = (holds, places_from_claim (step r) step_claim c 0 (start r t) steps holds)

  pub replay_places_claim : (c : ℕ) (t : T) (events : List Step) → P t → AllByRecursion (λ (place : Place T W). P place.tree) (places_of_replay r c t events)
  unfolding start
  replay_places_claim c t events holds = (holds, places_from_claim (step_and_hang_up r) step_and_hang_up_claim c 0 (start r t) events holds)

  pub connection_claim : (c : ℕ) (t : T) (steps : List Step) → P t → AllByRecursion (λ asked. P asked.tree) (answered_of_connection r c (start r t) steps)
  unfolding start
  connection_claim c t steps holds = messages_of_claim (step r) step_claim c (start r t) steps holds

  pub replay_connection_claim : (c : ℕ) (t : T) (events : List Step) → P t → AllByRecursion (λ asked. P asked.tree) (answered_in_replay r c (start r t) events)
  unfolding start
  replay_connection_claim c t events holds = messages_of_claim (step_and_hang_up r) step_and_hang_up_claim c (start r t) events holds
