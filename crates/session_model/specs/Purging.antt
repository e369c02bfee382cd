-- The steps of one connection among those of all, and what of all that it meets.
use Rattle.std.specs.Prelude.{ℕ, ◌==◌, nat_lt, Bool, true, false, not, ◌&&◌, ◌||◌, cond, List, [], ◌∷◌, ◌++◌, length, filter, ◌+◌, if◌then◌else◌}
use Rattle.session_model.specs.Rules.{Rules}
use Rattle.session_model.specs.Run.{Sessions, Step, Opened, Bytes, Ended, Gone, HungUp, step, held_numbers, most_held}
use Rattle.session_model.specs.Replaying.{number_of, step_and_hang_up}
use Rattle.session_model.specs.AnsweredMessages.{AnsweredMessage, answered_of_step}

-- a step of this connection
abbrev pub is_of : ℕ → Step → Bool
is_of number next = number_of next == number

-- the steps of this connection alone
abbrev pub purged : ℕ → List Step → List Step
purged number steps = filter (is_of number) steps

-- a step opens this connection
abbrev pub is_opening : ℕ → Step → Bool
is_opening number (Opened other) = other == number
is_opening number (Bytes other piece cut) = false
is_opening number (Ended other) = false
is_opening number (Gone other) = false
is_opening number (HungUp other) = false

-- how often steps do
abbrev pub openings : ℕ → List Step → ℕ
openings number [] = 0
openings number (next ∷ steps) = (if is_opening number next then 1 else 0) + openings number steps

-- fewer connections are held than there may be
abbrev pub has_room : {T W : Type 0} → Sessions T W → Bool
has_room sessions = nat_lt (length (held_numbers sessions)) most_held

-- so it is whenever this connection opens, where each step leads on so
unfoldable pub finds_room_by : {T W : Type 0} → (Sessions T W → Step → Sessions T W) → ℕ → Sessions T W → List Step → Bool
finds_room_by after number sessions [] = true
finds_room_by after number sessions (next ∷ steps) =
    (not (is_opening number next) || has_room sessions) && finds_room_by after number (after sessions next) steps

module _ {T W : Type 0} (rules : Rules T W) where
  -- the messages of this connection that are answered in steps of all, where each leads on so
  unfoldable pub answered_of_connection_by : (Sessions T W → Step → Sessions T W) → ℕ → Sessions T W → List Step → List (AnsweredMessage T W)
  answered_of_connection_by after number sessions [] = []
  answered_of_connection_by after number sessions (next ∷ steps) =
      cond (is_of number next) (answered_of_step rules sessions next) [] ++ answered_of_connection_by after number (after sessions next) steps

  -- both in a run
  abbrev pub finds_room : ℕ → Sessions T W → List Step → Bool
  finds_room number sessions steps = finds_room_by (step rules) number sessions steps

  abbrev pub answered_of_connection : ℕ → Sessions T W → List Step → List (AnsweredMessage T W)
  answered_of_connection number sessions steps = answered_of_connection_by (step rules) number sessions steps

  -- and where events are replayed
  abbrev pub finds_room_in_replay : ℕ → Sessions T W → List Step → Bool
  finds_room_in_replay number sessions events = finds_room_by (step_and_hang_up rules) number sessions events

  abbrev pub answered_in_replay : ℕ → Sessions T W → List Step → List (AnsweredMessage T W)
  answered_in_replay number sessions events = answered_of_connection_by (step_and_hang_up rules) number sessions events
