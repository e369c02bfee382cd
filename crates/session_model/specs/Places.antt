-- The places of a run, or of events replayed, at which a connection may be shown something: before the first step, after each
-- step and, within a piece of octets, behind each message that is answered (RFC 4511 4.1.1). And what a connection meets where
-- each place passes tests.
use Rattle.std.specs.Prelude.{◌≡◌, ℕ, ◌==◌, ◌+◌, Bool, true, false, not, ◌&&◌, cond, List, [], ◌∷◌, ◌++◌, map, Option, Some, None, if◌then◌else◌}
use Rattle.std.specs.Option.{option_map_or}
use Rattle.ldap_msg.specs.Streams.{is_broken}
use Rattle.session_model.specs.Rules.{Rules}
use Rattle.session_model.specs.Run.{Session, Sessions, State, Open, Closing, TurnedAway, Away, Unopened, Step, start, step, new_messages}
use Rattle.session_model.specs.Kept.{Kept}
use Rattle.session_model.specs.Journaled.{is_event}
use Rattle.session_model.specs.Replaying.{step_and_hang_up}
use Rattle.session_model.specs.AnsweredMessages.{AnsweredMessage, answered_of_step}
use Rattle.session_model.specs.Purging.{is_of, is_opening, has_room}

-- a place, of one connection: how many events were heard, the one in whose course it lies included; the tree; who asks on the
-- connection, where it is open; the message of its own that was answered just before; and whether it was just turned away
pub record Place (T W : Type 0) : Type 0 where
  pub heard : ℕ
  pub tree : T
  pub asks : Option W
  pub message : Option (List ℕ)
  pub turned : Bool

-- who asks on a connection: its requester, while it is open
abbrev pub asker : {W : Type 0} → State → W → Option W
asker Open who = Some who
asker Closing who = None
asker Unopened who = None
asker TurnedAway who = None
asker Away who = None

-- so of a session
abbrev pub asker_of : {W : Type 0} → Session W → Option W
asker_of session = asker session.state session.who

-- and of what is kept of a connection
abbrev pub asker_in : {W : Type 0} → Option (Kept W) → Option W
asker_in None = None
asker_in (Some connection) = cond connection.closing None (Some connection.who)

-- a place of the connection where these sessions stand
abbrev pub standing : {T W : Type 0} → ℕ → ℕ → Sessions T W → Place T W
standing number heard sessions = record { heard = heard; tree = sessions.tree; asks = asker_of (sessions.of number); message = None; turned = false }

-- the place behind a message of some connection that was answered, where these sessions stand then
abbrev pub standing_behind : {T W : Type 0} → ℕ → ℕ → ℕ → List ℕ → Sessions T W → Place T W
standing_behind number heard other message sessions = record (standing number heard sessions) { message = cond (other == number) (Some message) None }

-- a place after a step, which may have turned the connection away
abbrev pub standing_after : {T W : Type 0} → ℕ → ℕ → Bool → Sessions T W → Place T W
standing_after number heard turned sessions = record (standing number heard sessions) { turned = turned }

-- one more event was heard, if the step is one
abbrev pub heard_with : ℕ → Step → ℕ
heard_with heard next = heard + (if is_event next then 1 else 0)

-- a connection that opens is turned away where there is no room
abbrev pub is_turned_away : {T W : Type 0} → ℕ → Sessions T W → Step → Bool
is_turned_away number sessions next = is_opening number next && not (has_room sessions)

-- a piece completes one message of an open connection, and nothing bad is behind it
pub record CompletesOne {T W : Type 0} (sessions : Sessions T W) (other : ℕ) (piece message : List ℕ) : Type 0 where
  pub is_open : (sessions.of other).state ≡ Open
  pub one : new_messages (sessions.of other).stream piece ≡ message ∷ []
  pub good : is_broken ((sessions.of other).stream ++ piece) ≡ false

-- a place passes tests: of the tree and who asks, of the message, and that the connection wasn't turned away
abbrev pub passes : {T W : Type 0} → (T → W → Bool) → (List ℕ → Bool) → Place T W → Bool
passes allows reads place =
    option_map_or (λ who. allows place.tree who) place.asks true && option_map_or reads place.message true && not place.turned

-- so does a message that is answered
pub record IsPassing {T W : Type 0} (allows : T → W → Bool) (reads : List ℕ → Bool) (asked : AnsweredMessage T W) : Type 0 where
  pub allowed : allows asked.tree asked.who ≡ true
  pub readable : reads asked.message ≡ true

module _ {T W : Type 0} (rules : Rules T W) where
  -- the place behind a message of the connection's own
  abbrev pub behind_own : ℕ → AnsweredMessage T W → Place T W
  behind_own heard asked =
      let answered = rules.answer asked.tree asked.who asked.message in
      record { heard = heard; tree = answered.tree; asks = cond answered.closes None (Some answered.who); message = Some asked.message; turned = false }

  -- behind a message of another, which leaves who asks on the connection
  abbrev pub behind_other : ℕ → Option W → AnsweredMessage T W → Place T W
  behind_other heard asks asked =
      record { heard = heard; tree = (rules.answer asked.tree asked.who asked.message).tree; asks = asks; message = None; turned = false }

  -- behind each message of a step
  abbrev pub places_within : ℕ → ℕ → Sessions T W → Step → List (Place T W)
  places_within number heard sessions next =
      map (cond (is_of number next) (behind_own heard) (behind_other heard (asker_of (sessions.of number)))) (answered_of_step rules sessions next)

  -- of a step, behind each of its messages and after it
  unfoldable pub places_of_step : (Sessions T W → Step → Sessions T W) → ℕ → ℕ → Sessions T W → Step → List (Place T W)
  places_of_step after number heard sessions next =
      places_within number heard sessions next ++ standing_after number heard (is_turned_away number sessions next) (after sessions next) ∷ []

  -- of steps in their order, behind so many events
  unfoldable pub places_from : (Sessions T W → Step → Sessions T W) → ℕ → ℕ → Sessions T W → List Step → List (Place T W)
  places_from after number heard sessions [] = []
  places_from after number heard sessions (next ∷ steps) =
      places_of_step after number (heard_with heard next) sessions next ++ places_from after number (heard_with heard next) (after sessions next) steps

  -- of a run from its beginning
  abbrev pub places : ℕ → T → List Step → List (Place T W)
  places number tree steps = standing number 0 (start rules tree) ∷ places_from (step rules) number 0 (start rules tree) steps

  -- of events replayed, where a connection that is to be hung up is within its step
  abbrev pub places_of_replay : ℕ → T → List Step → List (Place T W)
  places_of_replay number tree events = standing number 0 (start rules tree) ∷ places_from (step_and_hang_up rules) number 0 (start rules tree) events
