-- Sessions over a list of events alone, where each connection that closes or is turned away is hung up at once.
use Rattle.std.specs.Prelude.{◌≡◌, ℕ, Bool, true, false, cond, List, [], ◌∷◌, filter}
use Rattle.wire_io.specs.declared.journal.Item.{Item}
use Rattle.wire_io.specs.Journal.{taken_of, is_hung_up}
use Rattle.session_model.specs.Rules.{Rules}
use Rattle.session_model.specs.Run.{Sessions, State, Open, Closing, TurnedAway, Away, Unopened, Step, Opened, Bytes, Ended, Gone, HungUp, step, start, run}
use Rattle.session_model.specs.Journaled.{is_event}

-- the connection of a step
abbrev pub number_of : Step → ℕ
number_of (Opened number) = number
number_of (Bytes number piece cut) = number
number_of (Ended number) = number
number_of (Gone number) = number
number_of (HungUp number) = number

-- a connection that is to be hung up
abbrev pub is_leaving : State → Bool
is_leaving Closing = true
is_leaving TurnedAway = true
is_leaving Unopened = false
is_leaving Open = false
is_leaving Away = false

-- a connection that hears no more and is to be hung up once its reply was taken
abbrev pub is_closing : State → Bool
is_closing Closing = true
is_closing TurnedAway = false
is_closing Unopened = false
is_closing Open = false
is_closing Away = false

-- a connection that has left
abbrev pub is_away : State → Bool
is_away Away = true
is_away Unopened = false
is_away Open = false
is_away Closing = false
is_away TurnedAway = false

module _ {T W : Type 0} (rules : Rules T W) where
  -- a connection that is to be hung up is
  abbrev pub hung_up : ℕ → Sessions T W → Sessions T W
  hung_up number sessions = cond (is_leaving (sessions.of number).state) (step rules sessions (HungUp number)) sessions

  -- a step, and then its connection is hung up if it is to be
  abbrev pub step_and_hang_up : Sessions T W → Step → Sessions T W
  step_and_hang_up sessions next = hung_up (number_of next) (step rules sessions next)

  -- such steps in their order
  unfoldable pub replayed_from : Sessions T W → List Step → Sessions T W
  replayed_from sessions [] = sessions
  replayed_from sessions (next ∷ steps) = replayed_from (step_and_hang_up sessions next) steps

  -- the same from the beginning
  abbrev pub replayed : T → List Step → Sessions T W
  replayed tree steps = replayed_from (start rules tree) steps

  -- the journal is that of its events replayed: the sessions are the same, all replies were taken, and whoever left was hung up
  pub record IsReplay (tree : T) (steps : List Step) (journal : List Item) : Type 0 where
    pub same : run rules tree steps ≡ replayed tree (filter is_event steps)
    pub taken : (number : ℕ) → taken_of number journal ≡ ((run rules tree steps).of number).reply
    pub hung_up : (number : ℕ) → is_hung_up number journal ≡ is_away ((run rules tree steps).of number).state
