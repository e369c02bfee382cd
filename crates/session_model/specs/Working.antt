-- How far a loop over a link has come: what is tracked, and which connections are still due in a block.
use Rattle.std.specs.Prelude.{◌≡◌, ◌≢◌, ◌≤◌, ℕ, Bool, true, false, cond, not, List, [], ◌∷◌, ◌++◌, length, filter, Option, Some, None}
use Rattle.wire_io.specs.declared.journal.Item.{Item}
use Rattle.wire_io.specs.declared.journal.Item.TheVariants as item
use Rattle.wire_io.specs.Journal.{taken_of, stored_of, is_hung_up, is_held, was_opened}
use Rattle.session_model.specs.Rules.{Rules}
use Rattle.session_model.specs.Run.{Session, Sessions, State, Open, Closing, TurnedAway, Away, Unopened, Step, most_held}
use Rattle.session_model.specs.Run as run
use Rattle.session_model.specs.Kept.{Kept, Held, queue_of, kept_of}
use Rattle.session_model.specs.Keeping.{Keeps, is_listed}
use Rattle.session_model.specs.Journaled.{HasNoCut, HasCut, cuts_of, is_event, all_taken, WasLater}
use Rattle.session_model.specs.Serving.{Stands, Sound}
use Rattle.session_model.specs.Replaying.{is_away, is_leaving, replayed}

-- a connection that was turned away
abbrev pub is_turned : State → Bool
is_turned TurnedAway = true
is_turned Unopened = false
is_turned Open = false
is_turned Closing = false
is_turned Away = false

-- a session once it was hung up, if it is to be
abbrev pub left : {W : Type 0} → Session W → Session W
left session = cond (is_leaving session.state) (record session { state = Away }) session

-- the same of all sessions
abbrev pub all_left : {T W : Type 0} → Sessions T W → Sessions T W
all_left sessions = record sessions { of = λ number. left (sessions.of number) }

-- how often a connection may have been cut, by where it is
abbrev pub cuts_in : State → ℕ
cuts_in Unopened = 0
cuts_in Open = 0
cuts_in Closing = 1
cuts_in TurnedAway = 1
cuts_in Away = 1

-- whether what is kept of a connection is there and not closing
abbrev pub is_open_in : {W : Type 0} → Option (Kept W) → Bool
is_open_in None = false
is_open_in (Some connection) = not connection.closing

-- a cut comes to a connection that is open alone
abbrev pub CutsOpen : {W : Type 0} → ℕ → List (Kept W) → Option ℕ → Type 0
CutsOpen number kept None = Unit {0}
CutsOpen number kept (Some count) = is_open_in (kept_of number kept) ≡ true

-- of a list of numbers, one is put in or taken out
pub record Puts (number : ℕ) (listed : Bool) (old new : List ℕ) : Type 0 where
  pub own : is_listed number new ≡ listed
  pub others : (other : ℕ) → other ≢ number → is_listed other new ≡ is_listed other old

-- all of one list of numbers are in another
pub record Covers (numbers others : List ℕ) : Type 0 where
  pub covers : (number : ℕ) → is_listed number numbers ≡ false → is_listed number others ≡ false

module _ {T W : Type 0} (rules : Rules T W) (tree : T) where
  -- the journal is right so far, and what is held is what its sessions show, and what of their changes isn't stored
  pub record Tracks (steps : List Step) (current : Sessions T W) (held : Held T W) (on_hold : List ℕ) (journal : List Item) : Type 0 where
    pub is : run.run rules tree steps ≡ current
    pub keeps : Keeps current (λ number. length (taken_of number journal)) held
    pub unstored : current.changes ≡ stored_of journal ++ held.unstored
    pub holds : (number : ℕ) → is_held number journal ≡ is_listed number on_hold
    pub opened : (number : ℕ) → was_opened number journal ≡ is_listed number current.opened
    pub fresh : (number : ℕ) → is_listed number current.opened ≡ false → (current.of number).state ≡ Unopened
    pub cuts : (number : ℕ) → cuts_of number steps ≤ cuts_in (current.of number).state
    pub no_cut : held.was_cut ≡ false → HasNoCut steps
    pub cut : held.was_cut ≡ true → HasCut steps
    pub few : length held.kept ≤ most_held
    pub sound : Sound rules tree steps journal

  -- the events replayed come to where these sessions come once all are hung up that are to be; of those not held all was taken
  pub record Replays (steps : List Step) (current : Sessions T W) (journal : List Item) : Type 0 where
    pub same : replayed rules tree (filter is_event steps) ≡ all_left current
    pub taken : (number : ℕ) → run.is_held (current.of number).state ≡ false → taken_of number journal ≡ (current.of number).reply

  -- at an item within a block or between two: whoever isn't due stands as it has to
  pub record Works (due : List ℕ) (held : Held T W) (on_hold : List ℕ) (journal : List Item) : Type 0 where
    pub steps : List Step
    pub now : Sessions T W
    pub tracks : Tracks steps now held on_hold journal
    pub hung : (number : ℕ) → is_hung_up number journal ≡ is_away (now.of number).state
    pub unturned : (number : ℕ) → is_turned (now.of number).state ≡ false
    pub placed : (number : ℕ) → is_listed number on_hold ≡ true → run.is_held (now.of number).state ≡ true
    pub stands : (number : ℕ) → is_listed number due ≡ false → Stands (now.of number).state journal number (now.of number)
    pub replay : all_taken journal ≡ true → Replays steps now journal

  -- the first that is due took no more now
  pub record Refused (number : ℕ) (due : List ℕ) (held : Held T W) (on_hold : List ℕ) (journal : List Item) : Type 0 where
    pub works : Works (number ∷ due) held on_hold journal
    pub queued : queue_of number held.kept ≢ []
    pub later : WasLater number journal

  -- the first that is due was found lost
  pub record Lost (number : ℕ) (due : List ℕ) (held : Held T W) (on_hold : List ℕ) (journal : List Item) : Type 0 where
    pub before : List Item
    pub last : journal ≡ before ++ item.Gone number ∷ []
    pub works : Works (number ∷ due) held on_hold before
    pub queued : queue_of number held.kept ≢ []
