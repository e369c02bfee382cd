-- Sessions over whole streams (RFC 4511 5): what a list of steps does to the tree and to each connection.
use Rattle.std.specs.Prelude.{ℕ, ◌==◌, nat_lt, Bool, false, true, cond, List, [], ◌∷◌, ◌++◌, length, drop, filter, Option, None}
use Rattle.ldap_msg.specs.Streams.{whole, is_broken}
use Rattle.session_model.specs.Rules.{Rules, said}

-- where a connection is: never opened, being served, to be hung up once its reply is taken, turned away, or left
pub data State : Type 0 where
  Unopened : State
  Open : State
  Closing : State
  TurnedAway : State
  Away : State

-- a connection that is held has a place in the server
abbrev pub is_held : State → Bool
is_held Open = true
is_held Closing = true
is_held Unopened = false
is_held TurnedAway = false
is_held Away = false

-- one connection: all octets heard from it, its requester, all octets of its reply, where it is, and after how many
-- messages of its last piece it was cut for want of memory, if it was
pub record Session (W : Type 0) : Type 0 where
  pub stream : List ℕ
  pub who : W
  pub reply : List ℕ
  pub state : State
  pub cut : Option ℕ

-- the tree, the octets of all changes so far, the numbers opened in their order, and the session of each number
pub record Sessions (T W : Type 0) : Type 0 where
  pub tree : T
  pub changes : List ℕ
  pub opened : List ℕ
  pub of : ℕ → Session W

-- what happens to a connection, by its number; octets may be cut after so many of the messages that they complete
pub data Step : Type 0 where
  Opened : ℕ → Step
  Bytes : ℕ → List ℕ → Option ℕ → Step
  Ended : ℕ → Step
  Gone : ℕ → Step
  HungUp : ℕ → Step

-- the most connections that are held at once
abbrev pub most_held : ℕ
most_held = 256

-- the session of one number is another, and the others stay
abbrev pub with_session : {W : Type 0} → ℕ → Session W → (ℕ → Session W) → ℕ → Session W
with_session number session sessions other = cond (other == number) session (sessions other)

-- the numbers of the connections held, by the order of their opening
unfoldable pub held_numbers : {T W : Type 0} → Sessions T W → List ℕ
held_numbers sessions = filter (λ number. is_held (sessions.of number).state) sessions.opened

-- the messages that a piece completes
abbrev pub new_messages : List ℕ → List ℕ → List (List ℕ)
new_messages stream piece = drop (length (whole stream)) (whole (stream ++ piece))

-- the end of a peer's octets closes an open connection
abbrev pub ended : {W : Type 0} → State → Session W → Session W
ended Open session = record session { state = Closing }
ended _ session = session

module _ {T W : Type 0} (rules : Rules T W) where
  -- a connection that has just opened, where so many are held
  abbrev pub newcomer : ℕ → Session W
  newcomer held =
      record { stream = []; who = rules.nobody; reply = []; state = cond (nat_lt held most_held) Open TurnedAway; cut = None }

  -- before any step
  unfoldable pub start : T → Sessions T W
  start tree = record {
    tree = tree;
    changes = [];
    opened = [];
    of = λ _. record { stream = []; who = rules.nobody; reply = []; state = Unopened; cut = None };
  }

  -- on an open connection each new message gets its answer in turn, up to one that closes the connection; a broken
  -- stream that none of them closed gets the notice, and is closed by it; a cut closes after the first messages
  abbrev pub hears : State → Sessions T W → ℕ → List ℕ → Option ℕ → Sessions T W
  hears Open sessions number piece cut =
      let session = sessions.of number in
      let answered = said rules cut sessions.tree session.who (new_messages session.stream piece) (is_broken (session.stream ++ piece)) in
      record {
        tree = answered.tree;
        changes = sessions.changes ++ answered.changes;
        opened = sessions.opened;
        of = with_session number
            (record {
              stream = session.stream ++ piece;
              who = answered.who;
              reply = session.reply ++ answered.replies;
              state = cond answered.closes Closing Open;
              cut = cut;
            })
            sessions.of;
      }
  hears _ sessions number piece cut = sessions

  -- one step
  unfoldable pub step : Sessions T W → Step → Sessions T W
  step sessions (Opened number) =
      record sessions { opened = sessions.opened ++ number ∷ []; of = with_session number (newcomer (length (held_numbers sessions))) sessions.of }
  step sessions (Bytes number piece cut) = hears (sessions.of number).state sessions number piece cut
  step sessions (Ended number) = record sessions { of = with_session number (ended (sessions.of number).state (sessions.of number)) sessions.of }
  step sessions (Gone number) = record sessions { of = with_session number (record (sessions.of number) { state = Away }) sessions.of }
  step sessions (HungUp number) = record sessions { of = with_session number (record (sessions.of number) { state = Away }) sessions.of }

  -- steps in their order
  unfoldable pub run_from : Sessions T W → List Step → Sessions T W
  run_from sessions [] = sessions
  run_from sessions (next ∷ steps) = run_from (step sessions next) steps

  -- steps from the beginning
  abbrev pub run : T → List Step → Sessions T W
  run tree steps = run_from (start tree) steps
