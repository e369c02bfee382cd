-- The messages that sessions answer (RFC 4511 4.1.1): each over which tree and for whom. And when they are answered alike
-- over another tree.
use Rattle.std.specs.Prelude.{◌≡◌, ℕ, cond, List, [], ◌∷◌, ◌++◌, Option, Some, None}
use Rattle.ldap_msg.specs.Streams.{whole}
use Rattle.session_model.specs.Rules.{Rules, Answered, up_to}
use Rattle.session_model.specs.Run.{Sessions, State, Open, Closing, TurnedAway, Away, Unopened, Step, Opened, Bytes, Ended, Gone, HungUp, step, new_messages}
use Rattle.session_model.specs.Kept.{Kept, Held, kept_of}
use Rattle.session_model.specs.Replaying.{step_and_hang_up}

-- a message that is answered, the tree over which, and the requester for whom
pub record AnsweredMessage (T W : Type 0) : Type 0 where
  pub tree : T
  pub who : W
  pub message : List ℕ

-- two answers, each over a tree of its own, are the same, and each leaves its tree as it was
pub record AreAlike {T W : Type 0} (one other : T) (first second : Answered T W) : Type 0 where
  pub replies : first.replies ≡ second.replies
  pub changes : first.changes ≡ second.changes
  pub who : first.who ≡ second.who
  pub closes : first.closes ≡ second.closes
  pub one_stays : first.tree ≡ one
  pub other_stays : second.tree ≡ other

-- the same sessions over another tree
abbrev pub over : {T W : Type 0} → T → Sessions T W → Sessions T W
over tree sessions = record sessions { tree = tree }

-- what is held, over another tree
abbrev pub held_over : {T W : Type 0} → T → Held T W → Held T W
held_over tree held = record held { tree = tree }

-- other sessions are the same over another tree, and the first have the tree that they had
pub record AreOver {T W : Type 0} (one other : T) (first second : Sessions T W) : Type 0 where
  pub same : second ≡ over other first
  pub one_stays : first.tree ≡ one

-- so of what is held
pub record AreHeldOver {T W : Type 0} (one other : T) (first second : Held T W) : Type 0 where
  pub same : second ≡ held_over other first
  pub one_stays : first.tree ≡ one

module _ {T W : Type 0} (rules : Rules T W) where
  -- a message is answered alike over this tree
  abbrev pub IsAnsweredAlike : T → AnsweredMessage T W → Type 0
  IsAnsweredAlike other asked =
      AreAlike asked.tree other (rules.answer asked.tree asked.who asked.message) (rules.answer other asked.who asked.message)

  -- of messages those that are answered: up to one that closes the connection
  unfoldable pub answered_messages : T → W → List (List ℕ) → List (AnsweredMessage T W)
  answered_messages tree who [] = []
  answered_messages tree who (message ∷ messages) =
      let answered = rules.answer tree who message in
      record { tree = tree; who = who; message = message } ∷ cond answered.closes [] (answered_messages answered.tree answered.who messages)

  -- of a piece, where its connection is open, those up to a cut
  abbrev pub answered_of_piece : State → Sessions T W → ℕ → List ℕ → Option ℕ → List (AnsweredMessage T W)
  answered_of_piece Open sessions number piece cut =
      let session = sessions.of number in answered_messages sessions.tree session.who (up_to cut (new_messages session.stream piece))
  answered_of_piece Closing sessions number piece cut = []
  answered_of_piece Unopened sessions number piece cut = []
  answered_of_piece TurnedAway sessions number piece cut = []
  answered_of_piece Away sessions number piece cut = []

  -- of a step
  unfoldable pub answered_of_step : Sessions T W → Step → List (AnsweredMessage T W)
  answered_of_step sessions (Opened number) = []
  answered_of_step sessions (Bytes number piece cut) = answered_of_piece (sessions.of number).state sessions number piece cut
  answered_of_step sessions (Ended number) = []
  answered_of_step sessions (Gone number) = []
  answered_of_step sessions (HungUp number) = []

  -- of steps in their order
  unfoldable pub answered_of_run : Sessions T W → List Step → List (AnsweredMessage T W)
  answered_of_run sessions [] = []
  answered_of_run sessions (next ∷ steps) = answered_of_step sessions next ++ answered_of_run (step rules sessions next) steps

  -- of such steps, each with the hanging up of its connection where it is to be hung up
  unfoldable pub answered_of_replay : Sessions T W → List Step → List (AnsweredMessage T W)
  answered_of_replay sessions [] = []
  answered_of_replay sessions (next ∷ steps) = answered_of_step sessions next ++ answered_of_replay (step_and_hang_up rules sessions next) steps

  -- of a piece, where its connection is held and not closing
  abbrev pub answered_of_kept : Option (Kept W) → T → List ℕ → Option ℕ → List (AnsweredMessage T W)
  answered_of_kept None tree piece cut = []
  answered_of_kept (Some connection) tree piece cut =
      cond connection.closing [] (answered_messages tree connection.who (up_to cut (whole (connection.rest ++ piece))))

  -- of a step, by what is held
  unfoldable pub answered_of_held : Held T W → Step → List (AnsweredMessage T W)
  answered_of_held held (Opened number) = []
  answered_of_held held (Bytes number piece cut) = answered_of_kept (kept_of number held.kept) held.tree piece cut
  answered_of_held held (Ended number) = []
  answered_of_held held (Gone number) = []
  answered_of_held held (HungUp number) = []
