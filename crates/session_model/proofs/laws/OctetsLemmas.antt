-- Messages are made of the octets that were heard: what holds of each of these holds of each octet of a message.
use Rattle.std.proofs.Common.{ℕ, zero, suc, ◌==◌, Bool, true, false, cond, List, [], ◌∷◌, ◌++◌, length, take, drop, Option, Some, None, subst}
use Rattle.std.specs.List.{AllByRecursion}
use Rattle.ldap_msg.specs.Streams.{whole, rest_of, joined}
use Rattle.ldap_msg.proofs.Theorems.{whole_parts}
use Rattle.session_model.specs.Rules.{Rules, up_to}
use Rattle.session_model.specs.Run.{Session, Sessions, State, Open, Closing, TurnedAway, Away, Unopened, Step, Opened, Bytes, Ended, Gone, HungUp, step, hears, ended, start, new_messages}
use Rattle.session_model.specs.AnsweredMessages.{AnsweredMessage, answered_messages, answered_of_piece, answered_of_step, answered_of_run}
use Rattle.session_model.specs.Hearing.{octets_of, BringOnly}
use Rattle.session_model.proofs.laws.AlikeLemmas.{all_append, all_both}

-- what holds of each of a list holds of its first, and of those behind them
all_take : {A : Type 0} (P : A → Type 0) (n : ℕ) (xs : List A) → AllByRecursion P xs → AllByRecursion P (take n xs)
all_take P zero xs all = tt
all_take P (suc n) [] all = tt
all_take P (suc n) (x ∷ xs) all = (all.0, all_take P n xs all.1)

all_drop : {A : Type 0} (P : A → Type 0) (n : ℕ) (xs : List A) → AllByRecursion P xs → AllByRecursion P (drop n xs)
all_drop P zero xs all = all
all_drop P (suc n) [] all = tt
all_drop P (suc n) (x ∷ xs) all = all_drop P n xs all.1

module _ (Q : ℕ → Type 0) where
  abbrev All : List ℕ → Type 0
  All octets = AllByRecursion Q octets

  -- the octets of joined messages are those of each
  all_joined : (messages : List (List ℕ)) → All (joined messages) → AllByRecursion All messages
  all_joined [] all = tt
  all_joined (message ∷ messages) all = let parts = all_append Q message (joined messages) all in (parts.0, all_joined messages parts.1)

  all_whole : (stream : List ℕ) → All stream → AllByRecursion All (whole stream)
  all_whole stream all =
      all_joined (whole stream) (all_append Q (joined (whole stream)) (rest_of stream) (subst All (whole_parts stream).joins all)).0

  all_new : (stream piece : List ℕ) → All stream → All piece → AllByRecursion All (new_messages stream piece)
  all_new stream piece old new =
      all_drop All (length (whole stream)) (whole (stream ++ piece)) (all_whole (stream ++ piece) (all_both Q stream piece old new))

  all_up_to : (cut : Option ℕ) (messages : List (List ℕ)) → AllByRecursion All messages → AllByRecursion All (up_to cut messages)
  all_up_to None messages all = all
  all_up_to (Some count) messages all = all_take All count messages all

  module _ {T W : Type 0} (r : Rules T W) where
    abbrev Answers : List (AnsweredMessage T W) → Type 0
    Answers asked = AllByRecursion (λ one. All one.message) asked

    messages_of : (t : T) (w : W) (messages : List (List ℕ)) → AllByRecursion All messages → Answers (answered_messages r t w messages)
    unfolding answered_messages
    messages_of t w [] all = tt
    messages_of t w (message ∷ messages) all =
        let a = r.answer t w message in (all.0, by_close a.closes (messages_of a.tree a.who messages all.1))
      where
        by_close : (closes : Bool) → let a = r.answer t w message in Answers (answered_messages r a.tree a.who messages)
            → Answers (cond closes [] (answered_messages r a.tree a.who messages))
        by_close true later = tt
        by_close false later = later

    -- all octets heard so far
    abbrev Heard : Sessions T W → Type 0
    Heard u = (c : ℕ) → All (u.of c).stream

    piece_of : (st : State) (u : Sessions T W) (c : ℕ) (piece : List ℕ) (cut : Option ℕ) → Heard u → All piece → Answers (answered_of_piece r st u c piece cut)
    piece_of Open u c piece cut old new =
        let s = u.of c in messages_of u.tree s.who (up_to cut (new_messages s.stream piece)) (all_up_to cut (new_messages s.stream piece) (all_new s.stream piece (old c) new))
    piece_of Closing u c piece cut old new = tt
    piece_of Unopened u c piece cut old new = tt
    piece_of TurnedAway u c piece cut old new = tt
    piece_of Away u c piece cut old new = tt

    step_answers : (u : Sessions T W) (next : Step) → Heard u → All (octets_of next) → Answers (answered_of_step r u next)
    unfolding answered_of_step
    step_answers u (Opened c) old new = tt
    step_answers u (Bytes c piece cut) old new = piece_of (u.of c).state u c piece cut old new
    step_answers u (Ended c) old new = tt
    step_answers u (Gone c) old new = tt
    step_answers u (HungUp c) old new = tt

    -- the session of one number, and those of the others
    one_of : (same : Bool) (s t : Session W) → All s.stream → All t.stream → All (cond same s t).stream
    one_of true s t first other = first
    one_of false s t first other = other

    hears_all : (st : State) (u : Sessions T W) (c : ℕ) (piece : List ℕ) (cut : Option ℕ) → Heard u → All piece → Heard (hears r st u c piece cut)
    hears_all Open u c piece cut old new = λ other. one_of (other == c) _ (u.of other) (all_both Q (u.of c).stream piece (old c) new) (old other)
    hears_all Closing u c piece cut old new = old
    hears_all Unopened u c piece cut old new = old
    hears_all TurnedAway u c piece cut old new = old
    hears_all Away u c piece cut old new = old

    -- the end of a peer's octets brings none
    ended_all : (st : State) (s : Session W) → All s.stream → All (ended st s).stream
    ended_all Open s all = all
    ended_all Closing s all = all
    ended_all Unopened s all = all
    ended_all TurnedAway s all = all
    ended_all Away s all = all

    step_all : (u : Sessions T W) (next : Step) → Heard u → All (octets_of next) → Heard (step r u next)
    unfolding step
    step_all u (Opened c) old new = λ other. one_of (other == c) _ (u.of other) tt (old other)
    step_all u (Bytes c piece cut) old new = hears_all (u.of c).state u c piece cut old new
    step_all u (Ended c) old new = λ other. one_of (other == c) _ (u.of other) (ended_all (u.of c).state (u.of c) (old c)) (old other)
    step_all u (Gone c) old new = λ other. one_of (other == c) _ (u.of other) (old c) (old other)
    step_all u (HungUp c) old new = λ other. one_of (other == c) _ (u.of other) (old c) (old other)

    run_answers : (u : Sessions T W) (steps : List Step) → Heard u → BringOnly Q steps → Answers (answered_of_run r u steps)
    unfolding answered_of_run
    run_answers u [] old new = tt
    run_answers u (next ∷ steps) old new =
        all_both (λ one. All one.message) (answered_of_step r u next) (answered_of_run r (step r u next) steps)
        (step_answers u next old new.0) (run_answers (step r u next) steps (step_all u next old new.0) new.1)

    -- each message that is answered is made of octets that the steps brought
    pub run_brings : (t : T) (steps : List Step) → BringOnly Q steps → Answers (answered_of_run r (start r t) steps)
    unfolding start
    run_brings t steps new = run_answers (start r t) steps (λ c. tt) new
