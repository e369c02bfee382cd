-- What answers a message (RFC 4511 4.1.1), for any tree and any requester. No law on sessions looks inside.
use Rattle.std.specs.Prelude.{ℕ, Bool, true, false, cond, not, ◌&&◌, ◌||◌, List, [], ◌∷◌, ◌++◌, take, Option, Some, None}
use Rattle.ldap_msg.specs.Replies.{notice_octets}

-- what a message brings about: the octets sent back, the octets of the changes that it made, which are to be stored before
-- anything is sent that may show them, the tree and the requester after it, and whether the connection closes
pub record Answered (T W : Type 0) : Type 0 where
  pub replies : List ℕ
  pub changes : List ℕ
  pub tree : T
  pub who : W
  pub closes : Bool

-- who a connection's requester is when it opens, and what answers a whole message over a tree
pub record Rules (T W : Type 0) : Type 0 where
  pub nobody : W
  pub answer : T → W → List ℕ → Answered T W

-- a claim that holds of a tree holds of the tree that each answer leaves of it
abbrev pub AnswersKeep : {T W : Type 0} → Rules T W → (T → Type 0) → Type 0
AnswersKeep {T} {W} rules claim = (tree : T) (who : W) (message : List ℕ) → claim tree → claim (rules.answer tree who message).tree

-- a claim of a tree and of all changes so far holds behind the answer to a message that is allowed, where it held before it
abbrev pub AnswersExtend : {T W : Type 0} → Rules T W → (List ℕ → Type 0) → (T → List ℕ → Type 0) → Type 0
AnswersExtend {T} {W} rules allowed claim =
    (tree : T) (who : W) (message changes : List ℕ) → allowed message → claim tree changes →
    let answered = rules.answer tree who message in claim answered.tree (changes ++ answered.changes)

-- the same answer with these replies and these changes before its own
abbrev pub after_octets : {T W : Type 0} → List ℕ → List ℕ → Answered T W → Answered T W
after_octets replies changes answered =
    record { replies = replies ++ answered.replies; changes = changes ++ answered.changes; tree = answered.tree; who = answered.who; closes = answered.closes }

-- the notice of disconnection where there is a fault
abbrev pub notice_if : Bool → List ℕ
notice_if fault = cond fault notice_octets []

-- the messages up to a cut, if there is one
abbrev pub up_to : Option ℕ → List (List ℕ) → List (List ℕ)
up_to None messages = messages
up_to (Some count) messages = take count messages

-- what ends the answers to a stream's messages: the notice where none of them closes and the stream is broken; a cut
-- closes without a word
abbrev pub ending : {T W : Type 0} → Option ℕ → Bool → Answered T W → Answered T W
ending None broken answered =
    let fault = not answered.closes && broken in
    record { replies = answered.replies ++ notice_if fault; changes = answered.changes; tree = answered.tree; who = answered.who; closes = answered.closes || fault }
ending (Some count) broken answered = record { replies = answered.replies; changes = answered.changes; tree = answered.tree; who = answered.who; closes = true }

module _ {T W : Type 0} (rules : Rules T W) where
  -- messages answered in their order until one closes the connection
  unfoldable pub talk : T → W → List (List ℕ) → Answered T W
  talk tree who [] = record { replies = []; changes = []; tree = tree; who = who; closes = false }
  talk tree who (message ∷ messages) =
      let answered = rules.answer tree who message in
      cond answered.closes answered (after_octets answered.replies answered.changes (talk answered.tree answered.who messages))

  -- the first of them, up to a cut
  abbrev pub talk_first : Option ℕ → T → W → List (List ℕ) → Answered T W
  talk_first cut tree who messages = talk tree who (up_to cut messages)

  -- what is said to messages and what follows them, which is broken or not, up to a cut
  abbrev pub said : Option ℕ → T → W → List (List ℕ) → Bool → Answered T W
  said cut tree who messages broken = ending cut broken (talk_first cut tree who messages)
