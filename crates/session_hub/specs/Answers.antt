-- What an answered message, and an answered stream, leave.
use Rattle.std.specs.Prelude.{◌≡◌, ◌≤◌, ◌<◌, ◌+◌, ◌⊎◌, ℕ, Bool, true, false, List, [], ◌++◌, length, drop, Option, Some, None}
use Rattle.session_model.specs.ldap_msg.Streams.{whole, rest_of}
use Rattle.session_model.specs.ldap_msg.Replies.{notice_octets}
use Rattle.session_model.specs.Rules.{Answered, after_octets, up_to}
use Rattle.session_model.specs.Kept.{speech}
use Rattle.session_hub.specs.Parties.{DirectoryEntries, Requester}
use Rattle.session_hub.specs.Terms.{Terms}
use Rattle.session_hub.specs.declared.spoken.Spoken.{Spoken}
use Rattle.session_hub.specs.declared.spoken.SpeechEnd.{SpeechEnd}
use Rattle.session_hub.specs.declared.spoken.SpeechEnd.TheVariants.{StaysOpen, Closes, IsCut, IsFull}
use Rattle.session_hub.specs.Outgoing.{Put}
use Rattle.session_hub.specs.Answering.{rules, Operated, sent_octets}
use Rattle.session_hub.specs.ShortAnswers.{AreShortReplies, AreAnsweredShort}
use Rattle.session_hub.specs.Rooms.{HasRoom, queued_after}

-- the octets put of replies and of changes, the entries and the requester left, and whether the connection closes are those of
-- the answer
pub record Gives (answered : Answered DirectoryEntries Requester) (old new : Put) (entries : DirectoryEntries) (who : Requester) (closes : Bool) : Type 0 where
  pub said : new.replies ≡ old.replies ++ answered.replies
  pub recorded : new.changes ≡ old.changes ++ answered.changes
  pub left : entries ≡ answered.tree
  pub asker : who ≡ answered.who
  pub closed : closes ≡ answered.closes

-- what was sent is the replies of an operation to the message of this number, each of which is short, and the entries and the
-- requester are those that it leaves
pub record Sends (id : ℕ) (came : Operated) (old new : List ℕ) (entries : DirectoryEntries) (who : Requester) : Type 0 where
  pub said : new ≡ old ++ sent_octets id came.replies came.cookie
  pub short : AreShortReplies id came
  pub left : entries ≡ came.entries
  pub asker : who ≡ came.who

-- what is said to a stream by this server, up to a cut
abbrev pub said_to : Terms → Option ℕ → DirectoryEntries → Requester → List ℕ → Answered DirectoryEntries Requester
said_to terms cut entries who stream = speech (rules terms) cut entries who stream

-- whether a stream's connection closes at its end
abbrev pub closes_at : SpeechEnd → Bool
closes_at StaysOpen = false
closes_at Closes = true
closes_at IsCut = true
closes_at IsFull = true

-- where it was cut, behind so many messages
abbrev pub cut_at : SpeechEnd → ℕ → Option ℕ
cut_at StaysOpen answered = None
cut_at Closes answered = None
cut_at IsCut answered = Some answered
cut_at IsFull answered = Some answered

-- a stream is answered: what was sent is what is said to it, up to where it was cut; where the connection stays open, so
-- many octets were read, and a cut behind all of its messages would leave the same and close; where it ends since the queue
-- is full, the queue is longer than the room, and it never was before a message that was answered, but for the first; the
-- messages that were answered are among those of the stream, each of their replies is short, and behind their answers there is
-- nothing but, it may be, a notice
pub record Speaks (terms : Terms) (room : ℕ) (before : DirectoryEntries) (asks : Requester) (stream : List ℕ) (old new : Put) (entries : DirectoryEntries) (who : Requester) (spoken : Spoken) : Type 0 where
  pub gives : Gives (said_to terms (cut_at spoken.end spoken.answered) before asks stream) old new entries who (closes_at spoken.end)
  pub within : spoken.read ≤ length stream
  pub unread : spoken.end ≡ StaysOpen → drop spoken.read stream ≡ rest_of stream
  pub cuts : spoken.end ≡ StaysOpen → Gives (said_to terms (Some spoken.answered) before asks stream) old new entries who true
  pub full : spoken.end ≡ IsFull → room < length new.replies
  pub spare : HasRoom terms room before asks stream old.replies spoken.answered
  pub complete : spoken.answered ≤ length (whole stream)
  pub short : AreAnsweredShort terms before asks (up_to (cut_at spoken.end spoken.answered) (whole stream))
  pub ending : List ℕ
  pub queued : new.replies ≡ queued_after terms before asks stream old.replies spoken.answered ++ ending
  pub notice : (ending ≡ []) ⊎ (ending ≡ notice_octets)

-- where its first answer was given: a message was answered, or a notice closed it
abbrev pub GaveFirst : Spoken → Type 0
GaveFirst spoken = (spoken.end ≡ Closes) ⊎ (0 < spoken.answered)

-- an end stays, but where a stream that stays open is cut
abbrev pub MayCut : SpeechEnd → SpeechEnd → Type 0
MayCut old new = (new ≡ old) ⊎ ((old ≡ StaysOpen) × (new ≡ IsCut))

-- a cut so many messages later
abbrev pub behind : ℕ → Option ℕ → Option ℕ
behind answered None = None
behind answered (Some count) = Some (answered + count)

-- how far a stream was answered: whatever cut may follow, what was said so far and what is said to the rest is what is
-- said to the stream, and each of its replies is short where those to the rest are
pub record SaysSoFar (terms : Terms) (room : ℕ) (before : DirectoryEntries) (asks : Requester) (stream : List ℕ) (old now : Put) (entries : DirectoryEntries) (who : Requester) (read answered : ℕ) : Type 0 where
  pub more : Put
  pub said_more : now.replies ≡ old.replies ++ more.replies
  pub recorded_more : now.changes ≡ old.changes ++ more.changes
  pub within : read ≤ length stream
  pub counts : answered ≤ read
  pub complete : length (whole stream) ≡ answered + length (whole (drop read stream))
  pub rest : rest_of (drop read stream) ≡ rest_of stream
  pub said : (cut : Option ℕ) → said_to terms (behind answered cut) before asks stream ≡ after_octets more.replies more.changes (said_to terms cut entries who (drop read stream))
  pub spare : HasRoom terms room before asks stream old.replies answered
  pub short : (cut : Option ℕ) → AreAnsweredShort terms entries who (up_to cut (whole (drop read stream)))
      → AreAnsweredShort terms before asks (up_to (behind answered cut) (whole stream))
