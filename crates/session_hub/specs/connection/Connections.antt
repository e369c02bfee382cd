-- What a connection leaves of itself and of the directory when it hears a piece.
use Rattle.std.specs.Prelude.{◌≡◌, ◌⊎◌, ℕ, List, [], ◌++◌}
use Rattle.session_model.specs.ldap_msg.Streams.{whole}
use Rattle.session_model.specs.Rules.{up_to}
use Rattle.session_model.specs.Kept.{Kept, heard_piece}
use Rattle.session_hub.specs.Parties.{DirectoryEntries, Requester}
use Rattle.session_hub.specs.Terms.{Terms}
use Rattle.session_hub.specs.declared.spoken.SpeechEnd.{SpeechEnd}
use Rattle.session_hub.specs.declared.spoken.SpeechEnd.TheVariants.{StaysOpen, Closes, IsCut, IsFull}
use Rattle.session_hub.specs.Answering.{rules}
use Rattle.session_hub.specs.ShortAnswers.{AreAnsweredShort}
use Rattle.session_hub.specs.Answers.{said_to}

-- what is said to an open connection's unread octets and a piece, up to where it was then cut, is queued and done, and the
-- changes are recorded behind those that aren't stored yet; each of the replies is short
pub record HearsPiece (terms : Terms) (piece : List ℕ) (before : DirectoryEntries) (old : Kept Requester) (unstored : List ℕ)
    (after : DirectoryEntries) (new : Kept Requester) (unstored_after : List ℕ) : Type 0 where
  pub kept : new ≡ heard_piece (rules terms) piece new.cut old (said_to terms new.cut before old.who (old.rest ++ piece))
  pub changes : unstored_after ≡ unstored ++ (said_to terms new.cut before old.who (old.rest ++ piece)).changes
  pub entries : after ≡ (said_to terms new.cut before old.who (old.rest ++ piece)).tree
  pub short : AreAnsweredShort terms before old.who (up_to new.cut (whole (old.rest ++ piece)))

-- what was unread stays where the connection does, and else nothing; where there is no room for it the connection is cut
abbrev pub KeepsRest : SpeechEnd → List ℕ → List ℕ → SpeechEnd → Type 0
KeepsRest ended unread rest StaysOpen = (ended ≡ StaysOpen) × (rest ≡ unread)
KeepsRest ended unread rest Closes = (ended ≡ Closes) × (rest ≡ [])
KeepsRest ended unread rest IsFull = (ended ≡ IsFull) × (rest ≡ [])
KeepsRest ended unread rest IsCut = ((ended ≡ StaysOpen) ⊎ (ended ≡ IsCut)) × (rest ≡ [])
