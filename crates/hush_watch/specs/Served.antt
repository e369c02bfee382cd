-- The sessions of this server with nothing bounded, and what is held of them whatever of their replies was taken.
use Rattle.std.specs.Prelude.{ℕ}
use Rattle.session_hub.specs.session_model.Run.{Sessions, Step, step}
use Rattle.session_hub.specs.session_model.Kept.{Held}
use Rattle.session_hub.specs.session_model.Keeping.{Keeps, IsNew}
use Rattle.session_hub.specs.session_model.Replaying.{hung_up}
use Rattle.session_hub.specs.Parties.{DirectoryEntries, Requester}
use Rattle.session_hub.specs.Terms.{no_terms}
use Rattle.session_hub.specs.Answering.{rules}

-- sessions over the entries of a directory
abbrev pub ServedSessions : Type 0
ServedSessions = Sessions DirectoryEntries Requester

-- what is held of them
abbrev pub ServedHeld : Type 0
ServedHeld = Held DirectoryEntries Requester

-- what is held is that of these sessions, whatever of their replies was taken
pub record Holds (sessions : ServedSessions) (held : ServedHeld) : Type 0 where
  pub taken : ℕ → ℕ
  pub keeps : Keeps sessions taken held

-- a step that opens no number twice was heard whole: what is held is that of the sessions to which it leads
unfoldable pub Hears : Step → ServedHeld → ServedHeld → Type 0
Hears next old new = (sessions : ServedSessions) → IsNew sessions next → Holds sessions old → Holds (step (rules no_terms) sessions next) new

-- a connection was let go where it is to be hung up
unfoldable pub HangsUp : ℕ → ServedHeld → ServedHeld → Type 0
HangsUp number old new = (sessions : ServedSessions) → Holds sessions old → Holds (hung_up (rules no_terms) number sessions) new
