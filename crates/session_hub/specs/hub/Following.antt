-- A hub follows a run of sessions: it begins with those before any step and, whatever sessions it holds, each call leaves it
-- those of the next step.
use Rattle.std.specs.Prelude.{◌≡◌, ℕ, Bool, cond, List, [], length, Option, Some, None}
use Rattle.std.specs.Option.{option_map_or}
use Rattle.session_model.specs.ldap_msg.Streams.{rest_of}
use Rattle.session_model.specs.Run.{Sessions, Step, start, step, is_held, held_numbers}
use Rattle.session_model.specs.Kept.{Held}
use Rattle.session_model.specs.Keeping.{Keeps, IsNew, more_taken}
use Rattle.session_model.specs.Replaying.{is_closing}
use Rattle.session_model.specs.Places.{asker_of}
use Rattle.session_hub.specs.Parties.{DirectoryEntries, Requester}
use Rattle.session_hub.specs.Terms.{Terms}
use Rattle.session_hub.specs.Answering.{rules}
use Rattle.session_hub.specs.hub.Hubs.{HubState, held, left_of}

-- what is held is that of these sessions, of which so much of each reply was taken
abbrev pub IsHeldOf : Sessions DirectoryEntries Requester → (ℕ → ℕ) → Held DirectoryEntries Requester → Type 0
IsHeldOf sessions taken kept = Keeps sessions taken kept

-- the sessions before any step, of whose replies nothing was taken
unfoldable pub FollowsStart : HubState → Type 0
FollowsStart hub = (entries : DirectoryEntries) → IsHeldOf (start (rules hub.bounds.terms) entries) (λ number. 0) (held entries hub)

-- a step that opens no number twice leaves the sessions of a run after it, with as much taken as before
unfoldable pub FollowsStep : Terms → Step → Held DirectoryEntries Requester → Held DirectoryEntries Requester → Type 0
FollowsStep terms next old new =
    (sessions : Sessions DirectoryEntries Requester) (taken : ℕ → ℕ) → IsNew sessions next → IsHeldOf sessions taken old → IsHeldOf (step (rules terms) sessions next) taken new

-- the same, whatever the entries are
abbrev pub FollowsAnywhere : Step → HubState → HubState → Type 0
FollowsAnywhere next old new = (entries : DirectoryEntries) → FollowsStep old.bounds.terms next (held entries old) (held entries new)

-- so many more octets of one connection's reply were taken, of the same sessions
unfoldable pub FollowsTaking : ℕ → ℕ → HubState → HubState → Type 0
FollowsTaking number count old new =
    (entries : DirectoryEntries) (sessions : Sessions DirectoryEntries Requester) (taken : ℕ → ℕ) →
    IsHeldOf sessions taken (held entries old) → IsHeldOf sessions (more_taken number count taken) (held entries new)

-- the queue is what of the reply wasn't taken yet, for a connection that is held, and else empty
unfoldable pub QueuesReply : ℕ → HubState → List ℕ → Type 0
QueuesReply number hub queue =
    (entries : DirectoryEntries) (sessions : Sessions DirectoryEntries Requester) (taken : ℕ → ℕ) → IsHeldOf sessions taken (held entries hub) → queue ≡ left_of (sessions.of number) (taken number)

-- a connection is closing where its session is
unfoldable pub ClosesWith : ℕ → HubState → Bool → Type 0
ClosesWith number hub closing =
    (entries : DirectoryEntries) (sessions : Sessions DirectoryEntries Requester) (taken : ℕ → ℕ) → IsHeldOf sessions taken (held entries hub) → closing ≡ is_closing (sessions.of number).state

-- the requester is that of the session, of a connection that is held
unfoldable pub RequestsAs : ℕ → HubState → Option Requester → Type 0
RequestsAs number hub who =
    (entries : DirectoryEntries) (sessions : Sessions DirectoryEntries Requester) (taken : ℕ → ℕ) → IsHeldOf sessions taken (held entries hub) →
    who ≡ cond (is_held (sessions.of number).state) (Some (sessions.of number).who) None

-- what is unread is the rest of the session's stream, of a connection that is open, and else nothing
unfoldable pub LeavesUnread : ℕ → HubState → List ℕ → Type 0
LeavesUnread number hub unread =
    (entries : DirectoryEntries) (sessions : Sessions DirectoryEntries Requester) (taken : ℕ → ℕ) → IsHeldOf sessions taken (held entries hub) →
    unread ≡ option_map_or (λ who. rest_of (sessions.of number).stream) (asker_of (sessions.of number)) []

-- as many connections are held as sessions
unfoldable pub CountsHeld : HubState → ℕ → Type 0
CountsHeld hub count =
    (entries : DirectoryEntries) (sessions : Sessions DirectoryEntries Requester) (taken : ℕ → ℕ) → IsHeldOf sessions taken (held entries hub) → count ≡ length (held_numbers sessions)
