-- A watch over a replay: what each event, and each message within it, shows of the hush of a subtree for a connection.
use Rattle.std.specs.Prelude.{◌≡◌, ℕ, List, ◌++◌, length, Option, None, option_map}
use Rattle.dir_tree.specs.dn_names.name.Names.{RdnSequence}
use Rattle.session_hub.specs.session_model.Run.{Step, Bytes, step, start}
use Rattle.session_hub.specs.session_model.Keeping.{IsNew}
use Rattle.session_hub.specs.session_model.Replaying.{step_and_hang_up, replayed}
use Rattle.session_hub.specs.session_model.Joined.{LeavesAlike}
use Rattle.session_hub.specs.session_model.Places.{CompletesOne, standing_behind, places_of_step, places_from}
use Rattle.session_hub.specs.Parties.{DirectoryEntries}
use Rattle.session_hub.specs.Terms.{no_terms}
use Rattle.session_hub.specs.Answering.{rules}
use Rattle.hush_laws.specs.declared.part.Part.{Part}
use Rattle.hush_laws.specs.declared.fault.Fault.{Fault}
use Rattle.hush_laws.specs.Hush.{broken_part, fault_at, first_fault}
use Rattle.hush_looks.specs.Looks.{failing_standing}
use Rattle.hush_watch.specs.Served.{ServedSessions, ServedHeld, Holds}

-- a part as a fault behind so many events
abbrev pub fault_of : ℕ → Option Part → Option Fault
fault_of heard found = option_map (λ part. record { heard = heard; part = part }) found

module _ (number : ℕ) (top : RdnSequence) (before : DirectoryEntries) where
  -- what is held is that of these sessions, and no part of being twins fails where they stand
  pub record IsWatched (sessions : ServedSessions) (held : ServedHeld) : Type 0 where
    pub holds : Holds sessions held
    pub passes : failing_standing top before number sessions ≡ None

  -- so of some sessions
  pub record IsWatchedOfSome (held : ServedHeld) : Type 0 where
    pub sessions : ServedSessions
    pub watched : IsWatched sessions held

  -- what breaks the hush first among the places of a step
  abbrev pub shown_by : ℕ → ServedSessions → Step → Option Fault
  shown_by heard sessions next = first_fault (fault_at top before) (places_of_step (rules no_terms) (step_and_hang_up (rules no_terms)) number heard sessions next)

  -- a step shows this part first; and where it shows none, the sessions to which it leads are held then, and watched
  pub record IsShown (after : ServedSessions → Step → ServedSessions) (sessions : ServedSessions) (next : Step) (found : Option Part) (new : ServedHeld) : Type 0 where
    pub part : (heard : ℕ) → shown_by heard sessions next ≡ fault_of heard found
    pub goes_on : found ≡ None → IsWatched (after sessions next) new

  -- so whatever sessions are watched
  unfoldable pub Shows : (ServedSessions → Step → ServedSessions) → Step → ServedHeld → Option Part → ServedHeld → Type 0
  Shows after next old found new = (sessions : ServedSessions) → IsNew sessions next → IsWatched sessions old → IsShown after sessions next found new

  -- the place behind a message of some connection, where these sessions stand, breaks this part; and where it breaks none, they
  -- are held then, and watched
  pub record IsShownBehind (other : ℕ) (message : List ℕ) (sessions : ServedSessions) (found : Option Part) (new : ServedHeld) : Type 0 where
    pub part : (heard : ℕ) → broken_part top before (standing_behind number heard other message sessions) ≡ found
    pub goes_on : found ≡ None → IsWatched sessions new

  -- so whatever sessions are watched of which the piece completes the message
  unfoldable pub ShowsMessage : ℕ → List ℕ → List ℕ → ServedHeld → Option Part → ServedHeld → Type 0
  ShowsMessage other piece message old found new =
      (sessions : ServedSessions) → IsWatched sessions old → CompletesOne sessions other piece message →
      IsShownBehind other message (step (rules no_terms) sessions (Bytes other piece None)) found new

  -- what is left of a piece of octets shows what the whole of it does, and leaves the sessions alike
  pub record IsLed (other : ℕ) (piece : List ℕ) (first : ServedSessions) (rest : List ℕ) (new : ServedHeld) : Type 0 where
    pub sessions : ServedSessions
    pub watched : IsWatched sessions new
    pub places : (heard : ℕ) → shown_by heard first (Bytes other piece None) ≡ shown_by heard sessions (Bytes other rest None)
    pub alike : LeavesAlike other (step (rules no_terms) sessions (Bytes other rest None)) (step (rules no_terms) first (Bytes other piece None))

  -- so whatever sessions were watched before the piece
  unfoldable pub Leads : ℕ → List ℕ → ServedHeld → List ℕ → ServedHeld → Type 0
  Leads other piece old rest new = (first : ServedSessions) → IsWatched first old → IsLed other piece first rest new

  -- what breaks the hush first in a replay of events behind its beginning
  abbrev pub first_shown : List Step → Option Fault
  first_shown steps = first_fault (fault_at top before) (places_from (rules no_terms) (step_and_hang_up (rules no_terms)) number 0 (start (rules no_terms) before) steps)

  -- the sessions that events lead to are held and watched, and those that are left show what all do
  pub record IsAhead (early late : List Step) (held : ServedHeld) : Type 0 where
    pub watched : IsWatched (replayed (rules no_terms) before early) held
    pub places : first_shown (early ++ late)
        ≡ first_fault (fault_at top before) (places_from (rules no_terms) (step_and_hang_up (rules no_terms)) number (length early) (replayed (rules no_terms) before early) late)
