-- When the connections that a server holds are those of a run of sessions, of which so much of each reply was taken.
use Rattle.std.specs.Prelude.{◌≡◌, ◌≤◌, ℕ, ◌==◌, ◌+◌, true, false, cond, [], drop, length, map, Option, Some, None}
pub use Rattle.wire_io.specs.plain_values.Numbers.{has as is_listed}
use Rattle.ldap_msg.specs.Streams.{rest_of}
use Rattle.session_model.specs.Run.{Session, Sessions, State, Open, Closing, TurnedAway, Away, Unopened, is_held, held_numbers, Step, Opened, Bytes, Ended, Gone, HungUp}
use Rattle.session_model.specs.Kept.{Kept, Held, kept_of}

-- what is kept of a session, if it is held: the rest of its stream while it is open, and the reply beyond what was taken
abbrev pub shown : {W : Type 0} → State → ℕ → ℕ → Session W → Option (Kept W)
shown Open number taken session =
    Some (record { number = number; rest = rest_of session.stream; who = session.who; queue = drop taken session.reply; closing = false; cut = session.cut })
shown Closing number taken session =
    Some (record { number = number; rest = []; who = session.who; queue = drop taken session.reply; closing = true; cut = session.cut })
shown Unopened number taken session = None
shown TurnedAway number taken session = None
shown Away number taken session = None

-- the tree and the connections held are those of these sessions
pub record Keeps {T W : Type 0} (sessions : Sessions T W) (taken : ℕ → ℕ) (held : Held T W) : Type 0 where
  pub tree : held.tree ≡ sessions.tree
  pub numbers : map (λ connection. connection.number) held.kept ≡ held_numbers sessions
  pub each : (number : ℕ) → kept_of number held.kept ≡ shown (sessions.of number).state number (taken number) (sessions.of number)
  pub within : (number : ℕ) → taken number ≤ length (sessions.of number).reply
  pub unopened : (number : ℕ) → is_listed number sessions.opened ≡ false → ((sessions.of number).reply ≡ []) × (is_held (sessions.of number).state ≡ false)

-- so many more octets of one connection's reply were taken
abbrev pub more_taken : ℕ → ℕ → (ℕ → ℕ) → ℕ → ℕ
more_taken number count taken other = cond (other == number) (taken other + count) (taken other)

-- a step opens no number that was opened before
abbrev pub IsNew : {T W : Type 0} → Sessions T W → Step → Type 0
IsNew sessions (Opened number) = is_listed number sessions.opened ≡ false
IsNew sessions (Bytes number piece cut) = Unit {0}
IsNew sessions (Ended number) = Unit {0}
IsNew sessions (Gone number) = Unit {0}
IsNew sessions (HungUp number) = Unit {0}
