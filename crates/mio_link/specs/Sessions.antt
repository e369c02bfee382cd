-- How many connections may end before a link has no event any more, and how long one may be idle.
use Rattle.std.specs.Prelude.{◌≡◌, ◌⊎◌, ℕ, ◌<◌, ◌≤◌}
use Rattle.plain_values.specs.Counts.{next_count}
use Rattle.mio_link.specs.declared.sockets.Sockets.{Sockets}
use Rattle.mio_link.specs.Numbers.{Leaves, Stays}

-- there is a number of sessions, and as many connections were hung up
abbrev pub HadSessions : Sockets → Type 0
HadSessions sockets = (0 < sockets.sessions) × (sockets.sessions ≤ sockets.ended)

-- the number of sessions, how many of them ended, and the seconds of idle time are as they were
abbrev pub BoundsStay : Sockets → Sockets → Type 0
BoundsStay old new = (new.sessions ≡ old.sessions) × (new.ended ≡ old.ended) × (new.idle ≡ old.idle)

-- a connection of the number was ended, and counts; or none has the number, and nothing changed
abbrev pub IsHungUp : ℕ → Sockets → Sockets → Type 0
IsHungUp number old new =
    (Leaves number old.connections new.connections × (new.ended ≡ next_count old.ended))
    ⊎ (Stays number old.connections new.connections × (new.ended ≡ old.ended))
