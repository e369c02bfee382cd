-- The numbers of connections: which of them stands at a place, and which one the next connection has.
use Rattle.std.specs.Prelude.{◌≡◌, ◌≢◌, ◌⊎◌, ℕ, ◌+◌, ◌-◌, ◌^◌, ◌<◌, Bool, true, false, ◌==◌, nat_lt, if◌then◌else◌, Option, Some, None, slice_index_or, slice_set, length}
use Rattle.wire_io.specs.declared.answers.Heard.{Heard}
use Rattle.wire_io.specs.declared.answers.Heard.TheVariants as heard
use Rattle.mio_link.specs.declared.connection.Connection.{Connection}
use Rattle.mio_link.specs.declared.connections.Connections.{Connections}

-- the connection of the number stands at this place
abbrev pub stands : {S : Type 0} → ℕ → Option (Connection S) → Bool
stands number None = false
stands number (Some connection) = connection.number == number

-- the number of the connection that stands at this place
abbrev pub number_of : {S : Type 0} → Option (Connection S) → Option ℕ
number_of None = None
number_of (Some connection) = Some connection.number

-- the number of the one that stands at the place of this index
abbrev pub number_at : Connections → ℕ → Option ℕ
number_at connections place = number_of (slice_index_or connections.places.items place None)

-- a place where the number stood is free, and the others are as they were
abbrev pub Leaves : ℕ → Connections → Connections → Type 0
Leaves number old new =
    (place : ℕ) × (number_at old place ≡ Some number) × (new.places.items ≡ slice_set old.places.items place None)

-- each connection stands where it stood, and no other
abbrev pub AllStand : Connections → Connections → Type 0
AllStand old new = (place : ℕ) → number_at new place ≡ number_at old place

-- each connection stands where it stood
abbrev pub Stand : Connections → Connections → Type 0
Stand old new = (place number : ℕ) → number_at old place ≡ Some number → number_at new place ≡ Some number

-- no connection has the number
abbrev pub IsNowhere : ℕ → Connections → Type 0
IsNowhere number connections = (place : ℕ) → number_at connections place ≢ Some number

-- none has it, and nothing changed
abbrev pub Stays : ℕ → Connections → Connections → Type 0
Stays number old new = IsNowhere number old × (new ≡ old)

-- one of the number was ended where there is one, and otherwise nothing changed
abbrev pub Ends : Bool → ℕ → Connections → Connections → Type 0
Ends true number old new = Leaves number old new
Ends false number old new = Stays number old new

-- it is on hold, where one stands there
abbrev pub hold_of : {S : Type 0} → Option (Connection S) → Option Bool
hold_of None = None
hold_of (Some connection) = Some connection.is_on_hold

-- the one at the place of this index is
abbrev pub hold_at : Connections → ℕ → Option Bool
hold_at connections place = hold_of (slice_index_or connections.places.items place None)

-- a connection of the number was put on hold, or released; or none has the number, and nothing changed
abbrev pub SetsHold : Bool → ℕ → Connections → Connections → Type 0
SetsHold is_on_hold number old new =
    ((place : ℕ) × (number_at old place ≡ Some number) × (hold_at new place ≡ Some is_on_hold)) ⊎ Stays number old new

-- the one that stands there waits for the disk
abbrev pub is_put_off : {S : Type 0} → Option (Connection S) → Bool
is_put_off None = false
is_put_off (Some connection) = connection.is_put_off

-- the one that stands at the place of this index does
abbrev pub is_put_off_at : Connections → ℕ → Bool
is_put_off_at connections place = is_put_off (slice_index_or connections.places.items place None)

-- a connection of the number waits for the disk now; or none has the number, and nothing changed
abbrev pub PutsOff : ℕ → Connections → Connections → Type 0
PutsOff number old new =
    ((place : ℕ) × (number_at old place ≡ Some number) × (is_put_off_at new place ≡ true)) ⊎ Stays number old new

-- the place of this index is one of theirs, and free
abbrev pub IsFree : Connections → ℕ → Type 0
IsFree connections place = (place < length connections.places.items) × (number_at connections place ≡ None)

-- none of them does
abbrev pub AreLetGo : Connections → Type 0
AreLetGo connections = (place : ℕ) → place < 257 → is_put_off_at connections place ≡ false

-- the number after this one, as long as there is one
abbrev pub number_after : ℕ → Option ℕ
number_after number = if nat_lt number (2 ^ 32 - 1) then Some (number + 1) else None

-- the number of the next connection was this one, and is the one after it
abbrev pub IsTaken : ℕ → Option ℕ → Option ℕ → Type 0
IsTaken number old new = (old ≡ Some number) × (new ≡ number_after number)

-- a connection has the number that was the next one; one that is opened at once is opened under it
abbrev pub TakesNext : Option ℕ → Option ℕ → Heard → Type 0
TakesNext old new (heard.Opened conn) = IsTaken conn old new
TakesNext old new (heard.Ended conn) = (number : ℕ) × IsTaken number old new
TakesNext old new (heard.Bytes conn count) = ⊥
TakesNext old new (heard.Ready conn) = ⊥
TakesNext old new heard.Idle = ⊥
TakesNext old new heard.Stop = ⊥

-- where another's end makes room for a connection of this number, it waits at the place that is noted
abbrev pub WaitsFor : Option ℕ → Option ℕ → Connections → Heard → Type 0
WaitsFor number newcomer connections (heard.Ended conn) =
    (place : ℕ) × (newcomer ≡ Some place) × (number_at connections place ≡ number)
WaitsFor number newcomer connections (heard.Opened conn) = Unit {0}
WaitsFor number newcomer connections (heard.Bytes conn count) = Unit {0}
WaitsFor number newcomer connections (heard.Ready conn) = Unit {0}
WaitsFor number newcomer connections heard.Idle = Unit {0}
WaitsFor number newcomer connections heard.Stop = Unit {0}

-- a connection is opened under this number
abbrev pub IsOpenedAs : Option ℕ → Heard → Type 0
IsOpenedAs number (heard.Opened conn) = number ≡ Some conn
IsOpenedAs number (heard.Ended conn) = ⊥
IsOpenedAs number (heard.Bytes conn count) = ⊥
IsOpenedAs number (heard.Ready conn) = ⊥
IsOpenedAs number heard.Idle = ⊥
IsOpenedAs number heard.Stop = ⊥

-- what is heard is of the connection of this number; nothing need stand there where nothing is heard
abbrev pub IsOf : Option ℕ → Heard → Type 0
IsOf number (heard.Opened conn) = number ≡ Some conn
IsOf number (heard.Bytes conn count) = number ≡ Some conn
IsOf number (heard.Ready conn) = number ≡ Some conn
IsOf number (heard.Ended conn) = number ≡ Some conn
IsOf number heard.Idle = Unit {0}
IsOf number heard.Stop = ⊥

-- it is of one that stands at a place
abbrev pub IsOfOne : Connections → Heard → Type 0
IsOfOne connections heard = (place : ℕ) × IsOf (number_at connections place) heard

-- a connection's end
abbrev pub IsEnd : Heard → Type 0
IsEnd (heard.Ended conn) = Unit {0}
IsEnd (heard.Opened conn) = ⊥
IsEnd (heard.Bytes conn count) = ⊥
IsEnd (heard.Ready conn) = ⊥
IsEnd heard.Idle = ⊥
IsEnd heard.Stop = ⊥
