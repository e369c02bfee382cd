-- The link over the system's sockets, of which contracts see its counts, and what its store has come to.
use Rattle.std.specs.Prelude.{◌≡◌, ℕ, ◌+◌, ◌≤◌, Bool}
use Rattle.mio_link.specs.declared.link.MioLink.{MioLink}
use Rattle.mio_link.specs.declared.store.Store.TheVariants.{Failed}
use Rattle.wire_io.specs.declared.answers.Heard.{Heard}
use Rattle.mio_link.specs.Numbers.{AllStand, AreLetGo, IsNowhere, IsOfOne, PutsOff, SetsHold, Stand}
use Rattle.mio_link.specs.Sessions.{BoundsStay, HadSessions, IsHungUp}
use Rattle.mio_link.specs.Store.{is_open, awaits_disk, put_offs}

-- how many faults of `open` and `next` the link had
abbrev pub link_faults : {R : Type 0} → MioLink R → ℕ
link_faults link = link.faults

-- how many faults of the calls of its store
abbrev pub store_faults : {R : Type 0} → MioLink R → ℕ
store_faults link = link.store_faults

-- how many connections it found lost
abbrev pub lost_connections : {R : Type 0} → MioLink R → ℕ
lost_connections link = link.lost

-- how many calls there was no memory for
abbrev pub refused_calls : {R : Type 0} → MioLink R → ℕ
refused_calls link = link.refusals

-- the file of its store is open, and no call of the store failed
abbrev pub has_store : {R : Type 0} → MioLink R → Bool
has_store link = is_open link.store

-- the disk may lack octets that were stored, or a call of the store failed
abbrev pub waits_for_disk : {R : Type 0} → MioLink R → Bool
waits_for_disk link = awaits_disk link.store

-- how often the wait for the disk was put off since the disk had all
abbrev pub times_put_off : {R : Type 0} → MioLink R → ℕ
times_put_off link = put_offs link.store

-- the wait was put off once more, and 256 times at most
abbrev pub IsPutOffOnce : {R : Type 0} → MioLink R → MioLink R → Type 0
IsPutOffOnce old new = (times_put_off new ≡ times_put_off old + 1) × (times_put_off new ≤ 256)

-- no connection waits for the disk any more
abbrev pub NoneWaits : {R : Type 0} → MioLink R → Type 0
NoneWaits link = AreLetGo link.sockets.connections

-- a connection of the number was ended, and counts; or none has the number, and nothing changed
abbrev pub HangsUp : {R : Type 0} → ℕ → MioLink R → MioLink R → Type 0
HangsUp number old new = IsHungUp number old.sockets new.sockets

-- a connection of the number was put on hold, or released; or none has the number, and nothing changed
abbrev pub Holds : {R : Type 0} → Bool → ℕ → MioLink R → MioLink R → Type 0
Holds is_on_hold number old new = SetsHold is_on_hold number old.sockets.connections new.sockets.connections

-- a connection of the number waits for the disk; or none has the number, and nothing changed
abbrev pub Defers : {R : Type 0} → ℕ → MioLink R → MioLink R → Type 0
Defers number old new = PutsOff number old.sockets.connections new.sockets.connections

-- each connection stands where it stood, and no other
abbrev pub KeepsConnections : {R : Type 0} → MioLink R → MioLink R → Type 0
KeepsConnections old new = AllStand old.sockets.connections new.sockets.connections

-- each connection stands where it stood
abbrev pub KeepsEach : {R : Type 0} → MioLink R → MioLink R → Type 0
KeepsEach old new = Stand old.sockets.connections new.sockets.connections

-- no connection of the link has the number
abbrev pub HasNone : {R : Type 0} → ℕ → MioLink R → Type 0
HasNone number link = IsNowhere number link.sockets.connections

-- what is heard is of a connection of the link
abbrev pub IsOfLink : {R : Type 0} → MioLink R → Heard → Type 0
IsOfLink link heard = IsOfOne link.sockets.connections heard

-- as many connections were hung up as the link was opened for
abbrev pub IsDone : {R : Type 0} → MioLink R → Type 0
IsDone link = HadSessions link.sockets

-- the number of sessions for which it was opened
abbrev pub sessions_of : {R : Type 0} → MioLink R → ℕ
sessions_of link = link.sockets.sessions

-- how many were hung up
abbrev pub ended_of : {R : Type 0} → MioLink R → ℕ
ended_of link = link.sockets.ended

-- for how many seconds a connection may be idle; 0 where that has no bound
abbrev pub idle_of : {R : Type 0} → MioLink R → ℕ
idle_of link = link.sockets.idle

-- these three are as they were
abbrev pub KeepsBounds : {R : Type 0} → MioLink R → MioLink R → Type 0
KeepsBounds old new = BoundsStay old.sockets new.sockets

-- a call of the store failed
abbrev pub StoreFailed : {R : Type 0} → MioLink R → Type 0
StoreFailed link = link.store ≡ Failed

-- the store is as it was
abbrev pub StoreStays : {R : Type 0} → MioLink R → MioLink R → Type 0
StoreStays old new = new.store ≡ old.store
