-- What a journal says of one connection, and a map that keeps it for each.
use Rattle.std.specs.Prelude.{◌≡◌, ℕ, ◌==◌, Bool, true, false, List, [], ◌++◌, if◌then◌else◌, Option, Some, None}
use Rattle.std.specs.Ordering.{nat_cmp}
use Rattle.std.specs.BTreeMap.{BTreeMap, get}
use Rattle.wire_io.specs.declared.journal.Event.TheVariants.{Opened}
use Rattle.wire_io.specs.declared.journal.Item.{Item}
use Rattle.wire_io.specs.declared.journal.Item.TheVariants.{Heard, Taken, Held, Released, HungUp}
use Rattle.wire_io.specs.declared.peers.Peer.{Peer}
use Rattle.wire_io.specs.Journal.{taken_of, is_on_hold, is_hung_up, opened_by}

-- the octets taken for a connection, whether it is on hold, and whether it was hung up
pub record PeerState : Type 0 where
  pub taken : List ℕ
  pub on_hold : Bool
  pub hung_up : Bool

-- what the journal says of the connection
abbrev pub state_in : List Item → ℕ → PeerState
state_in journal conn = record { taken = taken_of conn journal; on_hold = is_on_hold conn journal; hung_up = is_hung_up conn journal }

-- what one more item makes of it
abbrev pub state_after : Item → PeerState → PeerState
state_after (Taken conn octets) state = record state { taken = state.taken ++ octets }
state_after (Held conn) state = record state { on_hold = true }
state_after (Released conn) state = record state { on_hold = false }
state_after (HungUp conn) state = record state { on_hold = false; hung_up = true }
state_after _ state = state

-- what is kept of a connection; of one that isn't kept nothing was taken
abbrev pub state_of_kept : Option Peer → PeerState
state_of_kept None = record { taken = []; on_hold = false; hung_up = false }
state_of_kept (Some peer) = record { taken = peer.taken.items; on_hold = peer.on_hold; hung_up = peer.hung_up }

-- what the map keeps of the connection
abbrev pub state_of : BTreeMap ℕ Peer → ℕ → PeerState
state_of peers conn = state_of_kept (get nat_cmp peers conn)

-- the two maps keep the same of each connection
unfoldable pub KeepsPeers : BTreeMap ℕ Peer → BTreeMap ℕ Peer → Type 0
KeepsPeers old new = (conn : ℕ) → state_of new conn ≡ state_of old conn

-- the item changed what is kept of its connection, and of no other
unfoldable pub ChangesPeer : BTreeMap ℕ Peer → ℕ → Item → BTreeMap ℕ Peer → Type 0
ChangesPeer old conn item new = (other : ℕ) → state_of new other ≡ (if conn == other then state_after item (state_of old other) else state_of old other)

-- the map keeps what the journal says of each connection
unfoldable pub TracksPeers : BTreeMap ℕ Peer → List Item → Type 0
TracksPeers peers journal = (conn : ℕ) → state_of peers conn ≡ state_in journal conn

-- no connection is on hold
unfoldable pub NoneHeld : List Item → Type 0
NoneHeld journal = (conn : ℕ) → is_on_hold conn journal ≡ false

-- a journal is kept whole: what it says of each connection, the numbers opened, and whether any was ever put on hold
pub record IsTracked (journal : List Item) (peers : BTreeMap ℕ Peer) (opened : List ℕ) (held : Bool) : Type 0 where
  pub states : TracksPeers peers journal
  pub numbers : opened ≡ opened_by journal
  pub holds : held ≡ false → NoneHeld journal

-- the item opens no connection, and says nothing of what was taken, held or hung up
abbrev pub IsQuiet : Item → Type 0
IsQuiet (Heard (Opened conn)) = ⊥
IsQuiet (Taken conn octets) = ⊥
IsQuiet (Held conn) = ⊥
IsQuiet (Released conn) = ⊥
IsQuiet (HungUp conn) = ⊥
IsQuiet _ = Unit {0}
