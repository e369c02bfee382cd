-- Lemmas on a journal that is kept whole while it grows.
use Rattle.std.proofs.Common.{◌≡◌, ℕ, Bool, List, [], ◌∷◌, ◌++◌, nat_eq, refl, ap, sym, ◌∙◌, subst, true, false, Some, None, if◌then◌else◌}
use Rattle.std.specs.Ordering.{nat_cmp}
use Rattle.std.specs.BTreeMap.{BTreeMap, get}
use Rattle.script_text.specs.declared.recording.EventKind.TheVariants as kind
use Rattle.wire_io.specs.declared.journal.Event.{Event}
use Rattle.wire_io.specs.declared.journal.Event.TheVariants.{Opened, Bytes, Ended, Ready, Idle, Stop}
use Rattle.wire_io.specs.declared.journal.Item.{Item}
use Rattle.wire_io.specs.declared.journal.Item.TheVariants.{Heard, OpenedAt, Taken, Later, Gone, Held, Released, HungUp, StoreOpened, StoreCut, Stored}
use Rattle.wire_io.specs.declared.peers.Peer.{Peer}
use Rattle.wire_io.specs.Journal.{opened_by, taken_of, is_held, hold_after, hold_after_all, is_hung_up}
use Rattle.wire_io.specs.declared.log.Note.{Note}
use Rattle.wire_io.specs.declared.log.Note.TheVariants as note
use Rattle.wire_io.specs.Log.{IsQuietNote, item_of}
use Rattle.wire_io.specs.Peers.{PeerState, state_in, state_after, state_of_kept, state_of, KeepsPeers, ChangesPeer, TracksPeers, NoneHeld, IsTracked, IsQuiet}
use Rattle.wire_io.proofs.journal.JournalLemmas.{opened_by-opened, opened_by-other, is_held-push}
use Rattle.wire_io.proofs.peers.PeersLemmas.{IsOf, state_in-of, state_in-quiet, state_in-heard}

-- the same journal over a map that keeps the same
pub IsTracked-kept :
    {journal kept : List Item} {peers after : BTreeMap ℕ Peer} {opened : List ℕ} {held : Bool}
    → kept ≡ journal → IsTracked journal peers opened held → KeepsPeers peers after → IsTracked kept after opened held
unfolding TracksPeers KeepsPeers
IsTracked-kept {journal} {kept} {peers} {after} {opened} {held} same tracked keeps =
    let P : List Item → Type 0 = λ items. IsTracked items after opened held in
    subst P (sym same) (record { states = λ conn. keeps conn ∙ tracked.states conn; numbers = tracked.numbers; holds = tracked.holds })

-- an item that puts no connection on hold
unfoldable pub HoldsNone : Item → Type 0
HoldsNone item = (conn : ℕ) → hold_after conn false item ≡ false

none_held : (held : Bool) (journal : List Item) (item : Item) → HoldsNone item → (held ≡ false → NoneHeld journal) → held ≡ false → NoneHeld (journal ++ item ∷ [])
unfolding HoldsNone NoneHeld
none_held held journal item frees holds e conn = is_held-push conn journal item ∙ ap (λ before. hold_after conn before item) (holds e conn) ∙ frees conn

if_same : (is : Bool) → (if is then false else false) ≡ false
if_same true = refl
if_same false = refl

pub frees-taken : (conn : ℕ) (octets : List ℕ) → HoldsNone (Taken conn octets)
unfolding HoldsNone hold_after
frees-taken conn octets other = refl

pub frees-released : (conn : ℕ) → HoldsNone (Released conn)
unfolding HoldsNone hold_after
frees-released conn other = if_same (nat_eq conn other)

pub frees-hung_up : (conn : ℕ) → HoldsNone (HungUp conn)
unfolding HoldsNone hold_after
frees-hung_up conn other = if_same (nat_eq conn other)

frees-heard : (event : Event) → HoldsNone (Heard event)
unfolding HoldsNone hold_after
frees-heard event other = refl

frees-quiet : (item : Item) → IsQuiet item → HoldsNone item
unfolding HoldsNone hold_after
frees-quiet (Heard event) quiet other = refl
frees-quiet (OpenedAt address sessions done) quiet other = refl
frees-quiet (Later conn) quiet other = refl
frees-quiet (Gone conn) quiet other = refl
frees-quiet (StoreOpened name done) quiet other = refl
frees-quiet (StoreCut length) quiet other = refl
frees-quiet (Stored octets) quiet other = refl
frees-quiet (Taken conn octets) quiet other = absurd quiet
frees-quiet (Held conn) quiet other = absurd quiet
frees-quiet (Released conn) quiet other = absurd quiet
frees-quiet (HungUp conn) quiet other = absurd quiet

-- an item that opens no connection does not change the numbers opened
numbers-other :
    (journal : List Item) (item : Item) (opened : List ℕ) → opened_by (item ∷ []) ≡ [] → opened ≡ opened_by journal → opened ≡ opened_by (journal ++ item ∷ [])
numbers-other journal item opened none numbers = numbers ∙ sym (opened_by-other journal item none)

opened_by-of : (conn : ℕ) (item : Item) → IsOf conn item → opened_by (item ∷ []) ≡ []
unfolding IsOf opened_by
opened_by-of conn (Taken other octets) is = refl
opened_by-of conn (Held other) is = refl
opened_by-of conn (Released other) is = refl
opened_by-of conn (HungUp other) is = refl
opened_by-of conn (Heard event) is = absurd is
opened_by-of conn (OpenedAt address sessions done) is = absurd is
opened_by-of conn (Later other) is = absurd is
opened_by-of conn (Gone other) is = absurd is
opened_by-of conn (StoreOpened name done) is = absurd is
opened_by-of conn (StoreCut length) is = absurd is
opened_by-of conn (Stored octets) is = absurd is

opened_by-quiet : (item : Item) → IsQuiet item → opened_by (item ∷ []) ≡ []
unfolding opened_by
opened_by-quiet (Heard (Opened conn)) quiet = absurd quiet
opened_by-quiet (Heard (Bytes conn octets)) quiet = refl
opened_by-quiet (Heard (Ended conn)) quiet = refl
opened_by-quiet (Heard (Ready conn)) quiet = refl
opened_by-quiet (Heard Idle) quiet = refl
opened_by-quiet (Heard Stop) quiet = refl
opened_by-quiet (OpenedAt address sessions done) quiet = refl
opened_by-quiet (Later conn) quiet = refl
opened_by-quiet (Gone conn) quiet = refl
opened_by-quiet (StoreOpened name done) quiet = refl
opened_by-quiet (StoreCut length) quiet = refl
opened_by-quiet (Stored octets) quiet = refl
opened_by-quiet (Taken conn octets) quiet = absurd quiet
opened_by-quiet (Held conn) quiet = absurd quiet
opened_by-quiet (Released conn) quiet = absurd quiet
opened_by-quiet (HungUp conn) quiet = absurd quiet

-- an item of a connection, and the map changed by it
states-changed :
    (journal : List Item) (peers after : BTreeMap ℕ Peer) (conn : ℕ) (item : Item)
    → IsOf conn item → TracksPeers peers journal → ChangesPeer peers conn item after → TracksPeers after (journal ++ item ∷ [])
unfolding TracksPeers ChangesPeer
states-changed journal peers after conn item of states changes other =
    let made : PeerState → PeerState = λ before. if nat_eq conn other then state_after item before else before in
    changes other ∙ ap made (states other) ∙ sym (state_in-of journal item conn other of)

pub IsTracked-changed :
    {journal grown : List Item} {peers after : BTreeMap ℕ Peer} {opened : List ℕ} {held : Bool} (conn : ℕ) (item : Item)
    → IsOf conn item → HoldsNone item → grown ≡ journal ++ item ∷ [] → IsTracked journal peers opened held → ChangesPeer peers conn item after → IsTracked grown after opened held
IsTracked-changed {journal} {grown} {peers} {after} {opened} {held} conn item of frees grows tracked changes =
    let P : List Item → Type 0 = λ items. IsTracked items after opened held in
    subst P (sym grows) (record {
      states = states-changed journal peers after conn item of tracked.states changes;
      numbers = numbers-other journal item opened (opened_by-of conn item of) tracked.numbers;
      holds = none_held held journal item frees tracked.holds;
    })

-- one that was put on hold
pub IsTracked-held :
    {journal grown : List Item} {peers after : BTreeMap ℕ Peer} {opened : List ℕ} {held : Bool} (conn : ℕ)
    → grown ≡ journal ++ Held conn ∷ [] → IsTracked journal peers opened held → ChangesPeer peers conn (Held conn) after → IsTracked grown after opened true
unfolding IsOf
IsTracked-held {journal} {grown} {peers} {after} {opened} conn grows tracked changes =
    let P : List Item → Type 0 = λ items. IsTracked items after opened true in
    subst P (sym grows) (record {
      states = states-changed journal peers after conn (Held conn) refl tracked.states changes;
      numbers = numbers-other journal (Held conn) opened (opened_by-of conn (Held conn) refl) tracked.numbers;
      holds = λ (e : true ≡ false). absurd cc;
    })

-- a quiet item
pub IsTracked-quiet :
    {journal grown : List Item} {peers : BTreeMap ℕ Peer} {opened : List ℕ} {held : Bool} (item : Item)
    → IsQuiet item → grown ≡ journal ++ item ∷ [] → IsTracked journal peers opened held → IsTracked grown peers opened held
unfolding TracksPeers
IsTracked-quiet {journal} {grown} {peers} {opened} {held} item quiet grows tracked =
    let P : List Item → Type 0 = λ items. IsTracked items peers opened held in
    subst P (sym grows) (record {
      states = λ other. tracked.states other ∙ sym (state_in-quiet journal item other quiet);
      numbers = numbers-other journal item opened (opened_by-quiet item quiet) tracked.numbers;
      holds = none_held held journal item (frees-quiet item quiet) tracked.holds;
    })

-- the quiet item of a note
pub IsTracked-noted :
    {journal grown : List Item} {peers : BTreeMap ℕ Peer} {opened : List ℕ} {held : Bool} (noted : Note) (conn : ℕ) (octets : List ℕ)
    → IsQuietNote noted → grown ≡ journal ++ item_of noted conn octets → IsTracked journal peers opened held → IsTracked grown peers opened held
IsTracked-noted (note.Came kind.Opened) conn octets quiet grows tracked = absurd quiet
IsTracked-noted (note.Came kind.Bytes) conn octets quiet grows tracked = IsTracked-quiet (Heard (Bytes conn octets)) tt grows tracked
IsTracked-noted (note.Came kind.Ended) conn octets quiet grows tracked = IsTracked-quiet (Heard (Ended conn)) tt grows tracked
IsTracked-noted note.Ready conn octets quiet grows tracked = IsTracked-quiet (Heard (Ready conn)) tt grows tracked
IsTracked-noted note.Taken conn octets quiet grows tracked = absurd quiet
IsTracked-noted note.Later conn octets quiet grows tracked = IsTracked-quiet (Later conn) tt grows tracked
IsTracked-noted note.Gone conn octets quiet grows tracked = IsTracked-quiet (Gone conn) tt grows tracked
IsTracked-noted note.Held conn octets quiet grows tracked = absurd quiet
IsTracked-noted note.Released conn octets quiet grows tracked = absurd quiet
IsTracked-noted note.HungUp conn octets quiet grows tracked = absurd quiet
IsTracked-noted note.Stored conn octets quiet grows tracked = IsTracked-quiet (Stored octets) tt grows tracked
IsTracked-noted note.Apart conn octets quiet grows tracked = absurd quiet

-- a connection that was opened
pub IsTracked-opened :
    {journal grown : List Item} {peers : BTreeMap ℕ Peer} {opened more : List ℕ} {held : Bool} (conn : ℕ)
    → grown ≡ journal ++ Heard (Opened conn) ∷ [] → more ≡ opened ++ conn ∷ [] → IsTracked journal peers opened held → IsTracked grown peers more held
unfolding TracksPeers
IsTracked-opened {journal} {grown} {peers} {opened} {more} {held} conn grows pushed tracked =
    let P : List Item → Type 0 = λ items. IsTracked items peers more held in
    subst P (sym grows) (record {
      states = λ other. tracked.states other ∙ sym (state_in-heard journal (Opened conn) other);
      numbers = pushed ∙ ap (λ numbers. numbers ++ conn ∷ []) tracked.numbers ∙ sym (opened_by-opened journal conn);
      holds = none_held held journal (Heard (Opened conn)) (frees-heard (Opened conn)) tracked.holds;
    })

-- nothing was done yet
pub IsTracked-nothing :
    {journal : List Item} {peers : BTreeMap ℕ Peer} {opened : List ℕ} {held : Bool}
    → journal ≡ [] → ((conn : ℕ) → state_of peers conn ≡ record { taken = []; on_hold = false; hung_up = false }) → opened ≡ [] → IsTracked journal peers opened held
unfolding TracksPeers NoneHeld taken_of is_held hold_after_all is_hung_up opened_by
IsTracked-nothing {journal} {peers} {opened} {held} nothing empty none =
    let P : List Item → Type 0 = λ items. IsTracked items peers opened held in
    subst P (sym nothing) (record { states = λ conn. empty conn; numbers = none; holds = λ e conn. refl })

-- what is kept of a connection is what the journal says
pub state_read-some :
    {journal : List Item} {peers : BTreeMap ℕ Peer} {opened : List ℕ} {held : Bool} (conn : ℕ) (peer : Peer)
    → IsTracked journal peers opened held → get nat_cmp peers conn ≡ Some peer → state_of_kept (Some peer) ≡ state_in journal conn
unfolding TracksPeers
state_read-some conn peer tracked found = ap state_of_kept (sym found) ∙ tracked.states conn

-- nothing is kept of a connection of which the journal says nothing
pub state_read-none :
    {journal : List Item} {peers : BTreeMap ℕ Peer} {opened : List ℕ} {held : Bool} (conn : ℕ)
    → IsTracked journal peers opened held → get nat_cmp peers conn ≡ None → state_of_kept None ≡ state_in journal conn
unfolding TracksPeers
state_read-none conn tracked none = ap state_of_kept (sym none) ∙ tracked.states conn

-- no connection is on hold where none was ever put on hold
pub held_none :
    {journal : List Item} {peers : BTreeMap ℕ Peer} {opened : List ℕ} {held : Bool} (conn : ℕ)
    → IsTracked journal peers opened held → held ≡ false → is_held conn journal ≡ false
unfolding NoneHeld
held_none conn tracked none = tracked.holds none conn
