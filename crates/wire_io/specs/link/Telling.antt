-- What each answer of a link adds to its journal, where it tells one.
use Rattle.std.specs.Prelude.{◌≡◌, ℕ, true, false, List, [], ◌∷◌, ◌++◌, take, Option, Some, None, Result, Ok, Err}
use Rattle.wire_io.specs.declared.answers.Heard.{Heard as Answer}
use Rattle.wire_io.specs.declared.answers.Heard.TheVariants as answer
use Rattle.wire_io.specs.declared.answers.Took.{Took}
use Rattle.wire_io.specs.declared.answers.Took.TheVariants as took
use Rattle.wire_io.specs.declared.answers.NextFault.{NextFault}
use Rattle.wire_io.specs.declared.answers.NextFault.TheVariants.{Failed, NoMemory}
use Rattle.wire_io.specs.declared.journal.Event.{Event}
use Rattle.wire_io.specs.declared.journal.Event.TheVariants.{Opened, Bytes, Ended, Ready, Idle, Stop}
use Rattle.wire_io.specs.declared.journal.Item.{Item}
use Rattle.wire_io.specs.declared.journal.Item.TheVariants.{Heard, OpenedAt, Taken, Later, Gone, StoreOpened}
use Rattle.wire_io.specs.Journal.{was_opened, was_stopped, is_on_hold}

-- the event of an answer, whose octets stand at the front of the buffer
unfoldable pub event_of : List ℕ → Answer → Event
event_of buf (answer.Opened conn) = Opened conn
event_of buf (answer.Bytes conn count) = Bytes conn (take count buf)
event_of buf (answer.Ended conn) = Ended conn
event_of buf (answer.Ready conn) = Ready conn
event_of buf answer.Idle = Idle
event_of buf answer.Stop = Stop

-- the item is added, where there is a journal
abbrev pub noted : Option (List Item) → Item → Option (List Item)
noted None item = None
noted (Some journal) item = Some (journal ++ item ∷ [])

-- `open` is noted with its answer, but for want of memory
unfoldable pub OpenTells : {T : Type 0} → Option (List Item) → List ℕ → ℕ → Result T NextFault → Option (List Item) → Type 0
OpenTells old address sessions (Ok answer) new = new ≡ noted old (OpenedAt address sessions true)
OpenTells old address sessions (Err Failed) new = new ≡ noted old (OpenedAt address sessions false)
OpenTells old address sessions (Err NoMemory) new = new ≡ old

-- so is `open_store`
unfoldable pub StoreOpenTells : {T : Type 0} → Option (List Item) → List ℕ → Result T NextFault → Option (List Item) → Type 0
StoreOpenTells old name (Ok answer) new = new ≡ noted old (StoreOpened name true)
StoreOpenTells old name (Err Failed) new = new ≡ noted old (StoreOpened name false)
StoreOpenTells old name (Err NoMemory) new = new ≡ old

-- the event may come after what was done: a number is opened once, no octets come on hold
unfoldable pub MayCome : List Item → Event → Type 0
MayCome journal (Opened conn) = was_opened conn journal ≡ false
MayCome journal (Bytes conn octets) = is_on_hold conn journal ≡ false
MayCome journal (Ended conn) = Unit {0}
MayCome journal (Ready conn) = Unit {0}
MayCome journal Idle = Unit {0}
MayCome journal Stop = Unit {0}

-- after Stop comes nothing but Stop
unfoldable pub StaysStopped : List Item → Event → Type 0
StaysStopped journal event = was_stopped journal ≡ true → event ≡ Stop

-- the event is noted, and may come; a fault adds nothing
unfoldable pub NextTells : {E : Type 0} → Option (List Item) → List ℕ → Result Answer E → Option (List Item) → Type 0
NextTells old buf (Err fault) new = new ≡ old
NextTells None buf (Ok given) new = new ≡ None
NextTells (Some journal) buf (Ok given) new =
    (new ≡ Some (journal ++ Heard (event_of buf given) ∷ [])) × MayCome journal (event_of buf given) × StaysStopped journal (event_of buf given)

-- what was taken of the octets is noted, or that nothing was
unfoldable pub TookTells : Option (List Item) → ℕ → List ℕ → Took → Option (List Item) → Type 0
TookTells old conn octets (took.Took count) new = new ≡ noted old (Taken conn (take count octets))
TookTells old conn octets took.Later new = new ≡ noted old (Later conn)
TookTells old conn octets took.Gone new = new ≡ noted old (Gone conn)
TookTells old conn octets took.NoMemory new = new ≡ old

-- the item is noted, but for want of memory
unfoldable pub NoteTells : {T E : Type 0} → Option (List Item) → Item → Result T E → Option (List Item) → Type 0
NoteTells old item (Ok answer) new = new ≡ noted old item
NoteTells old item (Err fault) new = new ≡ old
