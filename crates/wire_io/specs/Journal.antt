-- The journal: all that a link did, item by item, in order.
use Rattle.std.specs.Prelude.{ℕ, ◌==◌, Bool, true, false, ◌||◌, List, [], ◌∷◌, ◌++◌, if◌then◌else◌}
use Rattle.wire_io.specs.declared.journal.Event.{Event}
use Rattle.wire_io.specs.declared.journal.Event.TheVariants.{Opened, Stop}
use Rattle.wire_io.specs.declared.journal.Item.{Item}
use Rattle.wire_io.specs.declared.journal.Item.TheVariants.{Heard, Taken, Held, Released, HungUp, Stored}

-- the events heard, in order
unfoldable pub heard : List Item → List Event
heard [] = []
heard (Heard event ∷ journal) = event ∷ heard journal
heard (_ ∷ journal) = heard journal

-- the numbers that the journal's events opened, in order
unfoldable pub opened_by : List Item → List ℕ
opened_by [] = []
opened_by (Heard (Opened conn) ∷ journal) = conn ∷ opened_by journal
opened_by (_ ∷ journal) = opened_by journal

-- the item opens the connection
unfoldable pub opens : ℕ → Item → Bool
opens conn (Heard (Opened other)) = other == conn
opens conn _ = false

-- the connection was opened
unfoldable pub was_opened : ℕ → List Item → Bool
was_opened conn [] = false
was_opened conn (item ∷ journal) = opens conn item || was_opened conn journal

-- the item is the end of all events
unfoldable pub stops : Item → Bool
stops (Heard Stop) = true
stops _ = false

-- no further event comes
unfoldable pub was_stopped : List Item → Bool
was_stopped [] = false
was_stopped (item ∷ journal) = stops item || was_stopped journal

-- the octets that an item took for the connection
unfoldable pub taken_at : ℕ → Item → List ℕ
taken_at conn (Taken other octets) = if other == conn then octets else []
taken_at conn _ = []

-- the octets taken for the connection, in order
unfoldable pub taken_of : ℕ → List Item → List ℕ
taken_of conn [] = []
taken_of conn (item ∷ journal) = taken_at conn item ++ taken_of conn journal

-- the octets that an item stored
unfoldable pub stored_at : Item → List ℕ
stored_at (Stored octets) = octets
stored_at _ = []

-- all octets that were stored, in order
unfoldable pub stored_of : List Item → List ℕ
stored_of [] = []
stored_of (item ∷ journal) = stored_at item ++ stored_of journal

-- the item hangs up the connection
unfoldable pub hangs_up : ℕ → Item → Bool
hangs_up conn (HungUp other) = other == conn
hangs_up conn _ = false

-- the connection was hung up
unfoldable pub is_hung_up : ℕ → List Item → Bool
is_hung_up conn [] = false
is_hung_up conn (item ∷ journal) = hangs_up conn item || is_hung_up conn journal

-- whether the connection is on hold after the item, where it was or was not before
unfoldable pub hold_after : ℕ → Bool → Item → Bool
hold_after conn before (Held other) = if other == conn then true else before
hold_after conn before (Released other) = if other == conn then false else before
hold_after conn before (HungUp other) = if other == conn then false else before
hold_after conn before _ = before

-- whether it is on hold after the items
unfoldable pub hold_after_all : ℕ → Bool → List Item → Bool
hold_after_all conn before [] = before
hold_after_all conn before (item ∷ journal) = hold_after_all conn (hold_after conn before item) journal

-- the connection is on hold: it was put on hold, and since then not released and not hung up
unfoldable pub is_held : ℕ → List Item → Bool
is_held conn journal = hold_after_all conn false journal

-- the same, by the name that contracts use
abbrev pub is_on_hold : ℕ → List Item → Bool
is_on_hold = is_held
