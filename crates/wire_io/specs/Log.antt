-- A journal kept as rows and octets: the octets of each item follow those of the items before it, and
-- some items are kept apart, in their order.
use Rattle.std.specs.Prelude.{◌≡◌, ℕ, List, [], ◌∷◌, ◌++◌, take, drop, length, sum_by}
use Rattle.script_text.specs.declared.recording.EventKind.TheVariants.{Opened, Bytes, Ended}
use Rattle.wire_io.specs.declared.journal.Event.TheVariants as event
use Rattle.wire_io.specs.declared.journal.Item.{Item}
use Rattle.wire_io.specs.declared.journal.Item.TheVariants as item
use Rattle.wire_io.specs.declared.log.Note.{Note}
use Rattle.wire_io.specs.declared.log.Note.TheVariants.{Came, Ready, Taken, Later, Gone, Held, Released, HungUp, Stored, Apart}
use Rattle.wire_io.specs.declared.log.NoteRow.{NoteRow}

-- the items, and for how many rows and octets more there is room
pub record LogState : Type 0 where
  pub items : List Item
  pub spare_rows : ℕ
  pub spare_octets : ℕ

-- the item of a note of the connection with its octets, none where it is kept apart
abbrev pub item_of : Note → ℕ → List ℕ → List Item
item_of (Came Opened) conn octets = item.Heard (event.Opened conn) ∷ []
item_of (Came Bytes) conn octets = item.Heard (event.Bytes conn octets) ∷ []
item_of (Came Ended) conn octets = item.Heard (event.Ended conn) ∷ []
item_of Ready conn octets = item.Heard (event.Ready conn) ∷ []
item_of Taken conn octets = item.Taken conn octets ∷ []
item_of Later conn octets = item.Later conn ∷ []
item_of Gone conn octets = item.Gone conn ∷ []
item_of Held conn octets = item.Held conn ∷ []
item_of Released conn octets = item.Released conn ∷ []
item_of HungUp conn octets = item.HungUp conn ∷ []
item_of Stored conn octets = item.Stored octets ∷ []
item_of Apart conn octets = []

-- how many items of a note are kept apart
abbrev pub apart_in : Note → ℕ
apart_in (Came kind) = 0
apart_in Ready = 0
apart_in Taken = 0
apart_in Later = 0
apart_in Gone = 0
apart_in Held = 0
apart_in Released = 0
apart_in HungUp = 0
apart_in Stored = 0
apart_in Apart = 1

-- the items of the rows
unfoldable pub items_from : List NoteRow → List ℕ → List Item → List Item
items_from [] octets apart = []
items_from (row ∷ rows) octets apart =
    (item_of row.note row.conn (take row.size octets) ++ take (apart_in row.note) apart) ++ items_from rows (drop row.size octets) (drop (apart_in row.note) apart)

-- the rows have as many octets, and items kept apart, as there are
pub record IsPacked (rows : List NoteRow) (octets : List ℕ) (apart : List Item) : Type 0 where
  pub sized : sum_by (λ row. row.size) rows ≡ length octets
  pub counted : sum_by (λ row. apart_in row.note) rows ≡ length apart

-- the note is of an item that opens no connection, and says nothing of what was taken, held or hung up
abbrev pub IsQuietNote : Note → Type 0
IsQuietNote (Came Opened) = ⊥
IsQuietNote (Came Bytes) = Unit {0}
IsQuietNote (Came Ended) = Unit {0}
IsQuietNote Ready = Unit {0}
IsQuietNote Taken = ⊥
IsQuietNote Later = Unit {0}
IsQuietNote Gone = Unit {0}
IsQuietNote Held = ⊥
IsQuietNote Released = ⊥
IsQuietNote HungUp = ⊥
IsQuietNote Stored = Unit {0}
IsQuietNote Apart = ⊥
