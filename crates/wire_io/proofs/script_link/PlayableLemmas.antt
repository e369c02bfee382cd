-- Lemmas on events that may still come while a journal grows.
use Rattle.std.proofs.Common.{◌≡◌, ℕ, false, ◌||◌, List, [], ◌∷◌, ◌++◌, Result, Ok, Err, OnOk, OnErr, refl, ap, sym, ◌∙◌, subst}
use Rattle.script_text.specs.declared.event.ScriptEvent.{ScriptEvent}
use Rattle.script_text.specs.script.Script.{OpensOnce, AreFilled}
use Rattle.wire_io.specs.declared.journal.Item.{Item}
use Rattle.wire_io.specs.declared.journal.Item.TheVariants.{Heard, OpenedAt, Taken, Later, Gone, Held, Released, HungUp, StoreOpened, StoreCut, Stored}
use Rattle.wire_io.specs.Journal.{opens, was_opened, stops, was_stopped}
use Rattle.wire_io.specs.Scripted.{IsPlayable}
use Rattle.wire_io.proofs.journal.JournalLemmas.{was_opened-push, was_stopped-push, or-false}

-- the item is no event
unfoldable pub IsNote : Item → Type 0
IsNote (Heard event) = ⊥
IsNote _ = Unit {0}

opens-note : (conn : ℕ) (item : Item) → IsNote item → opens conn item ≡ false
unfolding IsNote opens
opens-note conn (Heard event) note = absurd note
opens-note conn (OpenedAt address sessions done) note = refl
opens-note conn (Taken other octets) note = refl
opens-note conn (Later other) note = refl
opens-note conn (Gone other) note = refl
opens-note conn (Held other) note = refl
opens-note conn (Released other) note = refl
opens-note conn (HungUp other) note = refl
opens-note conn (StoreOpened name done) note = refl
opens-note conn (StoreCut length) note = refl
opens-note conn (Stored octets) note = refl

stops-note : (item : Item) → IsNote item → stops item ≡ false
unfolding IsNote stops
stops-note (Heard event) note = absurd note
stops-note (OpenedAt address sessions done) note = refl
stops-note (Taken other octets) note = refl
stops-note (Later other) note = refl
stops-note (Gone other) note = refl
stops-note (Held other) note = refl
stops-note (Released other) note = refl
stops-note (HungUp other) note = refl
stops-note (StoreOpened name done) note = refl
stops-note (StoreCut length) note = refl
stops-note (Stored octets) note = refl

-- a journal with an item that opens and stops nothing
pub was_opened-quiet : (conn : ℕ) (journal : List Item) (item : Item) → opens conn item ≡ false → was_opened conn (journal ++ item ∷ []) ≡ was_opened conn journal
was_opened-quiet conn journal item none = was_opened-push conn journal item ∙ ap (λ test. was_opened conn journal || test) none ∙ or-false (was_opened conn journal)

pub was_stopped-quiet : (journal : List Item) (item : Item) → stops item ≡ false → was_stopped (journal ++ item ∷ []) ≡ was_stopped journal
was_stopped-quiet journal item none = was_stopped-push journal item ∙ ap (λ test. was_stopped journal || test) none ∙ or-false (was_stopped journal)

-- the same events may come after an item that is no event
pub IsPlayable-note :
    {journal grown : List Item} {events : List ScriptEvent} (item : Item) → IsNote item → grown ≡ journal ++ item ∷ [] → IsPlayable journal events → IsPlayable grown events
IsPlayable-note {journal} {grown} {events} item note grows playable =
    let P : List Item → Type 0 = λ items. IsPlayable items events in
    subst P (sym grows) (record {
      once = playable.once;
      filled = playable.filled;
      fresh = λ conn opened. playable.fresh conn (sym (was_opened-quiet conn journal item (opens-note conn item note)) ∙ opened);
      stopped = λ stopped. playable.stopped (sym (was_stopped-quiet journal item (stops-note item note)) ∙ stopped);
    })

-- the same where the item was refused or not
pub IsPlayable-noted :
    {T E : Type 0} {journal grown : List Item} {events : List ScriptEvent} (result : Result T E) (item : Item)
    → IsNote item → OnOk result (grown ≡ journal ++ item ∷ []) → OnErr result (grown ≡ journal) → IsPlayable journal events → IsPlayable grown events
IsPlayable-noted (Ok answer) item note ok err playable = IsPlayable-note item note ok playable
IsPlayable-noted {T} {E} {journal} {grown} {events} (Err fault) item note ok err playable = let P : List Item → Type 0 = λ items. IsPlayable items events in subst P (sym err) playable

-- a link that has done nothing yet
pub IsPlayable-new : {journal : List Item} {events : List ScriptEvent} → journal ≡ [] → OpensOnce events → AreFilled events → IsPlayable journal events
unfolding was_opened was_stopped
IsPlayable-new {journal} {events} nothing once filled =
    let P : List Item → Type 0 = λ items. IsPlayable items events in
    subst P (sym nothing) (record { once = once; filled = filled; fresh = λ conn opened. absurd (cc); stopped = λ stopped. absurd (cc) })
