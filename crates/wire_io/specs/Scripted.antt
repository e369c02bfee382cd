-- A link that gives the events of a script: what it holds, and what each of its calls does.
use Rattle.std.specs.Prelude.{◌≡◌, ℕ, true, false, List, [], ◌∷◌, ◌++◌, length, Result, Ok, Err}
use Rattle.std.specs.List.{list_any}
use Rattle.plain_values.specs.Counts.{next_count}
use Rattle.script_text.specs.declared.event.ScriptEvent.{ScriptEvent}
use Rattle.script_text.specs.script.Script.{OpensOnce, AreFilled, opened_by, has}
use Rattle.wire_io.specs.declared.answers.NextFault.{NextFault}
use Rattle.wire_io.specs.declared.answers.NextFault.TheVariants.{Failed, NoMemory}
use Rattle.wire_io.specs.declared.answers.Took.{Took}
use Rattle.wire_io.specs.declared.answers.Took.TheVariants as took
use Rattle.wire_io.specs.declared.journal.Item.{Item}
use Rattle.wire_io.specs.declared.journal.Item.TheVariants.{OpenedAt, Taken, Later, Gone, StoreOpened, StoreCut, Stored}
use Rattle.wire_io.specs.Journal.{was_opened, was_stopped}
use Rattle.wire_io.specs.MemoryForms.{is_listed}
use Rattle.wire_io.specs.link.Plan.{Plan}

-- the journal and the plan, how many calls of `open`, `next` and of the store there were, and how many of `write`, and
-- the counts of its faults, of the store's, of lost connections and of calls for which there was no memory
pub record LinkState : Type 0 where
  pub journal : List Item
  pub plan : Plan
  pub calls : ℕ
  pub writes : ℕ
  pub faults : ℕ
  pub store_faults : ℕ
  pub lost : ℕ
  pub refusals : ℕ

-- a link that has done nothing yet
abbrev pub fresh_link : List ScriptEvent → List ℕ → List ℕ → List ℕ → LinkState
fresh_link events failing later gone =
    record { journal = []; plan = record { to_come = events; failing = failing; later = later; gone = gone }; calls = 0; writes = 0; faults = 0; store_faults = 0; lost = 0; refusals = 0 }

-- no call is listed to take nothing now and to find its connection lost
abbrev pub AreApart : List ℕ → List ℕ → Type 0
AreApart later gone = list_any (λ call. is_listed call gone) later ≡ false

-- the events may still come after what was done: no number is opened twice, no octets are empty, and
-- after Stop there are none
pub record IsPlayable (journal : List Item) (events : List ScriptEvent) : Type 0 where
  pub once : OpensOnce events
  pub filled : AreFilled events
  pub fresh : (conn : ℕ) → was_opened conn journal ≡ true → has conn (opened_by events) ≡ false
  pub stopped : was_stopped journal ≡ true → events ≡ []

-- one more item in the journal
abbrev pub with_item : LinkState → Item → LinkState
with_item state item = record state { journal = state.journal ++ item ∷ [] }

-- `open` fails exactly at a listed call, want of memory aside
unfoldable pub LinkOpens : LinkState → List ℕ → ℕ → Result (Unit {0}) NextFault → LinkState → Type 0
LinkOpens old address sessions (Ok answer) new = (is_listed old.calls old.plan.failing ≡ false)
    × (new ≡ record (with_item old (OpenedAt address sessions true)) { calls = next_count old.calls })
LinkOpens old address sessions (Err Failed) new = (is_listed old.calls old.plan.failing ≡ true)
    × (new ≡ record (with_item old (OpenedAt address sessions false)) { calls = next_count old.calls; faults = next_count old.faults })
LinkOpens old address sessions (Err NoMemory) new = new ≡ record old { calls = next_count old.calls; refusals = next_count old.refusals }

-- so does `open_store`
unfoldable pub LinkOpensStore : LinkState → List ℕ → Result (Unit {0}) NextFault → LinkState → Type 0
LinkOpensStore old name (Ok answer) new = (is_listed old.calls old.plan.failing ≡ false)
    × (new ≡ record (with_item old (StoreOpened name true)) { calls = next_count old.calls })
LinkOpensStore old name (Err Failed) new = (is_listed old.calls old.plan.failing ≡ true)
    × (new ≡ record (with_item old (StoreOpened name false)) { calls = next_count old.calls; store_faults = next_count old.store_faults })
LinkOpensStore old name (Err NoMemory) new = new ≡ record old { calls = next_count old.calls; refusals = next_count old.refusals }

-- a call of the open store fails exactly at a listed call, and then notes nothing; nor after want of memory
unfoldable pub LinkStores : LinkState → Item → Result (Unit {0}) NextFault → LinkState → Type 0
LinkStores old item (Ok answer) new = (is_listed old.calls old.plan.failing ≡ false)
    × (new ≡ record (with_item old item) { calls = next_count old.calls })
LinkStores old item (Err Failed) new = (is_listed old.calls old.plan.failing ≡ true)
    × (new ≡ record old { calls = next_count old.calls; store_faults = next_count old.store_faults })
LinkStores old item (Err NoMemory) new = (is_listed old.calls old.plan.failing ≡ false)
    × (new ≡ record old { calls = next_count old.calls; refusals = next_count old.refusals })

-- so does `sync_store`, which notes nothing, and wants no memory
unfoldable pub LinkSyncs : LinkState → Result (Unit {0}) NextFault → LinkState → Type 0
LinkSyncs old (Ok answer) new = (is_listed old.calls old.plan.failing ≡ false) × (new ≡ record old { calls = next_count old.calls })
LinkSyncs old (Err Failed) new = (is_listed old.calls old.plan.failing ≡ true)
    × (new ≡ record old { calls = next_count old.calls; store_faults = next_count old.store_faults })
LinkSyncs old (Err NoMemory) new = ⊥

-- `next` fails exactly at a listed call, and then nothing else changes; nor after want of memory, which is counted
unfoldable pub LinkHears : {T : Type 0} → LinkState → Result T NextFault → LinkState → Type 0
LinkHears old (Ok answer) new = (is_listed old.calls old.plan.failing ≡ false)
    × (new ≡ record old { journal = new.journal; plan = new.plan; calls = next_count old.calls })
LinkHears old (Err Failed) new = (is_listed old.calls old.plan.failing ≡ true)
    × (new ≡ record old { calls = next_count old.calls; faults = next_count old.faults })
LinkHears old (Err NoMemory) new = (is_listed old.calls old.plan.failing ≡ false)
    × (new ≡ record old { calls = next_count old.calls; refusals = next_count old.refusals })

-- a call of `write` gets Later or Gone exactly where the plan says so; any other takes the whole piece, or finds no
-- memory
unfoldable pub LinkWrites : LinkState → ℕ → List ℕ → Took → LinkState → Type 0
LinkWrites old conn octets (took.Took count) new = (is_listed old.writes old.plan.later ≡ false) × (is_listed old.writes old.plan.gone ≡ false)
    × (count ≡ length octets) × (new ≡ record (with_item old (Taken conn octets)) { writes = next_count old.writes })
LinkWrites old conn octets took.Later new = (is_listed old.writes old.plan.later ≡ true)
    × (new ≡ record (with_item old (Later conn)) { writes = next_count old.writes })
LinkWrites old conn octets took.Gone new = (is_listed old.writes old.plan.later ≡ false) × (is_listed old.writes old.plan.gone ≡ true)
    × (new ≡ record (with_item old (Gone conn)) { writes = next_count old.writes; lost = next_count old.lost })
LinkWrites old conn octets took.NoMemory new = new ≡ record old { writes = next_count old.writes; refusals = next_count old.refusals }

-- the item is noted and nothing else changes; for want of memory the count of refusals alone does
unfoldable pub LinkNotes : {T E : Type 0} → LinkState → Item → Result T E → LinkState → Type 0
LinkNotes old item (Ok answer) new = new ≡ with_item old item
LinkNotes old item (Err fault) new = new ≡ record old { refusals = next_count old.refusals }
