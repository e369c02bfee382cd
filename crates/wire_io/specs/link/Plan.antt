-- What a link that gives the events of a script has planned.
use Rattle.std.specs.Prelude.{ℕ, List}
use Rattle.script_text.specs.declared.event.ScriptEvent.{ScriptEvent}

-- the events still to come, and the calls at which the link fails or takes nothing: `open`, `next`,
-- `open_store`, `cut_store`, `store` and `sync_store` are numbered in one count from 0, `write` in another
pub record Plan : Type 0 where
  pub to_come : List ScriptEvent
  pub failing : List ℕ
  pub later : List ℕ
  pub gone : List ℕ
