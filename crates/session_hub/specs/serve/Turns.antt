-- What one turn of a loop leaves, whatever the loop did before it, for the loop's own functions alone.
use Rattle.std.specs.Prelude.{◌≡◌, ◌<◌, ◌+◌, ℕ, true, false, List, [], ◌++◌, length, Option, Some, None}
use Rattle.dir_tree.specs.plain_values.Counts.{NeverFalls}
use Rattle.session_model.specs.wire_io.declared.journal.Item.{Item}
use Rattle.session_model.specs.wire_io.Journal.{heard, was_stopped, is_held}
use Rattle.session_model.specs.wire_io.Pieces.{Plays, steps_of}
use Rattle.session_model.specs.wire_io.link.Plan.{Plan}
use Rattle.session_model.specs.Journaled.{all_taken}
use Rattle.session_hub.specs.Parties.{DirectoryEntries}
use Rattle.session_hub.specs.declared.ended.Ended.{Ended}
use Rattle.session_hub.specs.serve.Loops.{buffer_length, Serves, Starves, PlaysOut, EndsFor}
use Rattle.session_hub.specs.serve.Servers.{LinkState, ServerState}
use Rattle.session_hub.specs.Adding.{IsOver}

-- so many events were heard, none of them Stop, and nobody is due
pub record Ran (entries : DirectoryEntries) (count : ℕ) (server : ServerState) (added : List Item) : Type 0 where
  pub goes_on : was_stopped added ≡ false
  pub counts : length (heard added) ≡ count
  pub works : IsOver entries server added

-- the same of any journal that the link told first
unfoldable pub Running : ServerState → ℕ → ServerState → Type 0
Running first count now =
    (begun : List Item) → first.link.journal ≡ Some begun → (added : List Item) × (now.link.journal ≡ Some (begun ++ added)) × Ran first.entries count now added

-- how far a plan has come with a journal
pub record PlayedSoFar (begun added : List Item) (plan left : Plan) : Type 0 where
  pub plays : Plays buffer_length plan.to_come (heard added) left.to_come
  pub failing : left.failing ≡ plan.failing
  pub later : left.later ≡ plan.later
  pub gone : left.gone ≡ plan.gone
  pub taken : plan.later ≡ [] → plan.gone ≡ [] → all_taken added ≡ true
  pub steps : plan.later ≡ [] → plan.gone ≡ [] → ((number : ℕ) → is_held number begun ≡ false) → length (steps_of (heard added)) ≡ length (heard added)

-- the same of any plan and journal that a link told first
unfoldable pub Playing : LinkState → LinkState → Type 0
Playing first now =
    (begun : List Item) (plan : Plan) → first.journal ≡ Some begun → first.plan ≡ Some plan →
    (added : List Item) × (left : Plan) × (now.journal ≡ Some (begun ++ added)) × (now.plan ≡ Some left) × PlayedSoFar begun added plan left

-- the failing calls of a plan
abbrev pub failing_of : Option Plan → Option (List ℕ)
failing_of None = None
failing_of (Some plan) = Some plan.failing

-- how far a loop has come since its server was as it was first: so many events were heard and served, and they brought the plan
-- on; it has the same directory, link and bounds, no fault was counted, and all changes are stored
pub record IsUnderWay (first : ServerState) (count : ℕ) (now : ServerState) : Type 0 where
  pub running : Running first count now
  pub playing : Playing first.link now.link
  pub borrows : now.borrows ≡ first.borrows
  pub bounds : now.hub.bounds ≡ first.hub.bounds
  pub failing : failing_of now.link.plan ≡ failing_of first.link.plan
  pub faults : now.link.faults ≡ first.link.faults
  pub store_faults : now.link.store_faults ≡ first.link.store_faults
  pub lost : NeverFalls first.link.lost now.link.lost
  pub refusals : NeverFalls first.link.refusals now.link.refusals
  pub stored : now.hub.unstored ≡ []

-- a loop of so many turns has ended with this answer
pub record HasEnded (first : ServerState) (turns : ℕ) (ended : Ended) (last : ServerState) : Type 0 where
  pub borrows : last.borrows ≡ first.borrows
  pub served : Serves first.hub.bounds.terms first.entries last.entries turns first.link.journal ended last.link.journal
  pub plays : PlaysOut turns first.link.journal first.link.plan ended last.link.journal last.link.plan
  pub cause : EndsFor first.hub.bounds.terms.keeps first.link.plan first.link.faults last.link.faults first.link.store_faults last.link.store_faults ended
  pub memory : Starves first.hub.bounds.terms first.entries last.entries first.link.journal first.link.refusals ended last.link.journal last.link.refusals
  pub lost : NeverFalls first.link.lost last.link.lost
  pub refusals : NeverFalls first.link.refusals last.link.refusals

-- after the turn the loop has come further by one event
abbrev pub GoesOn : ServerState → ServerState → Type 0
GoesOn old new = (first : ServerState) (count : ℕ) → IsUnderWay first count old → IsUnderWay first (count + 1) new

-- where turns are left, the loop ends in this turn with the answer
abbrev pub EndsWith : ServerState → Ended → ServerState → Type 0
EndsWith old ended new = (first : ServerState) (count turns : ℕ) → count < turns → IsUnderWay first count old → HasEnded first turns ended new
