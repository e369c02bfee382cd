-- The step that an event is.
use Rattle.std.specs.Prelude.{ℕ, Option, Some, None, cond, List}
use Rattle.session_model.specs.Run.{Step, Opened, Bytes, Ended}
use Rattle.session_model.specs.Kept.{Kept, kept_of, cut_of}
use Rattle.session_hub.specs.Parties.{Requester}
use Rattle.session_hub.specs.declared.event.Event.{Event}
use Rattle.session_hub.specs.declared.event.Event.TheVariants as event

-- an event as a step of its session, with the cut of its octets: a hub cuts where there is no memory for an answer, and where
-- more waits for the connection than it has room for
abbrev pub step_of : Event → Option ℕ → Step
step_of (event.Opened number) cut = Opened number
step_of (event.Bytes number octets) cut = Bytes number octets.now cut
step_of (event.Ended number) cut = Ended number

-- a cut that a connection tells after an event is of the event where the connection was held and not closing before
abbrev pub new_cut : Option (Kept Requester) → Option ℕ → Option ℕ
new_cut None cut = None
new_cut (Some connection) cut = cond connection.closing None cut

-- where an event was cut, by the connections held before and after it
abbrev pub cut_by : Event → List (Kept Requester) → List (Kept Requester) → Option ℕ
cut_by (event.Opened number) old new = None
cut_by (event.Bytes number octets) old new = new_cut (kept_of number old) (cut_of number new)
cut_by (event.Ended number) old new = None

-- the step that an event was
abbrev pub step_by : Event → List (Kept Requester) → List (Kept Requester) → Step
step_by came old new = step_of came (cut_by came old new)
