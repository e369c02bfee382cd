-- What one call of a loop's server adds to its link's journal, for the loop's own functions alone.
use Rattle.std.specs.Prelude.{◌≡◌, ◌≤◌, ℕ, Bool, true, false, List, [], ◌∷◌, ◌++◌, length, Option, Some, Result, Ok, Err}
use Rattle.session_model.specs.wire_io.declared.answers.Heard.{Heard as Answer}
use Rattle.session_model.specs.wire_io.declared.answers.Heard.TheVariants as answer
use Rattle.session_model.specs.wire_io.declared.journal.Event.{Event}
use Rattle.session_model.specs.wire_io.declared.journal.Event.TheVariants as event
use Rattle.session_model.specs.wire_io.declared.journal.Item.{Item}
use Rattle.session_model.specs.wire_io.declared.journal.Item.TheVariants as item
use Rattle.session_model.specs.wire_io.Journal.{heard, was_opened, was_stopped}
use Rattle.session_model.specs.wire_io.link.Plan.{Plan}
use Rattle.session_model.specs.Run.{Opened, most_held}
use Rattle.session_model.specs.Kept as model
use Rattle.session_model.specs.Kept.{queue_of}
use Rattle.session_model.specs.Keeping.{is_listed}
use Rattle.session_model.specs.Journaled.{all_taken}
use Rattle.session_model.specs.Serving.{Leads}
use Rattle.session_model.specs.Working.{Works, Refused, Lost}
use Rattle.session_hub.specs.Parties.{DirectoryEntries}
use Rattle.session_hub.specs.declared.sent.Sent.{Sent}
use Rattle.session_hub.specs.declared.sent.Sent.TheVariants as sent
use Rattle.session_hub.specs.serve.Servers.{ServerState, rules_of, held_by}

-- the items are no events and, where no calls are planned that take nothing, no refusals
pub record IsBlock (plan_now : Option Plan) (more : List Item) : Type 0 where
  pub events : heard more ≡ []
  pub stops : was_stopped more ≡ false
  pub taken : (plan : Plan) → plan_now ≡ Some plan → plan.later ≡ [] → plan.gone ≡ [] → all_taken more ≡ true

-- from a journal of which a claim holds, the link goes on to one of which the next holds
unfoldable pub AddsItems : Option Plan → (List Item → Type 0) → (List Item → Type 0) → Option (List Item) → Option (List Item) → Type 0
AddsItems plan claim next_claim before after =
    (begun added : List Item) → before ≡ Some (begun ++ added) →
    (more : List Item) × (after ≡ Some (begun ++ (added ++ more))) × IsBlock plan more × (claim added → next_claim (added ++ more))

-- what may be true of a server, by the items that its link added since its loop began over these entries
abbrev pub Claim : Type 1
Claim = DirectoryEntries → ServerState → List Item → Type 0

-- from a server of which a claim is true, the link goes on to one of which the next is
abbrev pub Goes : Claim → Claim → ServerState → ServerState → Type 0
Goes claim next_claim old new = (entries : DirectoryEntries) → AddsItems old.link.plan (claim entries old) (next_claim entries new) old.link.journal new.link.journal

-- the journal is right so far
abbrev pub IsRight : Claim
IsRight entries server added = Leads (rules_of server) entries server.entries added

-- the claim where a call had memory; and where it had none the journal is right so far
abbrev pub After : {X E : Type 0} → Result X E → Claim → Claim
After (Ok value) claim entries server added = claim entries server added
After (Err fault) claim entries server added = IsRight entries server added

-- a call goes on so, by its answer
abbrev pub Adds : {X E : Type 0} → Claim → Claim → ServerState → Result X E → ServerState → Type 0
Adds claim next_claim old result new = Goes claim (After result next_claim) old new

-- these are still due, and all others stand as they have to
abbrev pub AreDue : List ℕ → Claim
AreDue due entries server added = Works (rules_of server) entries due (held_by server) server.on_hold added

-- none but those that the server has as due
abbrev pub IsServing : Claim
IsServing entries server added = AreDue server.due entries server added

-- none but those and this one
abbrev pub IsDue : ℕ → Claim
IsDue number entries server added = AreDue (number ∷ server.due) entries server added

-- none at all: a block is over
abbrev pub IsOver : Claim
IsOver entries server added = AreDue [] entries server added

-- a connection that is due has nothing left to be sent
pub record IsSent (number : ℕ) (entries : DirectoryEntries) (server : ServerState) (added : List Item) : Type 0 where
  pub due : IsDue number entries server added
  pub empty : queue_of number server.hub.kept ≡ []

-- and it isn't on hold
pub record IsFree (number : ℕ) (entries : DirectoryEntries) (server : ServerState) (added : List Item) : Type 0 where
  pub sent : IsSent number entries server added
  pub free : is_listed number server.on_hold ≡ false

-- it took no more now
abbrev pub IsRefused : ℕ → Claim
IsRefused number entries server added = Refused (rules_of server) entries number server.due (held_by server) server.on_hold added

-- it was found lost
abbrev pub IsLost : ℕ → Claim
IsLost number entries server added = Lost (rules_of server) entries number server.due (held_by server) server.on_hold added

-- what a queue's sending came to
abbrev pub SentIs : ℕ → Sent → Claim
SentIs number sent.All entries server added = IsSent number entries server added
SentIs number sent.Later entries server added = IsRefused number entries server added
SentIs number sent.Gone entries server added = IsLost number entries server added

-- the same of its answer
abbrev pub SentAs : {E : Type 0} → ℕ → Result Sent E → Claim
SentAs number (Ok came) entries server added = SentIs number came entries server added
SentAs number (Err fault) entries server added = IsRight entries server added

-- an event was heard last, which may come, and before it nobody was due
pub record IsHeard (last_event : Event) (entries : DirectoryEntries) (server : ServerState) (added : List Item) : Type 0 where
  pub before : List Item
  pub last : added ≡ before ++ item.Heard last_event ∷ []
  pub opens : (number : ℕ) → last_event ≡ event.Opened number → was_opened number before ≡ false
  pub works : IsOver entries server before

-- a connection opened for which there was no room, and the hub doesn't hold it
pub record IsTurnedAway (number : ℕ) (entries : DirectoryEntries) (server : ServerState) (added : List Item) : Type 0 where
  pub old : ServerState
  pub heard : IsHeard (event.Opened number) entries old added
  pub full : most_held ≤ length old.hub.kept
  pub same : held_by server ≡ model.heard (rules_of server) (Opened number) (held_by old)
  pub bounds : server.hub.bounds ≡ old.hub.bounds
  pub on_hold : server.on_hold ≡ old.on_hold

-- whether an answer of a link is Stop
abbrev pub stops_with : Answer → Bool
stops_with answer.Stop = true
stops_with (answer.Opened number) = false
stops_with (answer.Bytes number count) = false
stops_with (answer.Ended number) = false
stops_with (answer.Ready number) = false
stops_with answer.Idle = false
