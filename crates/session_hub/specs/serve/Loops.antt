-- What a loop over a link adds to the link's journal, and what it answers when it ends.
use Rattle.std.specs.Prelude.{◌≡◌, ◌<◌, ◌≤◌, ◌⊎◌, ℕ, Bool, true, false, cond, List, [], ◌∷◌, ◌++◌, length, Option, Some, None}
use Rattle.std.specs.List.{AllByRecursion}
use Rattle.dir_tree.specs.plain_values.Counts.{Rose, NeverFalls}
use Rattle.dir_tree.specs.dn_names.name.Names.{RdnSequence}
use Rattle.session_model.specs.wire_io.declared.journal.Event.{Event}
use Rattle.session_model.specs.wire_io.declared.journal.Event.TheVariants.{Opened}
use Rattle.session_model.specs.wire_io.declared.journal.Item.{Item}
use Rattle.session_model.specs.wire_io.Journal.{heard, was_stopped, is_held}
use Rattle.session_model.specs.wire_io.link.Plan.{Plan}
use Rattle.session_model.specs.wire_io.Pieces as pieces
use Rattle.session_model.specs.wire_io.Pieces.{Plays}
use Rattle.session_model.specs.Run.{Step, start, run}
use Rattle.session_model.specs.Journaled.{HasCut, steps_of, all_taken}
use Rattle.session_model.specs.Serving.{Served, Leads}
use Rattle.session_model.specs.Replaying.{IsReplay}
use Rattle.session_model.specs.AnsweredMessages.{answered_of_run}
use Rattle.session_hub.specs.Parties.{DirectoryEntries}
use Rattle.session_hub.specs.Terms.{Terms}
use Rattle.session_hub.specs.declared.ended.Ended.{Ended}
use Rattle.session_hub.specs.declared.ended.Ended.TheVariants.{Stopped, TurnsSpent, LinkFault, StoreFault, NoMemory}
use Rattle.session_hub.specs.Answering.{rules}
use Rattle.session_hub.specs.Twins.{IsOverTwins}

-- the length of the loop's buffer
abbrev pub buffer_length : ℕ
buffer_length = 65536

-- each answer and the events heard: Stop was heard with Stopped, and as many events as there are turns, none of them Stop,
-- with TurnsSpent
abbrev pub EndsAt : ℕ → List Item → Ended → Type 0
EndsAt turns added Stopped = (was_stopped added ≡ true) × (length (heard added) ≤ turns)
EndsAt turns added TurnsSpent = (was_stopped added ≡ false) × (length (heard added) ≡ turns)
EndsAt turns added LinkFault = (was_stopped added ≡ false) × (length (heard added) < turns)
EndsAt turns added StoreFault = length (heard added) ≤ turns
EndsAt turns added NoMemory = length (heard added) ≤ turns

-- the journal serves its connections by its own steps from nothing and from these entries, and those left are what the
-- steps leave
pub record IsServed (terms : Terms) (entries left : DirectoryEntries) (added : List Item) : Type 0 where
  pub served : Served (rules terms) entries (steps_of added) added
  pub entries_left : left ≡ (run (rules terms) entries (steps_of added)).tree

-- nothing was cut; with NoMemory connections may have been, each once, for want of memory or since more waited for them than
-- they have room for, and the last block may be unfinished; so it is with StoreFault
abbrev pub ServedAs : Terms → DirectoryEntries → DirectoryEntries → List Item → Ended → Type 0
ServedAs terms entries left added Stopped = IsServed terms entries left added
ServedAs terms entries left added TurnsSpent = IsServed terms entries left added
ServedAs terms entries left added LinkFault = IsServed terms entries left added
ServedAs terms entries left added StoreFault = Leads (rules terms) entries left added
ServedAs terms entries left added NoMemory = Leads (rules terms) entries left added

-- the journal is that of its events replayed
abbrev pub ReplayedAs : Terms → DirectoryEntries → List Item → Ended → Type 0
ReplayedAs terms entries added Stopped = IsReplay (rules terms) entries (steps_of added) added
ReplayedAs terms entries added TurnsSpent = IsReplay (rules terms) entries (steps_of added) added
ReplayedAs terms entries added LinkFault = IsReplay (rules terms) entries (steps_of added) added
ReplayedAs terms entries added StoreFault = Unit {0}
ReplayedAs terms entries added NoMemory = Unit {0}

-- what a link added in a loop of so many turns: the answer is one that its events have, and its connections were served;
-- where each write took octets, that is its events replayed
pub record ServesAll (terms : Terms) (entries left : DirectoryEntries) (turns : ℕ) (added : List Item) (ended : Ended) : Type 0 where
  pub ends : EndsAt turns added ended
  pub served : ServedAs terms entries left added ended
  pub replayed : all_taken added ≡ true → ReplayedAs terms entries added ended

-- the same of any journal that the link tells
unfoldable pub Serves : Terms → DirectoryEntries → DirectoryEntries → ℕ → Option (List Item) → Ended → Option (List Item) → Type 0
Serves terms entries left turns before ended after =
    (begun : List Item) → before ≡ Some begun → (added : List Item) × (after ≡ Some (begun ++ added)) × ServesAll terms entries left turns added ended

-- where nothing was cut, the journal serves its connections over other entries too, where each message that its steps answer is
-- answered over twins
abbrev pub ServesTwins : Terms → DirectoryEntries → Option (List Item) → Ended → Option (List Item) → Type 0
ServesTwins terms entries before ended after =
    (begun added : List Item) (other : DirectoryEntries) (top : RdnSequence) → before ≡ Some begun → after ≡ Some (begun ++ added) →
    (ended ≡ NoMemory → ⊥) → (ended ≡ StoreFault → ⊥) →
    AllByRecursion (IsOverTwins other top) (answered_of_run (rules terms) (start (rules terms) entries) (steps_of added)) →
    Served (rules terms) other (steps_of added) added

-- a link that plays a plan: the events heard brought the plan on, to its end with Stopped; where no calls are planned
-- that take nothing, each write took octets and, where no connection was on hold, each event but Stop brought the plan on
pub record PlayedOut (turns : ℕ) (begun added : List Item) (plan left : Plan) (ended : Ended) : Type 0 where
  pub plays : Plays buffer_length plan.to_come (heard added) left.to_come
  pub over : ended ≡ Stopped → left.to_come ≡ []
  pub taken : plan.later ≡ [] → plan.gone ≡ [] → all_taken added ≡ true
  pub steps : plan.later ≡ [] → plan.gone ≡ [] → ((number : ℕ) → is_held number begun ≡ false) → ended ≡ TurnsSpent → length (pieces.steps_of (heard added)) ≡ turns

-- the same of any plan and journal that the link tells
unfoldable pub PlaysOut : ℕ → Option (List Item) → Option Plan → Ended → Option (List Item) → Option Plan → Type 0
PlaysOut turns before plan_before ended after plan_after =
    (begun added : List Item) (plan : Plan) → before ≡ Some begun → after ≡ Some (begun ++ added) → plan_before ≡ Some plan →
    (left : Plan) × (plan_after ≡ Some left) × PlayedOut turns begun added plan left ended

-- a link that plays a plan fails only where a failing call is planned
abbrev pub MayFail : Option Plan → Type 0
MayFail None = Unit {0}
MayFail (Some plan) = plan.failing ≡ [] → ⊥

-- a fault of the link comes exactly where its count of faults rose, and one of its store exactly where that count did, the
-- other being as it was; neither comes where a plan has no failing calls, and the store's only where changes are kept; with want
-- of memory one of the link may have come as well
unfoldable pub EndsFor : Bool → Option Plan → ℕ → ℕ → ℕ → ℕ → Ended → Type 0
EndsFor keeps plan before after store_before store_after LinkFault = Rose before after × (store_after ≡ store_before) × MayFail plan
EndsFor keeps plan before after store_before store_after StoreFault = Rose store_before store_after × (after ≡ before) × MayFail plan × (keeps ≡ true)
EndsFor keeps plan before after store_before store_after Stopped = (after ≡ before) × (store_after ≡ store_before)
EndsFor keeps plan before after store_before store_after TurnsSpent = (after ≡ before) × (store_after ≡ store_before)
EndsFor keeps plan before after store_before store_after NoMemory = NeverFalls before after × (store_after ≡ store_before)

-- the event that was heard last opened a connection
pub record OpensLast (added : List Item) : Type 0 where
  pub number : ℕ
  pub earlier : List Event
  pub last : heard added ≡ earlier ++ Opened number ∷ []

-- why a loop had no memory, by its steps and its link's count of refusals: nothing was heard yet, so that it may be what the
-- loop is made of; or a connection opened last; or some connection was cut; or the link refused a call
abbrev pub MemoryCause : List Step → List Item → ℕ → ℕ → Type 0
MemoryCause steps added before after = (heard added ≡ []) ⊎ OpensLast added ⊎ HasCut steps ⊎ Rose before after

-- the journal leads by steps that have such a cause
pub record IsStarved (terms : Terms) (entries left : DirectoryEntries) (added : List Item) (before after : ℕ) : Type 0 where
  pub leads : Leads (rules terms) entries left added
  pub cause : MemoryCause leads.steps added before after

-- a loop ends for want of memory with a cause alone, where its link tells its journal
unfoldable pub Starves : Terms → DirectoryEntries → DirectoryEntries → Option (List Item) → ℕ → Ended → Option (List Item) → ℕ → Type 0
Starves terms entries left before refusals ended after refusals_after =
    (begun : List Item) → before ≡ Some begun → ended ≡ NoMemory →
    (added : List Item) × (after ≡ Some (begun ++ added)) × IsStarved terms entries left added refusals refusals_after

-- the answer of a loop in which a connection was cut
abbrev pub ends_with : Bool → Ended → Ended
ends_with was_cut ended = cond was_cut NoMemory ended
