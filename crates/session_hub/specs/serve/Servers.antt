-- The server of a loop at one moment, and what each of its calls keeps, for the loop's own functions alone.
use Rattle.std.specs.Prelude.{◌≡◌, ◌⊎◌, ℕ, false, List, Option, Result, Ok, Err}
use Rattle.dir_tree.specs.plain_values.Counts.{Rose, NeverFalls}
use Rattle.session_model.specs.wire_io.declared.answers.Heard.{Heard as Answer}
use Rattle.session_model.specs.wire_io.declared.answers.Heard.TheVariants as answer
use Rattle.session_model.specs.wire_io.declared.answers.NextFault.{NextFault}
use Rattle.session_model.specs.wire_io.declared.answers.NextFault.TheVariants.{Failed, NoMemory}
use Rattle.session_model.specs.wire_io.declared.journal.Item.{Item}
use Rattle.session_model.specs.wire_io.declared.link.Link.{Ghosts as Told}
use Rattle.session_model.specs.wire_io.Answers.{IsPlanned}
use Rattle.session_model.specs.wire_io.link.Plan.{Plan}
use Rattle.session_model.specs.Rules.{Rules}
use Rattle.session_model.specs.Kept.{Held}
use Rattle.session_hub.specs.Parties.{DirectoryEntries, Requester}
use Rattle.session_hub.specs.Answering.{rules}
use Rattle.session_hub.specs.hub.Hubs.{HubState, held}

-- what a link tells at one moment: all that it did, what it still has to give, and its counts of faults, of faults of its
-- store, of connections found lost and of refusals
pub record LinkState : Type 0 where
  pub journal : Option (List Item)
  pub plan : Option Plan
  pub faults : ℕ
  pub store_faults : ℕ
  pub lost : ℕ
  pub refusals : ℕ

-- the state of a link, by what its kind tells
abbrev pub state_of : {Link : Type 0} → Told Link → Link → LinkState
state_of told link =
    record {
      journal = told.journal link;
      plan = told.plan link;
      faults = told.faults link;
      store_faults = told.store_faults link;
      lost = told.lost link;
      refusals = told.refusals link;
    }

-- what a server holds, the entries of its directory, who is due, who is on hold, what its link tells, and which directory and
-- which link these are, by the names of their borrows
pub record ServerState : Type 0 where
  pub hub : HubState
  pub entries : DirectoryEntries
  pub due : List ℕ
  pub on_hold : List ℕ
  pub link : LinkState
  pub borrows : ℕ × ℕ

-- the rules by which a server answers
abbrev pub rules_of : ServerState → Rules DirectoryEntries Requester
rules_of server = rules server.hub.bounds.terms

-- what a server holds, with the entries of its directory
abbrev pub held_by : ServerState → Held DirectoryEntries Requester
held_by server = held server.entries server.hub

-- what each call within an event keeps: its directory and its link, the bounds, the plan and the count of faults; no connection
-- that was lost comes back, and no refusal of the link is taken back
pub record Stays (old new : ServerState) : Type 0 where
  pub borrows : new.borrows ≡ old.borrows
  pub bounds : new.hub.bounds ≡ old.hub.bounds
  pub plan : new.link.plan ≡ old.link.plan
  pub faults : new.link.faults ≡ old.link.faults
  pub lost : NeverFalls old.link.lost new.link.lost
  pub refusals : NeverFalls old.link.refusals new.link.refusals

-- a call that serves stores nothing either, and leaves nothing more to be stored
pub record OnlyServes (old new : ServerState) : Type 0 where
  pub stays : Stays old new
  pub store_faults : new.link.store_faults ≡ old.link.store_faults
  pub unstored : new.hub.unstored ≡ old.hub.unstored

-- and one that serves a connection leaves due whoever else was
pub record OnlySettles (old new : ServerState) : Type 0 where
  pub serves : OnlyServes old new
  pub due : new.due ≡ old.due

-- a call that begins a block stores nothing either, and leaves nothing more to be stored where changes aren't kept
pub record OnlyHears (old new : ServerState) : Type 0 where
  pub stays : Stays old new
  pub store_faults : new.link.store_faults ≡ old.link.store_faults
  pub unkept : old.hub.bounds.terms.keeps ≡ false → new.hub.unstored ≡ old.hub.unstored

-- when each answer of a call that stores comes: with a fault, where there was something to be stored, the count of the store's
-- faults rises, and with want of memory it had this cause
abbrev pub StoreCause : {X : Type 0} → Type 0 → Type 0 → ServerState → Result X NextFault → ServerState → Type 0
StoreCause stores wants old (Ok value) new = new.link.store_faults ≡ old.link.store_faults
StoreCause stores wants old (Err Failed) new = Rose old.link.store_faults new.link.store_faults × IsPlanned (λ plan. plan.failing) old.link.plan × stores
StoreCause stores wants old (Err NoMemory) new = (new.link.store_faults ≡ old.link.store_faults) × wants

-- the link refused a call for want of memory
abbrev pub HasRefused : ServerState → ServerState → Type 0
HasRefused old new = Rose old.link.refusals new.link.refusals

-- whether an answer of a link opens a connection
abbrev pub IsOpening : Answer → Type 0
IsOpening (answer.Opened number) = Unit {0}
IsOpening (answer.Bytes number count) = ⊥
IsOpening (answer.Ended number) = ⊥
IsOpening (answer.Ready number) = ⊥
IsOpening answer.Idle = ⊥
IsOpening answer.Stop = ⊥

-- the block of an event has no memory where the event opened a connection, or where the link refused a call
abbrev pub HasNoMemory : Answer → ServerState → ServerState → Type 0
HasNoMemory given old new = IsOpening given ⊎ HasRefused old new
