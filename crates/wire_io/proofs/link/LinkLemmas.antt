-- Lemmas on what the answers of a link say, one answer at a time.
use Rattle.std.proofs.Common.{◌≡◌, ℕ, ◌<◌, Bool, true, false, List, [], ◌∷◌, ◌++◌, length, Option, Some, Result, Ok, Err, refl, ap, sym, ◌∙◌, subst, if◌then◌else◌}
use Rattle.plain_values.specs.Counts.{Rose, NeverFalls}
use Rattle.plain_values.proofs.Theorems.{Rose-never_falls}
use Rattle.script_text.specs.declared.event.ScriptEvent.{ScriptEvent}
use Rattle.script_text.specs.declared.event.ScriptEvent.TheVariants as script
use Rattle.wire_io.specs.declared.answers.Heard.{Heard as Answer}
use Rattle.wire_io.specs.declared.answers.NextFault.{NextFault}
use Rattle.wire_io.specs.declared.answers.NextFault.TheVariants.{Failed, NoMemory}
use Rattle.wire_io.specs.declared.answers.Took.{Took}
use Rattle.wire_io.specs.declared.answers.Took.TheVariants as took
use Rattle.wire_io.specs.declared.journal.Event.{Event}
use Rattle.wire_io.specs.declared.journal.Event.TheVariants.{Opened, Bytes, Ended, Ready, Idle, Stop}
use Rattle.wire_io.specs.declared.journal.Item.{Item}
use Rattle.wire_io.specs.declared.journal.Item.TheVariants.{Heard, OpenedAt, Taken, Later, Gone, Held, Released, HungUp, StoreOpened, StoreCut, Stored}
use Rattle.wire_io.specs.Answers.{IsPlanned, LinkCause, WriteCause, RefusalCause, WriteRefusal, NoteRefusal}
use Rattle.wire_io.specs.Journal.{heard}
use Rattle.wire_io.specs.Pieces.{Plays}
use Rattle.wire_io.specs.link.Plan.{Plan}
use Rattle.wire_io.specs.Playing.{conn_of, first_turn, front_turn, next_turn, holds_of, NextPlays}
use Rattle.wire_io.specs.link.Telling.{event_of}
use Rattle.wire_io.proofs.laws.PiecesLemmas.{Plays-turn}

-- the events heard, of two parts of a journal
pub heard-append : (front back : List Item) → heard (front ++ back) ≡ heard front ++ heard back
unfolding heard
heard-append [] back = refl
heard-append (Heard event ∷ front) back = ap (λ rest. event ∷ rest) (heard-append front back)
heard-append (OpenedAt address sessions done ∷ front) back = heard-append front back
heard-append (Taken conn octets ∷ front) back = heard-append front back
heard-append (Later conn ∷ front) back = heard-append front back
heard-append (Gone conn ∷ front) back = heard-append front back
heard-append (Held conn ∷ front) back = heard-append front back
heard-append (Released conn ∷ front) back = heard-append front back
heard-append (HungUp conn ∷ front) back = heard-append front back
heard-append (StoreOpened name done ∷ front) back = heard-append front back
heard-append (StoreCut length ∷ front) back = heard-append front back
heard-append (Stored octets ∷ front) back = heard-append front back

-- the answer is the next event of the plan, and the plan goes on
pub NextPlays-ok :
    (E : Type 0) (journal : Option (List Item)) (plan after : Plan) (buf : List ℕ) (given : Answer)
    → NextPlays {E = E} journal (Some plan) buf (Ok given) (Some after)
    → (event_of buf given ≡ (next_turn (holds_of journal) (length buf) plan.to_come).event) × (after ≡ record plan { to_come = (next_turn (holds_of journal) (length buf) plan.to_come).left })
unfolding NextPlays
NextPlays-ok E journal plan after buf given plays = (plays.0, cc (plays.1))

-- a plan that is told stays told
pub NextPlays-told :
    {E : Type 0} (journal : Option (List Item)) (plan : Plan) (buf : List ℕ) (result : Result Answer E) (new : Option Plan)
    → NextPlays journal (Some plan) buf result new → (after : Plan) × (new ≡ Some after)
unfolding NextPlays
NextPlays-told journal plan buf (Ok given) new plays = (record plan { to_come = (next_turn (holds_of journal) (length buf) plan.to_come).left }, plays.1)
NextPlays-told journal plan buf (Err fault) new plays = (plan, plays)

-- one event heard brings the script on
pub Plays-heard :
    (E : Type 0) (journal : Option (List Item)) (plan after : Plan) (buf : List ℕ) (given : Answer) → 0 < length buf
    → NextPlays {E = E} journal (Some plan) buf (Ok given) (Some after) → Plays (length buf) plan.to_come (event_of buf given ∷ []) after.to_come
Plays-heard E journal plan after buf given some plays =
    let turned : (event_of buf given ≡ (next_turn (holds_of journal) (length buf) plan.to_come).event) × (after ≡ record plan { to_come = (next_turn (holds_of journal) (length buf) plan.to_come).left }) =
    NextPlays-ok E journal plan after buf given plays in
    let P : Event → Type 0 = λ event. Plays (length buf) plan.to_come (event ∷ []) after.to_come in
    let Q : List ScriptEvent → Type 0 = λ left. Plays (length buf) plan.to_come ((next_turn (holds_of journal) (length buf) plan.to_come).event ∷ []) left in
    subst P (sym turned.0) (subst Q (sym (ap (λ plan. plan.to_come) turned.1)) (Plays-turn (holds_of journal) (length buf) plan.to_come some))

-- the first planned event is none of Ready, Idle and Stop
unfoldable pub IsStep : Event → Type 0
IsStep (Opened conn) = Unit {0}
IsStep (Bytes conn octets) = Unit {0}
IsStep (Ended conn) = Unit {0}
IsStep (Ready conn) = ⊥
IsStep Idle = ⊥
IsStep Stop = ⊥

first_turn-step : (len : ℕ) (event : ScriptEvent) (events : List ScriptEvent) → IsStep (first_turn len event events).event
unfolding IsStep first_turn
first_turn-step len (script.Opened conn) events = tt
first_turn-step len (script.Bytes conn octets) events = tt
first_turn-step len (script.Ended conn) events = tt

-- what an event says of the plan: Stop comes after the last, Ready only for a connection on hold
unfoldable pub SaysOf : (ℕ → Bool) → Event → List ScriptEvent → Type 0
SaysOf on_hold (Ready conn) events = on_hold conn ≡ true
SaysOf on_hold Idle events = ⊥
SaysOf on_hold Stop events = events ≡ []
SaysOf on_hold _ events = Unit {0}

SaysOf-step : (on_hold : ℕ → Bool) (event : Event) (events : List ScriptEvent) → IsStep event → SaysOf on_hold event events
unfolding IsStep SaysOf
SaysOf-step on_hold (Opened conn) events step = tt
SaysOf-step on_hold (Bytes conn octets) events step = tt
SaysOf-step on_hold (Ended conn) events step = tt
SaysOf-step on_hold (Ready conn) events step = absurd step
SaysOf-step on_hold Idle events step = absurd step
SaysOf-step on_hold Stop events step = absurd step

SaysOf-first :
    (on_hold : ℕ → Bool) (len : ℕ) (event : ScriptEvent) (events : List ScriptEvent) (held : Bool) → on_hold (conn_of event) ≡ held
    → SaysOf on_hold (if held then record { event = Ready (conn_of event); left = event ∷ events } else front_turn len (event ∷ events)).event (event ∷ events)
unfolding SaysOf front_turn
SaysOf-first on_hold len event events true is = is
SaysOf-first on_hold len event events false is = SaysOf-step on_hold (first_turn len event events).event (event ∷ events) (first_turn-step len event events)

SaysOf-turn : (on_hold : ℕ → Bool) (len : ℕ) (events : List ScriptEvent) → SaysOf on_hold (next_turn on_hold len events).event events
unfolding SaysOf next_turn front_turn
SaysOf-turn on_hold len [] = refl
SaysOf-turn on_hold len (event ∷ events) = SaysOf-first on_hold len event events (on_hold (conn_of event)) refl

-- the same of an answer
pub NextPlays-says :
    (E : Type 0) (journal : Option (List Item)) (plan after : Plan) (buf : List ℕ) (given : Answer)
    → NextPlays {E = E} journal (Some plan) buf (Ok given) (Some after) → SaysOf (holds_of journal) (event_of buf given) plan.to_come
NextPlays-says E journal plan after buf given plays =
    let turned : (event_of buf given ≡ (next_turn (holds_of journal) (length buf) plan.to_come).event) × (after ≡ record plan { to_come = (next_turn (holds_of journal) (length buf) plan.to_come).left }) =
    NextPlays-ok E journal plan after buf given plays in
    let P : Event → Type 0 = λ event. SaysOf (holds_of journal) event plan.to_come in
    subst P (sym turned.0) (SaysOf-turn (holds_of journal) (length buf) plan.to_come)

-- after the last event comes Stop
pub NextPlays-stop :
    (E : Type 0) (journal : Option (List Item)) (plan after : Plan) (buf : List ℕ) (given : Answer) → plan.to_come ≡ []
    → NextPlays {E = E} journal (Some plan) buf (Ok given) (Some after) → event_of buf given ≡ Stop
unfolding next_turn front_turn
NextPlays-stop E journal plan after buf given none plays =
    let turned : (event_of buf given ≡ (next_turn (holds_of journal) (length buf) plan.to_come).event) × (after ≡ record plan { to_come = (next_turn (holds_of journal) (length buf) plan.to_come).left }) =
    NextPlays-ok E journal plan after buf given plays in
    turned.0 ∙ ap (λ events. (next_turn (holds_of journal) (length buf) events).event) none

-- the count of faults stays where an answer was given
pub LinkCause-given : {T : Type 0} (plan : Option Plan) (before after : ℕ) (answer : T) → LinkCause plan before after (Ok answer) → after ≡ before
unfolding LinkCause
LinkCause-given plan before after answer cause = cause

-- and where memory was wanted
pub LinkCause-starved : (T : Type 0) (plan : Option Plan) (before after : ℕ) → LinkCause {T = T} plan before after (Err NoMemory) → after ≡ before
unfolding LinkCause
LinkCause-starved T plan before after cause = cause

-- the count of lost connections never falls, whatever the answer
pub WriteCause-never_falls : (plan : Option Plan) (before after : ℕ) (answer : Took) → WriteCause plan before after answer → NeverFalls before after
unfolding WriteCause
WriteCause-never_falls plan before after (took.Took count) cause = cause
WriteCause-never_falls plan before after took.Later cause = cause.0
WriteCause-never_falls plan before after took.Gone cause = Rose-never_falls cause.0
WriteCause-never_falls plan before after took.NoMemory cause = cause

-- a lost connection has its cause
pub WriteCause-gone : (plan : Option Plan) (before after : ℕ) → WriteCause plan before after took.Gone → Rose before after
unfolding WriteCause
WriteCause-gone plan before after cause = cause.0

-- a link whose plan has no such calls does not answer Later, or Gone
pub WriteCause-never_later : (plan : Plan) (before after : ℕ) → plan.later ≡ [] → WriteCause (Some plan) before after took.Later → ⊥
unfolding WriteCause IsPlanned
WriteCause-never_later plan before after none cause = cause.1 none

pub WriteCause-never_gone : (plan : Plan) (before after : ℕ) → plan.gone ≡ [] → WriteCause (Some plan) before after took.Gone → ⊥
unfolding WriteCause IsPlanned
WriteCause-never_gone plan before after none cause = cause.1 none

-- the count of refusals never falls, whatever the answer
pub RefusalCause-never_falls : {T : Type 0} (before after : ℕ) (result : Result T NextFault) → RefusalCause before after result → NeverFalls before after
unfolding RefusalCause
RefusalCause-never_falls before after (Ok answer) cause = cause
RefusalCause-never_falls before after (Err Failed) cause = cause
RefusalCause-never_falls before after (Err NoMemory) cause = Rose-never_falls cause

pub WriteRefusal-never_falls : (before after : ℕ) (answer : Took) → WriteRefusal before after answer → NeverFalls before after
unfolding WriteRefusal
WriteRefusal-never_falls before after (took.Took count) cause = cause
WriteRefusal-never_falls before after took.Later cause = cause
WriteRefusal-never_falls before after took.Gone cause = cause
WriteRefusal-never_falls before after took.NoMemory cause = Rose-never_falls cause

pub NoteRefusal-never_falls : {T E : Type 0} (before after : ℕ) (result : Result T E) → NoteRefusal before after result → NeverFalls before after
unfolding NoteRefusal
NoteRefusal-never_falls before after (Ok answer) cause = cause
NoteRefusal-never_falls before after (Err want) cause = Rose-never_falls cause

-- and it rises with want of memory
pub RefusalCause-starved : (T : Type 0) (before after : ℕ) → RefusalCause {T = T} before after (Err NoMemory) → Rose before after
unfolding RefusalCause
RefusalCause-starved T before after cause = cause

pub WriteRefusal-starved : (before after : ℕ) → WriteRefusal before after took.NoMemory → Rose before after
unfolding WriteRefusal
WriteRefusal-starved before after cause = cause

pub NoteRefusal-starved : (T : Type 0) {E : Type 0} (before after : ℕ) (want : E) → NoteRefusal {T = T} before after (Err want) → Rose before after
unfolding NoteRefusal
NoteRefusal-starved T before after want cause = cause
