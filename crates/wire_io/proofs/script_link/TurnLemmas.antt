-- Lemmas on the next event of a script: it may come, and those left may come after it.
use Rattle.std.proofs.Common.{◌≡◌, ℕ, Bool, true, false, ◌||◌, List, [], ◌∷◌, ◌++◌, take, drop, nat_eq, Some, Ok, refl, ap, sym, ◌∙◌, subst, arith, if◌then◌else◌, eq-eqb}
use Rattle.std.specs.List.{IsDistinct, AllByRecursion}
use Rattle.script_text.specs.declared.event.ScriptEvent.{ScriptEvent}
use Rattle.script_text.specs.declared.event.ScriptEvent.TheVariants as script
use Rattle.script_text.specs.script.Script.{opened_by, has}
use Rattle.wire_io.specs.declared.journal.Event.{Event}
use Rattle.wire_io.specs.declared.journal.Event.TheVariants.{Opened, Bytes, Ended, Ready, Stop}
use Rattle.wire_io.specs.declared.journal.Item.{Item}
use Rattle.wire_io.specs.declared.journal.Item.TheVariants.{Heard}
use Rattle.wire_io.specs.Journal.{opens, was_opened, stops, was_stopped, is_held}
use Rattle.wire_io.specs.Playing.{Turn, conn_of, left_over, first_turn, front_turn, next_turn, holds_of}
use Rattle.wire_io.specs.Scripted.{IsPlayable}
use Rattle.wire_io.specs.link.Telling.{MayCome, StaysStopped, NextTells, event_of}
use Rattle.wire_io.specs.declared.answers.Heard.{Heard as Answer}
use Rattle.wire_io.proofs.journal.JournalLemmas.{was_opened-push}
use Rattle.wire_io.proofs.script_link.PlayableLemmas.{was_opened-quiet, was_stopped-quiet}

-- the turn's event may come, and the events left may come after it
pub record IsGoodTurn (journal : List Item) (turn : Turn) : Type 0 where
  pub may : MayCome journal turn.event
  pub stays : StaysStopped journal turn.event
  pub playable : IsPlayable (journal ++ Heard turn.event ∷ []) turn.left

-- a number is not among those that it differs from
not_among : (number : ℕ) (numbers : List ℕ) → AllByRecursion (λ other. nat_eq number other ≡ false) numbers → has number numbers ≡ false
not_among number [] differ = refl
not_among number (other ∷ numbers) differ = rw differ.0 (not_among number numbers differ.1)

among_first : (number : ℕ) (numbers : List ℕ) → has number (number ∷ numbers) ≡ true
among_first number numbers = rw (eq-eqb number number refl) refl

same_number : (first second : ℕ) → nat_eq first second ≡ true → first ≡ second
same_number first second same = grind arith

or-right : (first second : Bool) → first || second ≡ false → second ≡ false
or-right true second none = absurd (cc)
or-right false second none = none

-- there are events, so it was not stopped
not_stopped : {journal : List Item} {event : ScriptEvent} {events : List ScriptEvent} → IsPlayable journal (event ∷ events) → was_stopped journal ≡ true → ⊥
not_stopped playable stopped = let none = playable.stopped stopped in absurd (cc)

-- an event that opens nothing and isn't Stop
IsPlayable-heard :
    (journal : List Item) (event : Event) (events : List ScriptEvent)
    → ((conn : ℕ) → opens conn (Heard event) ≡ false) → stops (Heard event) ≡ false → IsPlayable journal events → IsPlayable (journal ++ Heard event ∷ []) events
IsPlayable-heard journal event events no_open no_stop playable = record {
  once = playable.once;
  filled = playable.filled;
  fresh = λ conn opened. playable.fresh conn (sym (was_opened-quiet conn journal (Heard event) (no_open conn)) ∙ opened);
  stopped = λ stopped. playable.stopped (sym (was_stopped-quiet journal (Heard event) no_stop) ∙ stopped);
}

-- the events after the first
IsPlayable-tail-bytes :
    (journal : List Item) (conn : ℕ) (octets : List ℕ) (events : List ScriptEvent) → IsPlayable journal (script.Bytes conn octets ∷ events) → IsPlayable journal events
IsPlayable-tail-bytes journal conn octets events playable = record {
  once = playable.once;
  filled = playable.filled.1;
  fresh = λ number opened. playable.fresh number opened;
  stopped = λ stopped. absurd (not_stopped playable stopped);
}

IsPlayable-tail-ended :
    (journal : List Item) (conn : ℕ) (events : List ScriptEvent) → IsPlayable journal (script.Ended conn ∷ events) → IsPlayable journal events
IsPlayable-tail-ended journal conn events playable = record {
  once = playable.once;
  filled = playable.filled.1;
  fresh = λ number opened. playable.fresh number opened;
  stopped = λ stopped. absurd (not_stopped playable stopped);
}

-- octets left of the first event
IsPlayable-left_over :
    (journal : List Item) (conn : ℕ) (octets rest : List ℕ) (events : List ScriptEvent)
    → IsPlayable journal (script.Bytes conn octets ∷ events) → IsPlayable journal (left_over conn rest events)
unfolding left_over
IsPlayable-left_over journal conn octets [] events playable = IsPlayable-tail-bytes journal conn octets events playable
IsPlayable-left_over journal conn octets (octet ∷ rest) events playable = record {
  once = playable.once;
  filled = (omega arith, playable.filled.1);
  fresh = λ number opened. playable.fresh number opened;
  stopped = λ stopped. absurd (not_stopped playable stopped);
}

-- octets come
good_bytes :
    (journal : List Item) (conn len : ℕ) (octets : List ℕ) (events : List ScriptEvent)
    → is_held conn journal ≡ false → IsPlayable journal (script.Bytes conn octets ∷ events)
    → IsGoodTurn journal (record { event = Bytes conn (take len octets); left = left_over conn (drop len octets) events })
unfolding MayCome StaysStopped opens stops
good_bytes journal conn len octets events free playable = record {
  may = free;
  stays = λ stopped. absurd (not_stopped playable stopped);
  playable = IsPlayable-heard journal (Bytes conn (take len octets)) (left_over conn (drop len octets) events) (λ number. refl) refl
      (IsPlayable-left_over journal conn octets (drop len octets) events playable);
}

-- a connection ends
good_ended :
    (journal : List Item) (conn : ℕ) (events : List ScriptEvent) → IsPlayable journal (script.Ended conn ∷ events) → IsGoodTurn journal (record { event = Ended conn; left = events })
unfolding MayCome StaysStopped opens stops
good_ended journal conn events playable = record {
  may = tt;
  stays = λ stopped. absurd (not_stopped playable stopped);
  playable = IsPlayable-heard journal (Ended conn) events (λ number. refl) refl (IsPlayable-tail-ended journal conn events playable);
}

-- a connection on hold may go on
good_ready :
    (journal : List Item) (conn : ℕ) (event : ScriptEvent) (events : List ScriptEvent)
    → IsPlayable journal (event ∷ events) → IsGoodTurn journal (record { event = Ready conn; left = event ∷ events })
unfolding MayCome StaysStopped opens stops
good_ready journal conn event events playable = record {
  may = tt;
  stays = λ stopped. absurd (not_stopped playable stopped);
  playable = IsPlayable-heard journal (Ready conn) (event ∷ events) (λ number. refl) refl playable;
}

-- no event is left
good_stop : (journal : List Item) → IsPlayable journal [] → IsGoodTurn journal (record { event = Stop; left = [] })
unfolding MayCome StaysStopped opens
good_stop journal playable = record {
  may = tt;
  stays = λ stopped. refl;
  playable = record {
    once = playable.once;
    filled = playable.filled;
    fresh = λ conn opened. playable.fresh conn (sym (was_opened-quiet conn journal (Heard Stop) refl) ∙ opened);
    stopped = λ stopped. refl;
  };
}

-- a number that was opened is not opened by the events after one that opens another
fresh_after :
    (journal : List Item) (number : ℕ) (events : List ScriptEvent) (conn : ℕ) (before : Bool) → was_opened conn journal ≡ before → before || nat_eq number conn ≡ true
    → IsPlayable journal (script.Opened number ∷ events) → has conn (opened_by events) ≡ false
unfolding IsDistinct
fresh_after journal number events conn true is opened playable = or-right (nat_eq conn number) (has conn (opened_by events)) (playable.fresh conn is)
fresh_after journal number events conn false is opened playable =
    let same : number ≡ conn = same_number number conn opened in
    let P : ℕ → Type 0 = λ other. has other (opened_by events) ≡ false in
    subst P same (not_among number (opened_by events) playable.once.0)

-- a connection is opened that was not opened before
not_opened :
    (journal : List Item) (conn : ℕ) (events : List ScriptEvent) (before : Bool) → was_opened conn journal ≡ before
    → IsPlayable journal (script.Opened conn ∷ events) → before ≡ false
not_opened journal conn events true is playable = let none = playable.fresh conn is in let some = among_first conn (opened_by events) in absurd (cc)
not_opened journal conn events false is playable = refl

good_opened :
    (journal : List Item) (conn : ℕ) (events : List ScriptEvent) → IsPlayable journal (script.Opened conn ∷ events) → IsGoodTurn journal (record { event = Opened conn; left = events })
unfolding MayCome StaysStopped opens stops IsDistinct
good_opened journal conn events playable = record {
  may = not_opened journal conn events (was_opened conn journal) refl playable;
  stays = λ stopped. absurd (not_stopped playable stopped);
  playable = record {
    once = playable.once.1;
    filled = playable.filled.1;
    fresh = λ number opened. fresh_after journal conn events number (was_opened number journal) refl (sym (was_opened-push number journal (Heard (Opened conn))) ∙ opened) playable;
    stopped = λ stopped. absurd (not_stopped playable (sym (was_stopped-quiet journal (Heard (Opened conn)) refl) ∙ stopped));
  };
}

-- the first event, whose connection isn't on hold
good_front :
    (journal : List Item) (len : ℕ) (event : ScriptEvent) (events : List ScriptEvent) → is_held (conn_of event) journal ≡ false
    → IsPlayable journal (event ∷ events) → IsGoodTurn journal (front_turn len (event ∷ events))
unfolding front_turn first_turn
good_front journal len (script.Opened conn) events free playable = good_opened journal conn events playable
good_front journal len (script.Bytes conn octets) events free playable = good_bytes journal conn len octets events free playable
good_front journal len (script.Ended conn) events free playable = good_ended journal conn events playable

-- the first event, by whether its connection is on hold
good_first :
    (journal : List Item) (len : ℕ) (event : ScriptEvent) (events : List ScriptEvent) (held : Bool) → is_held (conn_of event) journal ≡ held → IsPlayable journal (event ∷ events)
    → IsGoodTurn journal (if held then record { event = Ready (conn_of event); left = event ∷ events } else front_turn len (event ∷ events))
good_first journal len event events true is playable = good_ready journal (conn_of event) event events playable
good_first journal len event events false is playable = good_front journal len event events is playable

-- the next event
pub good_turn : (journal : List Item) (len : ℕ) (events : List ScriptEvent) → IsPlayable journal events → IsGoodTurn journal (next_turn (holds_of (Some journal)) len events)
unfolding next_turn holds_of front_turn
good_turn journal len [] playable = good_stop journal playable
good_turn journal len (event ∷ events) playable = good_first journal len event events (is_held (conn_of event) journal) refl playable

-- the journal and the events after a turn
pub IsPlayable-turned :
    {journal grown : List Item} {after : List ScriptEvent} (turn : Turn) (event : Event)
    → IsGoodTurn journal turn → grown ≡ journal ++ Heard event ∷ [] → event ≡ turn.event → after ≡ turn.left → IsPlayable grown after
IsPlayable-turned {journal} {grown} {after} turn event good grows is left =
    let P : List Item → Type 0 = λ items. IsPlayable items after in
    let Q : List ScriptEvent → Type 0 = λ events. IsPlayable (journal ++ Heard turn.event ∷ []) events in
    subst P (sym (grows ∙ ap (λ came. journal ++ Heard came ∷ []) is)) (subst Q (sym left) good.playable)

-- what the answer says of the journal
pub NextTells-turned :
    (E : Type 0) {old journal grown : List Item} (turn : Turn) (buf : List ℕ) (heard : Answer)
    → journal ≡ old → IsGoodTurn journal turn → grown ≡ journal ++ Heard (event_of buf heard) ∷ [] → event_of buf heard ≡ turn.event
    → NextTells {E = E} (Some old) buf (Ok heard) (Some grown)
unfolding NextTells
NextTells-turned E {old} {journal} {grown} turn buf heard same good grows is =
    let P : List Item → Type 0 = λ items. (Some grown ≡ Some (items ++ Heard (event_of buf heard) ∷ [])) × MayCome items (event_of buf heard) × StaysStopped items (event_of buf heard) in
    let Q : Event → Type 0 = MayCome journal in
    let R : Event → Type 0 = StaysStopped journal in
    subst P same (ap Some grows, subst Q (sym is) good.may, subst R (sym is) good.stays)
