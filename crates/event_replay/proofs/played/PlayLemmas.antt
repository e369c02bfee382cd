-- How the events that a fresh link gives come to be all of its script.
use Rattle.std.proofs.Common.{◌≡◌, ◌∷◌, ◌++◌, ℕ, ◌<◌, ◌≤◌, ◌||◌, nat_eq, Bool, false, List, [], length, take, map, Option, Some, None, Ok, refl, sym, ap, ap₂, subst, ◌∙◌, arith, append_assoc, append-nil}
use Rattle.std.proofs.lemmas.List.{length-take-le}
use Rattle.std.specs.Cmp.{nat_eq_equiv}
use Rattle.std.specs.List.{AllByRecursion, IsDistinct, list_any}
use Rattle.std.proofs.lemmas.List.Elements.{filter_map-append}
use Rattle.std.proofs.lemmas.Map.Keys.{IsDistinct-push}
use Rattle.session_hub.specs.serve.Loops.{buffer_length}
use Rattle.session_hub.specs.session_model.Journaled.{steps_of_events}
use Rattle.session_hub.specs.session_model.script_text.declared.event.ScriptEvent.{ScriptEvent}
use Rattle.session_hub.specs.session_model.script_text.declared.event.ScriptEvent.TheVariants as script
use Rattle.session_hub.specs.session_model.script_text.script.Script.{opens, opened_by, OpensOnce}
use Rattle.session_hub.specs.session_model.wire_io.declared.answers.Heard.{Heard as Answer}
use Rattle.session_hub.specs.session_model.wire_io.declared.answers.Heard.TheVariants as answer
use Rattle.session_hub.specs.session_model.wire_io.declared.answers.NextFault.{NextFault}
use Rattle.session_hub.specs.session_model.wire_io.Answers.{HeardFits}
use Rattle.session_hub.specs.session_model.wire_io.declared.journal.Event.{Event}
use Rattle.session_hub.specs.session_model.wire_io.declared.journal.Event.TheVariants as event
use Rattle.session_hub.specs.session_model.wire_io.declared.journal.Item.{Item}
use Rattle.session_hub.specs.session_model.wire_io.declared.journal.Item.TheVariants.{Heard}
use Rattle.session_hub.specs.session_model.wire_io.Journal.{was_opened, opens as item_opens}
use Rattle.session_hub.specs.session_model.wire_io.Pieces.{pieces, step_of as piece_of, steps_of, Plays}
use Rattle.session_hub.specs.session_model.wire_io.Playing.{NextPlays, holds_of}
use Rattle.session_hub.specs.session_model.wire_io.Scripted.{LinkState, fresh_link}
use Rattle.session_hub.specs.session_model.wire_io.link.Telling.{event_of as heard_of, NextTells, MayCome}
use Rattle.session_hub.proofs.session_model_proofs.wire_io_proofs.Theorems.{Plays-heard, NextPlays-says, SaysOf}
use Rattle.event_replay.specs.Played.{event_of, step_of, played_steps, ArePlayed, IsPlayedAs}
use Rattle.event_replay.specs.Playing.{IsCopyOf, IsGiven, IsNext, TakesNext}

-- what was given of the script, and what the link has noted and left
pub record HasGiven (planned : List ScriptEvent) (link : LinkState) (events : List ScriptEvent) : Type 0 where
  pub played : ArePlayed events
  pub whole : pieces buffer_length planned ≡ map event_of events ++ pieces buffer_length link.plan.to_come
  pub noted : link.journal ≡ map (λ event. Heard (event_of event)) events

-- no events open no number twice
none-open : OpensOnce []
unfolding IsDistinct
none-open = tt

-- a fresh link gave nothing
pub given-none : (link : LinkState) → link ≡ fresh_link link.plan.to_come [] [] [] → HasGiven link.plan.to_come link []
given-none link fresh = record {
  played = record { once = none-open; filled = tt; short = tt };
  whole = refl;
  noted = ap (λ link. link.journal) fresh;
}

-- what a journal of events says was opened
was_opened-noted : (conn : ℕ) (events : List ScriptEvent) → was_opened conn (map (λ event. Heard (event_of event)) events) ≡ list_any (nat_eq conn) (opened_by events)
unfolding was_opened item_opens
was_opened-noted conn [] = refl
was_opened-noted conn (script.Opened other ∷ events) = ap₂ (λ one more. one || more) (nat_eq_equiv.symm other conn) (was_opened-noted conn events)
was_opened-noted conn (script.Bytes other octets ∷ events) = was_opened-noted conn events
was_opened-noted conn (script.Ended other ∷ events) = was_opened-noted conn events

-- a number more is opened, which was not opened before
once-opened : (conn : ℕ) (events : List ScriptEvent) → OpensOnce events → list_any (nat_eq conn) (opened_by events) ≡ false → OpensOnce (events ++ script.Opened conn ∷ [])
once-opened conn events once new =
    subst (IsDistinct nat_eq) (sym (filter_map-append opens events (script.Opened conn ∷ []))) (IsDistinct-push nat_eq_equiv (opened_by events) conn once new)

once-other : (event : ScriptEvent) (events : List ScriptEvent) → opened_by (event ∷ []) ≡ [] → OpensOnce events → OpensOnce (events ++ event ∷ [])
once-other event events none once =
    subst (IsDistinct nat_eq) (sym (filter_map-append opens events (event ∷ []) ∙ ap (λ more. opened_by events ++ more) none ∙ append-nil (opened_by events))) once

once-more : (event : ScriptEvent) (events : List ScriptEvent) → OpensOnce events
    → ((conn : ℕ) → opens event ≡ Some conn → list_any (nat_eq conn) (opened_by events) ≡ false) → OpensOnce (events ++ event ∷ [])
once-more (script.Opened conn) events once new = once-opened conn events once (new conn refl)
once-more (script.Bytes conn octets) events once new = once-other (script.Bytes conn octets) events refl once
once-more (script.Ended conn) events once new = once-other (script.Ended conn) events refl once

-- what holds of each, and of one more
all-more : {A : Type 0} (P : A → Type 0) (xs : List A) (x : A) → AllByRecursion P xs → P x → AllByRecursion P (xs ++ x ∷ [])
all-more P [] x all last = (last, tt)
all-more P (first ∷ xs) x all last = (all.0, all-more P xs x all.1 last)

map-more : {A B : Type 0} (f : A → B) (xs : List A) (x : A) → map f (xs ++ x ∷ []) ≡ map f xs ++ f x ∷ []
map-more f [] x = refl
map-more f (first ∷ xs) x = ap (λ ys. f first ∷ ys) (map-more f xs x)

-- an event more
pub given-more : (planned : List ScriptEvent) (old new : LinkState) (events : List ScriptEvent) (event : ScriptEvent)
    → HasGiven planned old events → IsNext old event new → HasGiven planned new (events ++ event ∷ [])
given-more planned old new events event given next = record {
  played = record {
    once = once-more event events given.played.once
        (λ conn is. sym (ap (was_opened conn) given.noted ∙ was_opened-noted conn events) ∙ next.fresh conn is);
    filled = all-more _ events event given.played.filled next.filled;
    short = all-more _ events event given.played.short next.short;
  };
  whole = given.whole ∙ ap (λ more. map event_of events ++ more) next.first
      ∙ sym (append_assoc (map event_of events) (event_of event ∷ []) (pieces buffer_length new.plan.to_come))
      ∙ ap (λ front. front ++ pieces buffer_length new.plan.to_come) (sym (map-more event_of events event));
  noted = next.noted ∙ ap (λ journal. journal ++ Heard (event_of event) ∷ []) given.noted
      ∙ sym (map-more (λ event. Heard (event_of event)) events event);
}

-- none is left
pub given-all : (planned : List ScriptEvent) (link : LinkState) (events : List ScriptEvent) → HasGiven planned link events → link.plan.to_come ≡ [] → IsPlayedAs planned events
unfolding pieces
given-all planned link events given none = record {
  played = given.played;
  pieces = sym (given.whole ∙ ap (λ left. map event_of events ++ pieces buffer_length left) none ∙ append-nil (map event_of events));
}

-- fewer pieces are left
pub fewer-left : (old new : LinkState) (event : ScriptEvent) → IsNext old event new
    → length (pieces buffer_length new.plan.to_come) < length (pieces buffer_length old.plan.to_come)
fewer-left old new event next = let is : length (pieces buffer_length old.plan.to_come) ≡ length (event_of event ∷ pieces buffer_length new.plan.to_come) = ap length next.first in omega (arith, is)

-- the steps of events as they are played
pub steps-events : (events : List ScriptEvent) → steps_of_events (map event_of events) ≡ played_steps events
unfolding steps_of_events
steps-events [] = refl
steps-events (script.Opened conn ∷ events) = ap (λ steps. step_of (script.Opened conn) ∷ steps) (steps-events events)
steps-events (script.Bytes conn octets ∷ events) = ap (λ steps. step_of (script.Bytes conn octets) ∷ steps) (steps-events events)
steps-events (script.Ended conn ∷ events) = ap (λ steps. step_of (script.Ended conn) ∷ steps) (steps-events events)

pub steps-played : (planned events : List ScriptEvent) → IsPlayedAs planned events → played_steps events ≡ steps_of_events (pieces buffer_length planned)
steps-played planned events played = sym (steps-events events) ∙ ap steps_of_events played.pieces

-- an event that was heard brings the script on
first-of : (len : ℕ) (before after : List ScriptEvent) (event : ScriptEvent) → Plays len before (event_of event ∷ []) after → pieces len before ≡ event_of event ∷ pieces len after
unfolding Plays steps_of piece_of
first-of len before after (script.Opened conn) plays = plays
first-of len before after (script.Bytes conn octets) plays = plays
first-of len before after (script.Ended conn) plays = plays

-- it may come, so that its number was not opened before where it opens one
fresh-of : (journal : List Item) (event : ScriptEvent) → MayCome journal (event_of event) → (conn : ℕ) → opens event ≡ Some conn → was_opened conn journal ≡ false
unfolding MayCome
fresh-of journal (script.Opened other) may conn is = let same : other ≡ conn = cc in subst (λ (number : ℕ). was_opened number journal ≡ false) same may
fresh-of journal (script.Bytes other octets) may conn is = absurd cc
fresh-of journal (script.Ended other) may conn is = absurd cc

-- what was heard, copied
pub given-opened : (buffer : List ℕ) (heard : Answer) (conn : ℕ) → heard ≡ answer.Opened conn → IsCopyOf (heard_of buffer heard) (script.Opened conn)
unfolding heard_of
given-opened buffer heard conn is = record { same = ap (heard_of buffer) is; filled = tt; short = tt }

pub given-ended : (buffer : List ℕ) (heard : Answer) (conn : ℕ) → heard ≡ answer.Ended conn → IsCopyOf (heard_of buffer heard) (script.Ended conn)
unfolding heard_of
given-ended buffer heard conn is = record { same = ap (heard_of buffer) is; filled = tt; short = tt }

pub given-stop : (buffer : List ℕ) (heard : Answer) → heard ≡ answer.Stop → heard_of buffer heard ≡ event.Stop
unfolding heard_of
given-stop buffer heard is = ap (heard_of buffer) is

pub given-bytes : (buffer : List ℕ) (heard : Answer) (conn count : ℕ) (octets : List ℕ) → heard ≡ answer.Bytes conn count → octets ≡ take count buffer
    → HeardFits (length buffer) heard → length buffer ≡ buffer_length → IsCopyOf (heard_of buffer heard) (script.Bytes conn octets)
unfolding heard_of
given-bytes buffer heard conn count octets is copied fits long =
    let within : (0 < count) × (count ≤ length buffer) = subst (HeardFits (length buffer)) is fits in
    let size : length octets ≡ count = ap length copied ∙ length-take-le count buffer within.1 in
    record {
      same = ap (heard_of buffer) is ∙ ap (event.Bytes conn) (sym copied);
      filled = omega (arith, size, within.0);
      short = omega (arith, size, within.1, long);
    }

-- what the link's clauses say of the event that was copied
next-is : (old new : LinkState) (buffer : List ℕ) (given : Answer) (event : ScriptEvent) → length buffer ≡ buffer_length
    → NextTells {E = NextFault} (Some old.journal) buffer (Ok given) (Some new.journal)
    → NextPlays {E = NextFault} (Some old.journal) (Some old.plan) buffer (Ok given) (Some new.plan)
    → IsCopyOf (heard_of buffer given) event → IsNext old event new
unfolding NextTells
next-is old new buffer given event long tells plays copied =
    let on = Plays-heard NextFault (Some old.journal) old.plan new.plan buffer given (omega (arith, long)) plays in
    let P : Event → Type 0 = λ heard. Plays (length buffer) old.plan.to_come (heard ∷ []) new.plan.to_come in
    let Q : ℕ → Type 0 = λ len. Plays len old.plan.to_come (event_of event ∷ []) new.plan.to_come in
    let noted : new.journal ≡ old.journal ++ Heard (heard_of buffer given) ∷ [] = cc (tells.0) in
    record {
      filled = copied.filled;
      short = copied.short;
      first = first-of buffer_length old.plan.to_come new.plan.to_come event (subst Q long (subst P copied.same on));
      fresh = fresh-of old.journal event (subst (MayCome old.journal) copied.same tells.1);
      noted = noted ∙ ap (λ heard. old.journal ++ Heard heard ∷ []) copied.same;
    }

-- after Stop nothing is to come
stop-is : (on_hold : ℕ → Bool) (heard : Event) (events : List ScriptEvent) → heard ≡ event.Stop → SaysOf on_hold heard events → events ≡ []
unfolding SaysOf
stop-is on_hold heard events is says = let P : Event → Type 0 = λ heard. SaysOf on_hold heard events in subst P is says

pub takes-next : (old new : LinkState) (buffer : List ℕ) (given : Answer) (next : Option ScriptEvent) → length buffer ≡ buffer_length
    → NextTells {E = NextFault} (Some old.journal) buffer (Ok given) (Some new.journal)
    → NextPlays {E = NextFault} (Some old.journal) (Some old.plan) buffer (Ok given) (Some new.plan)
    → IsGiven (heard_of buffer given) next → TakesNext old next new
takes-next old new buffer given (Some event) long tells plays copied = next-is old new buffer given event long tells plays copied
takes-next old new buffer given None long tells plays is =
    stop-is (holds_of (Some old.journal)) (heard_of buffer given) old.plan.to_come is (NextPlays-says NextFault (Some old.journal) old.plan new.plan buffer given plays)
