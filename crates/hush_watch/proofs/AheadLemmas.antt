-- Events one after the other: what those that are left show is what all do.
use Rattle.std.proofs.Common.{◌≡◌, ◌≤◌, ◌<◌, ◌+◌, ℕ, Bool, true, List, [], ◌∷◌, ◌++◌, take, drop, length, get_or, Option, Some, None, refl, ap, ap₂, sym, ◌∙◌, subst, arith, if◌then◌else◌, append_assoc, append-nil}
use Rattle.std.specs.Option.{option_or}
use Rattle.std.proofs.lemmas.List.{map-append, length-map, length-take-le, take-append-drop, drop_more, take_more, length_push, take_all, drop_all}
use Rattle.dir_tree.specs.dn_names.name.Names.{RdnSequence}
use Rattle.session_hub.specs.session_model.wire_io.script_text.declared.event.ScriptEvent.{ScriptEvent}
use Rattle.session_hub.specs.session_model.wire_io.script_text.declared.event.ScriptEvent.TheVariants as script
use Rattle.session_hub.specs.session_model.Run.{Step, start}
use Rattle.session_hub.specs.session_model.Journaled.{is_event}
use Rattle.session_hub.specs.session_model.Replaying.{number_of, step_and_hang_up, replayed_from, replayed}
use Rattle.session_hub.specs.session_model.Purging.{openings}
use Rattle.session_hub.specs.session_model.Places.{places_of_step, places_from}
use Rattle.session_hub.proofs.session_model_proofs.Theorems.{replay-new}
use Rattle.session_hub.specs.Parties.{DirectoryEntries}
use Rattle.session_hub.specs.Terms.{no_terms}
use Rattle.session_hub.specs.Answering.{rules}
use Rattle.hush_laws.specs.declared.part.Part.{Part}
use Rattle.hush_laws.specs.declared.fault.Fault.{Fault}
use Rattle.hush_laws.specs.Hush.{fault_at, first_fault}
use Rattle.hush_laws.proofs.Theorems.{first_fault-append}
use Rattle.event_replay.specs.Played.{ArePlayed, step_of, played_steps}
use Rattle.event_replay.proofs.Theorems.{openings-played}
use Rattle.hush_watch.specs.Served.{ServedSessions, ServedHeld}
use Rattle.hush_watch.specs.Watching.{IsWatched, shown_by, Shows, first_shown, IsAhead}
use Rattle.hush_watch.proofs.SessionLemmas.{replayed-more}

-- the step of an event is one
pub played-event : (event : ScriptEvent) → is_event (step_of event) ≡ true
played-event (script.Opened n) = refl
played-event (script.Bytes n octets) = refl
played-event (script.Ended n) = refl

-- ---- step by step

module _ (c : ℕ) (top : RdnSequence) (before : DirectoryEntries) where
  abbrev fault_here : ℕ → ServedSessions → List Step → Option Fault
  fault_here h u steps = first_fault (fault_at top before) (places_from (rules no_terms) (step_and_hang_up (rules no_terms)) c h u steps)

  -- a step that is an event, and those behind it
  shown-then : (h : ℕ) (u : ServedSessions) (next : Step) (late : List Step) → is_event next ≡ true
      → fault_here h u (next ∷ late) ≡ option_or (shown_by c top before (h + 1) u next) (fault_here (h + 1) (step_and_hang_up (rules no_terms) u next) late)
  unfolding places_from
  shown-then h u next late event =
      ap (λ k. first_fault (fault_at top before) (places_of_step (rules no_terms) (step_and_hang_up (rules no_terms)) c k u next ++ places_from (rules no_terms) (step_and_hang_up (rules no_terms)) c k (step_and_hang_up (rules no_terms) u next) late))
      (ap (λ (b : Bool). h + (if b then 1 else 0)) event)
      ∙ first_fault-append (fault_at top before) (places_of_step (rules no_terms) (step_and_hang_up (rules no_terms)) c (h + 1) u next) (places_from (rules no_terms) (step_and_hang_up (rules no_terms)) c (h + 1) (step_and_hang_up (rules no_terms) u next) late)

  -- before any event all are left
  pub ahead-start : (steps : List Step) (held : ServedHeld) → IsWatched c top before (start (rules no_terms) before) held → IsAhead c top before [] steps held
  unfolding replayed_from
  ahead-start steps held watched = record { watched = watched; places = refl }

  module _ (early late : List Step) (next : Step) (old : ServedHeld) (event : is_event next ≡ true) (once : openings (number_of next) (early ++ next ∷ late) ≤ 1)
      (ahead : IsAhead c top before early (next ∷ late) old) where
    -- an event shows a part
    pub ahead-found : (new : ServedHeld) (part : Part) → Shows c top before (step_and_hang_up (rules no_terms)) next old (Some part) new
        → first_shown c top before (early ++ next ∷ late) ≡ Some (record { heard = length early + 1; part = part })
    unfolding Shows
    ahead-found new part shows =
        let u = replayed (rules no_terms) before early in
        let shown = shows u (replay-new (rules no_terms) before early late next once) ahead.watched in
        ahead.places ∙ shown-then (length early) u next late event
        ∙ ap (λ fault. option_or fault (fault_here (length early + 1) (step_and_hang_up (rules no_terms) u next) late)) (shown.part (length early + 1))

    -- or none
    pub ahead-on : (new : ServedHeld) → Shows c top before (step_and_hang_up (rules no_terms)) next old None new → IsAhead c top before (early ++ next ∷ []) late new
    unfolding Shows
    ahead-on new shows =
        let u = replayed (rules no_terms) before early in
        let shown = shows u (replay-new (rules no_terms) before early late next once) ahead.watched in
        let leads : replayed (rules no_terms) before (early ++ next ∷ []) ≡ step_and_hang_up (rules no_terms) u next = replayed-more (rules no_terms) (start (rules no_terms) before) early next in
        let more : length (early ++ next ∷ []) ≡ length early + 1 = length_push early next in
        record {
          watched = subst (λ v. IsWatched c top before v new) (sym leads) (shown.goes_on refl);
          places =
              ap (first_shown c top before) (append_assoc early (next ∷ []) late) ∙ ahead.places ∙ shown-then (length early) u next late event
              ∙ ap (λ fault. option_or fault (fault_here (length early + 1) (step_and_hang_up (rules no_terms) u next) late)) (shown.part (length early + 1))
              ∙ sym (ap₂ (λ h v. fault_here h v late) more leads);
        }

  -- behind the last event nothing is shown
  pub ahead-done : (early : List Step) (held : ServedHeld) → IsAhead c top before early [] held → first_shown c top before early ≡ None
  unfolding places_from
  ahead-done early held ahead = ap (first_shown c top before) (sym (append-nil early)) ∙ ahead.places

  -- ---- by the events of a list

  -- the event at a place, those before it and those behind it
  pub record IsTurn (events : List ScriptEvent) (index : ℕ) (event : ScriptEvent) : Type 0 where
    pub late : played_steps (drop index events) ≡ step_of event ∷ played_steps (drop (index + 1) events)
    pub early : played_steps (take (index + 1) events) ≡ played_steps (take index events) ++ step_of event ∷ []
    pub counted : length (played_steps (take index events)) ≡ index
    pub all : played_steps (take index events) ++ step_of event ∷ played_steps (drop (index + 1) events) ≡ played_steps events

  pub turn : (events : List ScriptEvent) (index : ℕ) (event : ScriptEvent) → index < length events → event ≡ get_or events index event → IsTurn events index event
  turn events index event within is =
      let late : drop index events ≡ event ∷ drop (index + 1) events =
      drop_more events index event within ∙ ap (λ x. x ∷ drop (index + 1) events) (sym is) in
      let early : take (index + 1) events ≡ take index events ++ event ∷ [] =
      take_more events index event within ∙ ap (λ x. take index events ++ x ∷ []) (sym is) in
      let steps = ap played_steps late in
      record {
        late = steps;
        early = ap played_steps early ∙ map-append step_of (take index events) (event ∷ []);
        counted = length-map (take index events) step_of ∙ length-take-le index events (omega arith);
        all = ap (λ xs. played_steps (take index events) ++ xs) (sym steps) ∙ sym (map-append step_of (take index events) (drop index events)) ∙ ap played_steps (take-append-drop index events);
      }

  module _ (events : List ScriptEvent) (played : ArePlayed events) (index : ℕ) (old : ServedHeld)
      (ahead : IsAhead c top before (played_steps (take index events)) (played_steps (drop index events)) old) where
    -- the event at a place shows a part
    pub event-found : (event : ScriptEvent) (heard : ℕ) (new : ServedHeld) (part : Part) → index < length events → event ≡ get_or events index event → heard ≡ index + 1
        → Shows c top before (step_and_hang_up (rules no_terms)) (step_of event) old (Some part) new
        → Some (record { heard = heard; part = part }) ≡ first_shown c top before (played_steps events)
    event-found event heard new part within is counted shows =
        let here = turn events index event within is in
        let early = played_steps (take index events) in
        let late = played_steps (drop (index + 1) events) in
        let once = subst (λ steps. openings (number_of (step_of event)) steps ≤ 1) (sym here.all) (openings-played events (number_of (step_of event)) played) in
        let found = ahead-found early late (step_of event) old (played-event event) once (subst (λ steps. IsAhead c top before early steps old) here.late ahead) new part shows in
        ap (λ h. Some (record { heard = h; part = part })) (counted ∙ ap (λ n. n + 1) (sym here.counted)) ∙ sym found ∙ ap (first_shown c top before) here.all

    -- or none
    pub event-on : (event : ScriptEvent) (new : ServedHeld) → index < length events → event ≡ get_or events index event
        → Shows c top before (step_and_hang_up (rules no_terms)) (step_of event) old None new
        → IsAhead c top before (played_steps (take (index + 1) events)) (played_steps (drop (index + 1) events)) new
    event-on event new within is shows =
        let here = turn events index event within is in
        let early = played_steps (take index events) in
        let late = played_steps (drop (index + 1) events) in
        let once = subst (λ steps. openings (number_of (step_of event)) steps ≤ 1) (sym here.all) (openings-played events (number_of (step_of event)) played) in
        subst (λ steps. IsAhead c top before steps late new) (sym here.early)
        (ahead-on early late (step_of event) old (played-event event) once (subst (λ steps. IsAhead c top before early steps old) here.late ahead) new shows)

    -- behind the last event nothing was shown
    pub events-done : length events ≤ index → None ≡ first_shown c top before (played_steps events)
    events-done past =
        let none : played_steps (drop index events) ≡ [] = ap played_steps (drop_all index events past) in
        let all : played_steps (take index events) ≡ played_steps events = ap played_steps (take_all index events past) in
        sym (ahead-done (played_steps (take index events)) old (subst (λ steps. IsAhead c top before (played_steps (take index events)) steps old) none ahead)) ∙ ap (first_shown c top before) all
