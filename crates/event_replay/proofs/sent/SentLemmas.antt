-- What is sent where events as they are played are all heard.
use Rattle.std.proofs.Common.{◌≡◌, ℕ, List, [], ◌∷◌, ◌++◌, drop, map, Some, None, refl, sym, ap, subst, ◌∙◌, arith, append-nil}
use Rattle.std.specs.List.{AllByRecursion}
use Rattle.std.proofs.lemmas.List.{take_all, drop_all}
use Rattle.session_hub.specs.Answering.{rules}
use Rattle.session_hub.specs.Parties.{DirectoryEntries}
use Rattle.session_hub.specs.Terms.{no_terms}
use Rattle.session_hub.specs.declared.ended.Ended.TheVariants as ended
use Rattle.session_hub.specs.serve.Loops.{buffer_length, Serves, PlaysOut}
use Rattle.session_hub.specs.session_model.Journaled.{steps_of as journal_steps, steps_of_events}
use Rattle.session_hub.specs.session_model.Replaying.{IsReplay, replayed}
use Rattle.session_hub.specs.session_model.Run.{Opened, Bytes, Ended}
use Rattle.session_hub.specs.session_model.script_text.declared.event.ScriptEvent.{ScriptEvent}
use Rattle.session_hub.specs.session_model.script_text.declared.event.ScriptEvent.TheVariants as script
use Rattle.session_hub.specs.session_model.wire_io.declared.journal.Event.{Event}
use Rattle.session_hub.specs.session_model.wire_io.declared.journal.Event.TheVariants as event
use Rattle.session_hub.specs.session_model.wire_io.declared.journal.Item.{Item}
use Rattle.session_hub.specs.session_model.wire_io.Journal.{heard, taken_of}
use Rattle.session_hub.specs.session_model.wire_io.Pieces.{pieces, step_of as piece_of, steps_of, Plays}
use Rattle.session_hub.specs.session_model.wire_io.Playing.{first_turn, left_over}
use Rattle.session_hub.specs.session_model.wire_io.Scripted.{LinkState, fresh_link}
use Rattle.session_hub.specs.session_model.wire_io.link.Plan.{Plan}
use Rattle.session_hub.proofs.session_model_proofs.Theorems.{events_of}
use Rattle.session_hub.proofs.session_model_proofs.wire_io_proofs.Theorems.{pieces-first}
use Rattle.event_replay.specs.Played.{event_of, played_steps, IsShort, ArePlayed}
use Rattle.event_replay.proofs.played.PlayLemmas.{steps-events}

-- a short event comes whole
first-short : (event : ScriptEvent) (events : List ScriptEvent) → IsShort event
    → (first_turn buffer_length event events).event ∷ pieces buffer_length (first_turn buffer_length event events).left ≡ event_of event ∷ pieces buffer_length events
unfolding first_turn left_over
first-short (script.Opened conn) events short = refl
first-short (script.Bytes conn octets) events short =
    ap (λ piece. event.Bytes conn piece ∷ pieces buffer_length (left_over conn (drop buffer_length octets) events)) (take_all buffer_length octets short)
    ∙ ap (λ rest. event.Bytes conn octets ∷ pieces buffer_length (left_over conn rest events)) (drop_all buffer_length octets short)
first-short (script.Ended conn) events short = refl

-- no events come in no pieces
pieces-none : pieces buffer_length [] ≡ []
unfolding pieces
pieces-none = refl

-- events as they are played come as they are
pieces-short : (events : List ScriptEvent) → AllByRecursion IsShort events → pieces buffer_length events ≡ map event_of events
pieces-short [] short = pieces-none
pieces-short (event ∷ events) short =
    pieces-first buffer_length event events (omega arith) ∙ first-short event events short.0 ∙ ap (λ rest. event_of event ∷ rest) (pieces-short events short.1)

-- events that bring no script on are no steps of sessions
steps_of_events-steps : (events : List Event) → steps_of_events (steps_of events) ≡ steps_of_events events
unfolding steps_of piece_of steps_of_events
steps_of_events-steps [] = refl
steps_of_events-steps (event.Opened conn ∷ events) = ap (λ rest. Opened conn ∷ rest) (steps_of_events-steps events)
steps_of_events-steps (event.Bytes conn octets ∷ events) = ap (λ rest. Bytes conn octets None ∷ rest) (steps_of_events-steps events)
steps_of_events-steps (event.Ended conn ∷ events) = ap (λ rest. Ended conn ∷ rest) (steps_of_events-steps events)
steps_of_events-steps (event.Ready conn ∷ events) = steps_of_events-steps events
steps_of_events-steps (event.Idle ∷ events) = steps_of_events-steps events
steps_of_events-steps (event.Stop ∷ events) = steps_of_events-steps events

-- all of a script was heard
heard-all : (planned left : List ScriptEvent) (heard : List Event) → Plays buffer_length planned heard left → left ≡ [] → steps_of heard ≡ pieces buffer_length planned
unfolding Plays pieces
heard-all planned left heard plays none = sym (plays ∙ ap (λ left. steps_of heard ++ pieces buffer_length left) none ∙ append-nil (steps_of heard))

-- what is sent to each connection
pub record AreSent (entries : DirectoryEntries) (events : List ScriptEvent) (journal : List Item) : Type 0 where
  pub sent : (number : ℕ) → taken_of number journal ≡ ((replayed (rules no_terms) entries (played_steps events)).of number).reply

-- a journal that heard all events
sent-heard : (entries : DirectoryEntries) (events : List ScriptEvent) (journal : List Item) → ArePlayed events → IsReplay (rules no_terms) entries (journal_steps journal) journal
    → steps_of (heard journal) ≡ pieces buffer_length events → AreSent entries events journal
sent-heard entries events journal played replay all = record {
  sent = λ number. replay.taken number
      ∙ ap (λ sessions. (sessions.of number).reply)
      (replay.same ∙ ap (λ steps. replayed (rules no_terms) entries steps)
      (events_of journal ∙ sym (steps_of_events-steps (heard journal)) ∙ ap steps_of_events (all ∙ pieces-short events played.short) ∙ steps-events events));
}

-- the loop over a link that has only these events, which heard Stop
sent-served : (entries left : DirectoryEntries) (events : List ScriptEvent) (turns : ℕ) (journal : List Item) (plan after : Plan) → ArePlayed events
    → plan ≡ record { to_come = events; failing = []; later = []; gone = [] }
    → Serves no_terms entries left turns (Some []) ended.Stopped (Some journal) → PlaysOut turns (Some []) (Some plan) ended.Stopped (Some journal) (Some after) → AreSent entries events journal
unfolding Serves PlaysOut
sent-served entries left events turns journal plan after events_played is serves plays =
    let serves = serves [] refl in
    let known : List Item = serves.0 in
    let same : journal ≡ known = cc (serves.1) in
    let played = plays [] known plan refl serves.1 refl in
    let replay = serves.2.replayed (played.2.taken (ap (λ plan. plan.later) is) (ap (λ plan. plan.gone) is)) in
    let all = heard-all plan.to_come played.0.to_come (heard known) played.2.plays (played.2.over refl) in
    let P : List Item → Type 0 = λ journal. AreSent entries events journal in
    subst P (sym same) (sent-heard entries events known events_played replay (all ∙ ap (λ plan. pieces buffer_length plan.to_come) is))

pub sent-link : (entries left : DirectoryEntries) (events : List ScriptEvent) (turns : ℕ) (old new : LinkState) → ArePlayed events → old ≡ fresh_link events [] [] []
    → Serves no_terms entries left turns (Some old.journal) ended.Stopped (Some new.journal) → PlaysOut turns (Some old.journal) (Some old.plan) ended.Stopped (Some new.journal) (Some new.plan)
    → (number : ℕ) → taken_of number new.journal ≡ ((replayed (rules no_terms) entries (played_steps events)).of number).reply
sent-link entries left events turns old new played fresh serves plays =
    let none : old.journal ≡ [] = ap (λ link. link.journal) fresh in
    let P : List Item → Type 0 = λ journal. Serves no_terms entries left turns (Some journal) ended.Stopped (Some new.journal) in
    let Q : List Item → Type 0 = λ journal. PlaysOut turns (Some journal) (Some old.plan) ended.Stopped (Some new.journal) (Some new.plan) in
    (sent-served entries left events turns new.journal old.plan new.plan played (ap (λ link. link.plan) fresh) (subst P none serves) (subst Q none plays)).sent
