-- Lemmas on what is sent to a connection all of whose events are heard.
use Rattle.std.proofs.Common.{◌≡◌, ℕ, ◌<◌, List, [], ◌++◌, length, Some, refl, sym, ap, ◌∙◌, subst, arith}
use Rattle.std.proofs.lemmas.List.{take_all}
use Rattle.command_files.specs.script_text.declared.event.ScriptEvent.{ScriptEvent}
use Rattle.command_files.specs.wire_io.declared.journal.Item.{Item}
use Rattle.command_files.specs.wire_io.Journal.{heard, taken_of}
use Rattle.command_files.specs.wire_io.Pieces.{pieces, steps_of, Plays as BringsOn}
use Rattle.command_files.specs.wire_io.link.Plan.{Plan}
use Rattle.command_files.specs.wire_io.Scripted.{LinkState, fresh_link}
use Rattle.session_hub.specs.session_model.Journaled.{steps_of_events}
use Rattle.session_hub.specs.session_model.Replaying.{replayed}
use Rattle.session_hub.specs.declared.ended.Ended.TheVariants as ended
use Rattle.session_hub.specs.Parties.{DirectoryEntries}
use Rattle.session_hub.specs.Answering.{rules}
use Rattle.session_hub.specs.serve.Loops.{buffer_length, Serves, ServesAll, PlaysOut, PlayedOut}
use Rattle.session_hub.specs.Terms.{no_terms}
use Rattle.acl_program.specs.Lines.{replay_of, sent_over}
use Rattle.acl_program.proofs.replay.JournalLemmas.{length-stopped}
use Rattle.acl_program.proofs.replay.PlayLemmas.{heard_is, all_heard, none_left}

-- what is sent where all pieces are heard
all_sent : (t : DirectoryEntries) (events : List ScriptEvent) (turns : ℕ) (sent : List ℕ) → length (pieces buffer_length events) < turns
    → sent ≡ ((replay_of t events turns).of 1).reply → sent ≡ sent_over t events
unfolding sent_over
all_sent t events turns sent short is =
    is ∙ ap (λ steps. ((replayed (rules no_terms) t (steps_of_events steps)).of 1).reply) (take_all turns (pieces buffer_length events) (omega arith))

sent_journal :
    (t left : DirectoryEntries) (events : List ScriptEvent) (turns : ℕ) (known : List Item) (plan after : Plan)
    → plan.to_come ≡ events → plan.later ≡ [] → plan.gone ≡ [] → ServesAll no_terms t left turns known ended.Stopped → PlayedOut turns [] known plan after ended.Stopped → taken_of 1 known ≡ sent_over t events
unfolding BringsOn
sent_journal t left events turns known plan after is later gone serves played =
    let on : pieces buffer_length plan.to_come ≡ steps_of (heard known) ++ pieces buffer_length after.to_come = played.plays in
    let replay = serves.replayed (played.taken later gone) in
    let all = all_heard turns (pieces buffer_length events) (steps_of (heard known)) (pieces buffer_length after.to_come) (ap (pieces buffer_length) (sym is) ∙ on)
    (none_left buffer_length after.to_come (played.over refl)) (omega (arith, length-stopped known serves.ends.0, serves.ends.1)) in
    all_sent t events turns (taken_of 1 known) all.1 (replay.taken 1 ∙ ap (λ u. (u.of 1).reply) (heard_is t events turns known replay all.0))

-- the loop over a link that has only a script, which heard Stop
sent_served :
    (t left : DirectoryEntries) (events : List ScriptEvent) (turns : ℕ) (journal : List Item) (plan after : Plan)
    → plan ≡ record { to_come = events; failing = []; later = []; gone = [] }
    → Serves no_terms t left turns (Some []) ended.Stopped (Some journal) → PlaysOut turns (Some []) (Some plan) ended.Stopped (Some journal) (Some after) → taken_of 1 journal ≡ sent_over t events
unfolding Serves PlaysOut
sent_served t left events turns journal plan after is served plays =
    let serves = served [] refl in
    let known : List Item = serves.0 in
    let same : journal ≡ known = cc (serves.1) in
    let played = plays [] known plan refl serves.1 refl in
    ap (taken_of 1) same ∙ sent_journal t left events turns known plan played.0 (ap (λ p. p.to_come) is) (ap (λ p. p.later) is) (ap (λ p. p.gone) is) serves.2 played.2

pub sent_link : (t left : DirectoryEntries) (events : List ScriptEvent) (turns : ℕ) (old new : LinkState) → old ≡ fresh_link events [] [] []
    → Serves no_terms t left turns (Some old.journal) ended.Stopped (Some new.journal) → PlaysOut turns (Some old.journal) (Some old.plan) ended.Stopped (Some new.journal) (Some new.plan)
    → taken_of 1 new.journal ≡ sent_over t events
sent_link t left events turns old new fresh serves plays =
    let none : old.journal ≡ [] = ap (λ link. link.journal) fresh in
    let P : List Item → Type 0 = λ journal. Serves no_terms t left turns (Some journal) ended.Stopped (Some new.journal) in
    let Q : List Item → Type 0 = λ journal. PlaysOut turns (Some journal) (Some old.plan) ended.Stopped (Some new.journal) (Some new.plan) in
    sent_served t left events turns new.journal old.plan new.plan (ap (λ link. link.plan) fresh) (subst P none serves) (subst Q none plays)
