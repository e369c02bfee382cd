-- What the loop's clauses say where the link gives a script's events: the journal tells the replay's lines.
use Rattle.std.proofs.Common.{◌≡◌, ℕ, ◌<◌, ◌≤◌, true, false, List, [], ◌++◌, length, take, Option, Some, refl, sym, ap, ◌∙◌, subst, arith, append-nil, length-append}
use Rattle.std.proofs.Math.Seq.{take-append_seam}
use Rattle.std.proofs.lemmas.List.{take_all}
use Rattle.command_files.specs.script_text.declared.event.ScriptEvent.{ScriptEvent}
use Rattle.command_files.specs.wire_io.declared.journal.Event.{Event}
use Rattle.command_files.specs.wire_io.declared.journal.Item.{Item}
use Rattle.command_files.specs.wire_io.Journal.{heard, is_held, hold_after_all}
use Rattle.command_files.specs.wire_io.Pieces.{pieces, steps_of, Plays as BringsOn}
use Rattle.command_files.specs.wire_io.link.Plan.{Plan}
use Rattle.command_files.specs.wire_io.Scripted.{LinkState, fresh_link}
use Rattle.session_hub.specs.session_model.Run.{Step, run}
use Rattle.session_hub.specs.session_model.Journaled.{steps_of as journal_steps, steps_of_events}
use Rattle.session_hub.proofs.session_model_proofs.Theorems.{events_of}
use Rattle.session_hub.specs.session_model.Replaying.{IsReplay, replayed}
use Rattle.session_hub.specs.declared.ended.Ended.{Ended}
use Rattle.session_hub.specs.declared.ended.Ended.TheVariants as ended
use Rattle.command_files.specs.aci_item.Rules.{IsGoodTree}
use Rattle.session_hub.specs.Parties.{DirectoryEntries}
use Rattle.session_hub.specs.Answering.{rules}
use Rattle.session_hub.specs.serve.Loops.{buffer_length, Serves, ServesAll, PlaysOut, PlayedOut, EndsFor}
use Rattle.session_hub.specs.Terms.{no_terms}
use Rattle.acl_program.specs.Lines.{lines_of, heard_of, replay_of, replay_text, entries_after}
use Rattle.acl_program.specs.program.Playing.{Plays, journal_text}
use Rattle.acl_program.proofs.replay.JournalLemmas.{journal_text-sessions, steps_of_events-steps, length-stopped}

-- the sessions of a journal that heard a replay's events
pub heard_is : (t : DirectoryEntries) (events : List ScriptEvent) (turns : ℕ) (journal : List Item) → IsReplay (rules no_terms) t (journal_steps journal) journal
    → steps_of (heard journal) ≡ heard_of events turns → run (rules no_terms) t (journal_steps journal) ≡ replay_of t events turns
heard_is t events turns journal replay is =
    replay.same ∙ ap (λ steps. replayed (rules no_terms) t steps) (events_of journal ∙ sym (steps_of_events-steps (heard journal)) ∙ ap steps_of_events is)

-- its lines, and the entries that it leaves
text_of_heard : (t : DirectoryEntries) (events : List ScriptEvent) (turns : ℕ) (journal : List Item) → IsReplay (rules no_terms) t (journal_steps journal) journal
    → steps_of (heard journal) ≡ heard_of events turns → journal_text journal ≡ replay_text t events turns
unfolding replay_text
text_of_heard t events turns journal replay is = journal_text-sessions t journal replay ∙ ap (λ u. lines_of u) (heard_is t events turns journal replay is)

left_of_heard : (t left : DirectoryEntries) (events : List ScriptEvent) (turns : ℕ) (journal : List Item) → IsReplay (rules no_terms) t (journal_steps journal) journal → left ≡ (run (rules no_terms) t (journal_steps journal)).tree
    → steps_of (heard journal) ≡ heard_of events turns → left ≡ entries_after t events turns
unfolding entries_after
left_of_heard t left events turns journal replay leaves is = leaves ∙ ap (λ u. u.tree) (heard_is t events turns journal replay is)

-- a front as long as the turns is what is heard
pub front_heard : (turns : ℕ) (all steps rest : List Event) → all ≡ steps ++ rest → length steps ≡ turns → (steps ≡ take turns all) × (turns ≤ length all)
front_heard turns all steps rest is as_long =
    let front : take (length steps) (steps ++ rest) ≡ steps = take-append_seam steps rest in
    let whole : length all ≡ length (steps ++ rest) = ap length is in
    (sym front ∙ ap (λ count. take count (steps ++ rest)) as_long ∙ ap (λ list. take turns list) (sym is), omega (arith, whole, as_long, length-append steps rest))

-- all of them are heard where there are no more than turns
pub all_heard : (turns : ℕ) (all steps rest : List Event) → all ≡ steps ++ rest → rest ≡ [] → length steps < turns → (steps ≡ take turns all) × (length all < turns)
all_heard turns all steps rest is none short =
    let same : all ≡ steps = is ∙ ap (λ back. steps ++ back) none ∙ append-nil steps in
    let long : length all ≡ length steps = ap length same in
    (sym same ∙ sym (take_all turns all (omega arith)), omega arith)

-- what is left of a script that came to its end
pub none_left : (len : ℕ) (left : List ScriptEvent) → left ≡ [] → pieces len left ≡ []
unfolding pieces
none_left len left none = ap (pieces len) none

-- no connection is on hold before anything was done
pub not_held : (c : ℕ) → is_held c [] ≡ false
unfolding is_held hold_after_all
not_held c = refl

-- the loop's clauses, by its answer
plays_journal :
    (t left : DirectoryEntries) (events : List ScriptEvent) (turns : ℕ) (how : Ended) (known : List Item) (plan after : Plan)
    → plan.to_come ≡ events → plan.later ≡ [] → plan.gone ≡ [] → ServesAll no_terms t left turns known how → PlayedOut turns [] known plan after how → (how ≡ ended.LinkFault → ⊥)
    → (how ≡ ended.StoreFault → ⊥) → Plays t left events turns how known
unfolding Plays BringsOn
plays_journal t left events turns ended.Stopped known plan after is later gone serves played fails stores =
    let on : pieces buffer_length plan.to_come ≡ steps_of (heard known) ++ pieces buffer_length after.to_come = played.plays in
    let replay = serves.replayed (played.taken later gone) in
    let all = all_heard turns (pieces buffer_length events) (steps_of (heard known)) (pieces buffer_length after.to_come) (ap (pieces buffer_length) (sym is) ∙ on)
    (none_left buffer_length after.to_come (played.over refl)) (omega (arith, length-stopped known serves.ends.0, serves.ends.1)) in
    (text_of_heard t events turns known replay all.0, left_of_heard t left events turns known replay serves.served.entries_left all.0, all.1)
plays_journal t left events turns ended.TurnsSpent known plan after is later gone serves played fails stores =
    let on : pieces buffer_length plan.to_come ≡ steps_of (heard known) ++ pieces buffer_length after.to_come = played.plays in
    let replay = serves.replayed (played.taken later gone) in
    let front = front_heard turns (pieces buffer_length events) (steps_of (heard known)) (pieces buffer_length after.to_come) (ap (pieces buffer_length) (sym is) ∙ on)
    (played.steps later gone not_held refl) in
    (text_of_heard t events turns known replay front.0, left_of_heard t left events turns known replay serves.served.entries_left front.0, front.1)
plays_journal t left events turns ended.LinkFault known plan after is later gone serves played fails stores = absurd (fails refl)
plays_journal t left events turns ended.StoreFault known plan after is later gone serves played fails stores = absurd (stores refl)
plays_journal t left events turns ended.NoMemory known plan after is later gone serves played fails stores = tt

-- a link without planned faults has none
no_fault : (plan : Plan) (before after store_before store_after : ℕ) (how : Ended) → plan.failing ≡ [] → EndsFor false (Some plan) before after store_before store_after how → how ≡ ended.LinkFault → ⊥
unfolding EndsFor
no_fault plan before after store_before store_after ended.Stopped none cause is = cc
no_fault plan before after store_before store_after ended.TurnsSpent none cause is = cc
no_fault plan before after store_before store_after ended.LinkFault none cause is = cause.2 none
no_fault plan before after store_before store_after ended.StoreFault none cause is = cc
no_fault plan before after store_before store_after ended.NoMemory none cause is = cc

-- where no changes are kept no store fails
no_store_fault : (plan : Plan) (before after store_before store_after : ℕ) (how : Ended) → EndsFor false (Some plan) before after store_before store_after how → how ≡ ended.StoreFault → ⊥
unfolding EndsFor
no_store_fault plan before after store_before store_after ended.Stopped cause is = cc
no_store_fault plan before after store_before store_after ended.TurnsSpent cause is = cc
no_store_fault plan before after store_before store_after ended.LinkFault cause is = cc
no_store_fault plan before after store_before store_after ended.StoreFault cause is = let kept : false ≡ true = cause.3 in cc
no_store_fault plan before after store_before store_after ended.NoMemory cause is = cc

-- the loop over a script's link
plays_served :
    (t left : DirectoryEntries) (events : List ScriptEvent) (turns : ℕ) (how : Ended) (journal : List Item) (plan after : Plan) (faults_before faults_after store_before store_after : ℕ)
    → plan ≡ record { to_come = events; failing = []; later = []; gone = [] }
    → Serves no_terms t left turns (Some []) how (Some journal) → PlaysOut turns (Some []) (Some plan) how (Some journal) (Some after)
    → EndsFor false (Some plan) faults_before faults_after store_before store_after how → Plays t left events turns how journal
unfolding Serves PlaysOut
plays_served t left events turns how journal plan after faults_before faults_after store_before store_after is served plays cause =
    let serves = served [] refl in
    let known : List Item = serves.0 in
    let same : journal ≡ known = cc (serves.1) in
    let played = plays [] known plan refl serves.1 refl in
    let P : List Item → Type 0 = λ heard_all. Plays t left events turns how heard_all in
    subst P (sym same) (plays_journal t left events turns how known plan played.0 (ap (λ p. p.to_come) is) (ap (λ p. p.later) is) (ap (λ p. p.gone) is) serves.2 played.2
    (no_fault plan faults_before faults_after store_before store_after how (ap (λ p. p.failing) is) cause) (no_store_fault plan faults_before faults_after store_before store_after how cause))

-- the same of a link that has only a script
pub Plays-link :
    (t left : DirectoryEntries) (turns : ℕ) (how : Ended) (old new : LinkState) → old ≡ fresh_link old.plan.to_come [] [] []
    → Serves no_terms t left turns (Some old.journal) how (Some new.journal) → PlaysOut turns (Some old.journal) (Some old.plan) how (Some new.journal) (Some new.plan)
    → EndsFor false (Some old.plan) old.faults new.faults old.store_faults new.store_faults how → Plays t left old.plan.to_come turns how new.journal
Plays-link t left turns how old new fresh serves plays cause =
    let none : old.journal ≡ [] = ap (λ link. link.journal) fresh in
    let P : List Item → Type 0 = λ journal. Serves no_terms t left turns (Some journal) how (Some new.journal) in
    let Q : List Item → Type 0 = λ journal. PlaysOut turns (Some journal) (Some old.plan) how (Some new.journal) (Some new.plan) in
    plays_served t left old.plan.to_come turns how new.journal old.plan new.plan old.faults new.faults old.store_faults new.store_faults (ap (λ link. link.plan) fresh) (subst P none serves) (subst Q none plays) cause

-- good entries leave good ones, whatever is heard, where the steps of sessions do
pub Good-link : ((entries : DirectoryEntries) (steps : List Step) → IsGoodTree entries → IsGoodTree (run (rules no_terms) entries steps).tree)
    → (t left : DirectoryEntries) (turns : ℕ) (how : Ended) (before : Option (List Item)) (begun now : List Item)
    → before ≡ Some begun → IsGoodTree t → Serves no_terms t left turns before how (Some now) → IsGoodTree left
unfolding Serves
Good-link keeps t left turns how before begun now is good serves = let so = serves begun is in by_end how so.0 so.2
  where
    after : (steps : List Step) → left ≡ (run (rules no_terms) t steps).tree → IsGoodTree left
    after steps leaves = subst IsGoodTree (sym leaves) (keeps t steps good)

    by_end : (how : Ended) (added : List Item) → ServesAll no_terms t left turns added how → IsGoodTree left
    by_end ended.Stopped added all = after (journal_steps added) all.served.entries_left
    by_end ended.TurnsSpent added all = after (journal_steps added) all.served.entries_left
    by_end ended.LinkFault added all = after (journal_steps added) all.served.entries_left
    by_end ended.StoreFault added all = after all.served.steps all.served.tree_left
    by_end ended.NoMemory added all = after all.served.steps all.served.tree_left
