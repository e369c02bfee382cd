-- A plan that a link plays in a loop, event by event.
use Rattle.std.proofs.Common.{◌≡◌, ◌+◌, ℕ, Bool, true, false, ◌&&◌, List, [], ◌∷◌, ◌++◌, length, Option, Some, None, Ok, Err, refl, ap, ap₂, sym, ◌∙◌, subst, append-nil, length-append, arith, true≢false}
use Rattle.std.proofs.lemmas.List.{append_cancel_left}
use Rattle.std.proofs.lemmas.Option.{same_Some}
use Rattle.session_model.specs.script_text.declared.event.ScriptEvent.{ScriptEvent}
use Rattle.session_model.specs.wire_io.declared.answers.Heard.{Heard as Answer}
use Rattle.session_model.specs.wire_io.declared.answers.NextFault.{NextFault}
use Rattle.session_model.specs.wire_io.declared.journal.Event.{Event}
use Rattle.session_model.specs.wire_io.declared.journal.Event.TheVariants as event
use Rattle.session_model.specs.wire_io.declared.journal.Item.{Item}
use Rattle.session_model.specs.wire_io.declared.journal.Item.TheVariants as item
use Rattle.session_model.specs.wire_io.Journal.{heard, is_held, hold_after, hold_after_all}
use Rattle.session_model.specs.wire_io.Pieces.{Plays, steps_of, step_of}
use Rattle.session_model.specs.wire_io.link.Plan.{Plan}
use Rattle.session_model.specs.wire_io.Playing.{NextPlays, holds_of, next_turn, front_turn}
use Rattle.session_model.specs.wire_io.link.Telling.{event_of, NextTells}
use Rattle.session_model.proofs.wire_io_proofs.Theorems.{heard-append, steps_of-append, Plays-none, Plays-trans, Plays-heard, NextPlays-ok, NextPlays-told, NextPlays-says, SaysOf}
use Rattle.session_model.specs.Journaled.{all_taken}
use Rattle.session_model.proofs.Theorems.{all_taken-one, works_free, all_taken-both}
use Rattle.session_hub.specs.declared.ended.Ended.{Ended}
use Rattle.session_hub.specs.declared.ended.Ended.TheVariants as ended
use Rattle.session_hub.specs.serve.Loops.{PlaysOut, PlayedOut, buffer_length}
use Rattle.session_hub.specs.serve.Servers.{LinkState, ServerState, rules_of, held_by}
use Rattle.session_hub.specs.Adding.{AddsItems, IsBlock}
use Rattle.session_hub.specs.serve.Turns.{Running, Playing, PlayedSoFar}
use Rattle.session_hub.proofs.serve.LoopLemmas.{is_stop, one_event, comes}

-- what is on hold after items that were added to a journal in which nothing was
holds_from : (c : ℕ) (begun added : List Item) (b : Bool) → hold_after_all c b (begun ++ added) ≡ hold_after_all c (hold_after_all c b begun) added
unfolding hold_after_all
holds_from c [] added b = refl
holds_from c (i ∷ begun) added b = holds_from c begun added (hold_after c b i)

still_unheld : (c : ℕ) (begun added : List Item) → is_held c begun ≡ false → is_held c added ≡ false → is_held c (begun ++ added) ≡ false
unfolding is_held
still_unheld c begun added free none = holds_from c begun added false ∙ ap (λ b. hold_after_all c b added) free ∙ none

-- an event of a plan, while no connection is on hold, brings it on unless it is Stop
step_alone : (e : Event) (on_hold : ℕ → Bool) (events : List ScriptEvent) → SaysOf on_hold e events → ((c : ℕ) → on_hold c ≡ false) → is_stop e ≡ false → steps_of (e ∷ []) ≡ e ∷ []
unfolding SaysOf steps_of step_of is_stop
step_alone (event.Opened c) on_hold events says free goes_on = refl
step_alone (event.Bytes c octets) on_hold events says free goes_on = refl
step_alone (event.Ended c) on_hold events says free goes_on = refl
step_alone (event.Ready c) on_hold events says free goes_on = absurd (true≢false (sym says ∙ free c))
step_alone event.Idle on_hold events says free goes_on = absurd says
step_alone event.Stop on_hold events says free goes_on = cc

-- nothing is played yet
pub playing_start : (link : LinkState) → Playing link link
unfolding Playing heard all_taken steps_of
playing_start link begun begun_plan is planned = (
  [],
  begun_plan,
  is ∙ ap (λ x. Some x) (sym (append-nil begun)),
  planned,
  record {
    plays = Plays-none buffer_length begun_plan.to_come;
    failing = refl;
    later = refl;
    gone = refl;
    taken = λ _ _. refl;
    steps = λ _ _ _. refl;
  },
)

-- one more event of the plan, and what is done in its block
played_more : (begun added more : List Item) (plan left after : Plan) (buf : List ℕ) (given : Answer) → PlayedSoFar begun added plan left → length buf ≡ buffer_length →
    NextPlays {E = NextFault} (Some (begun ++ added)) (Some left) buf (Ok given) (Some after) → is_stop (event_of buf given) ≡ false → IsBlock (Some after) more →
    (all_taken added ≡ true → (c : ℕ) → is_held c added ≡ false) → PlayedSoFar begun ((added ++ item.Heard (event_of buf given) ∷ []) ++ more) plan after
unfolding holds_of
played_more begun added more plan left after buf given so long plays goes_on block free_so_far =
    let e = event_of buf given in
    let ok : (e ≡ (next_turn (holds_of (Some (begun ++ added))) (length buf) left.to_come).event) × (after ≡ record left { to_come = (next_turn (holds_of (Some (begun ++ added))) (length buf) left.to_come).left }) =
    NextPlays-ok NextFault (Some (begun ++ added)) left after buf given plays in
    let all : heard ((added ++ item.Heard e ∷ []) ++ more) ≡ heard added ++ e ∷ [] =
    heard-append (added ++ item.Heard e ∷ []) more ∙ ap (λ xs. heard (added ++ item.Heard e ∷ []) ++ xs) block.events ∙ append-nil (heard (added ++ item.Heard e ∷ []))
    ∙ heard-append added (item.Heard e ∷ []) ∙ ap (λ xs. heard added ++ xs) (one_event e) in
    let one : Plays buffer_length left.to_come (e ∷ []) after.to_come =
    subst (λ n. Plays n left.to_come (e ∷ []) after.to_come) long (Plays-heard NextFault (Some (begun ++ added)) left after buf given (let n : length buf ≡ 65536 = long in omega arith) plays) in
    let later : after.later ≡ plan.later = ap (λ (x : Plan). x.later) ok.1 ∙ so.later in
    let gone : after.gone ≡ plan.gone = ap (λ (x : Plan). x.gone) ok.1 ∙ so.gone in
    record {
      plays = subst (λ es. Plays buffer_length plan.to_come es after.to_come) (sym all) (Plays-trans buffer_length plan.to_come left.to_come after.to_come (heard added) (e ∷ []) so.plays one);
      failing = ap (λ (x : Plan). x.failing) ok.1 ∙ so.failing;
      later = later;
      gone = gone;
      taken = λ no_later no_gone.
          all_taken-both (added ++ item.Heard e ∷ []) more
          ∙ ap₂ (λ x y. x && y) (all_taken-one added (item.Heard e) ∙ ap (λ x. x && true) (so.taken no_later no_gone)) (block.taken after refl (later ∙ no_later) (gone ∙ no_gone));
      steps = λ no_later no_gone free.
          let unheld : (c : ℕ) → is_held c (begun ++ added) ≡ false = λ c. still_unheld c begun added (free c) (free_so_far (so.taken no_later no_gone) c) in
          let alone : steps_of (e ∷ []) ≡ e ∷ [] = step_alone e (holds_of (Some (begun ++ added))) left.to_come (NextPlays-says NextFault (Some (begun ++ added)) left after buf given plays) unheld goes_on in
          ap (λ es. length (steps_of es)) all ∙ ap length (steps_of-append (heard added) (e ∷ []) ∙ ap (λ xs. steps_of (heard added) ++ xs) alone)
          ∙ length-append (steps_of (heard added)) (e ∷ []) ∙ ap (λ n. n + 1) (so.steps no_later no_gone free) ∙ sym (length-append (heard added) (e ∷ [])) ∙ ap length (sym all);
    }

-- one more event of the plan, in a loop
pub playing_on : (first old : ServerState) (n : ℕ) (link after : LinkState) (P Q : List Item → Type 0) (buf : List ℕ) (given : Answer) → Running first n old → Playing first.link old.link → length buf ≡ buffer_length →
    NextTells {E = NextFault} old.link.journal buf (Ok given) link.journal → NextPlays {E = NextFault} old.link.journal old.link.plan buf (Ok given) link.plan → is_stop (event_of buf given) ≡ false →
    AddsItems link.plan P Q link.journal after.journal → after.plan ≡ link.plan → Playing first.link after
unfolding Playing AddsItems Running
playing_on first old n link after P Q buf given running playing long tells plays goes_on adds kept begun plan is planned =
    let so = playing begun plan is planned in
    let added = so.0 in
    let left = so.1 in
    let here : NextPlays {E = NextFault} (Some (begun ++ added)) (Some left) buf (Ok given) link.plan =
    subst (λ x. NextPlays {E = NextFault} x (Some left) buf (Ok given) link.plan) so.2 (subst (λ x. NextPlays {E = NextFault} old.link.journal x buf (Ok given) link.plan) so.3 plays) in
    let next = NextPlays-told {E = NextFault} (Some (begun ++ added)) left buf (Ok given) link.plan here in
    let came = comes begun added buf given old.link.journal link.journal so.2 tells in
    let ran = running begun is in
    let same : ran.0 ≡ added = append_cancel_left begun ran.0 added (same_Some (begun ++ ran.0) (begun ++ added) (sym ran.1 ∙ so.2)) in
    let free : all_taken added ≡ true → (c : ℕ) → is_held c added ≡ false =
    subst (λ x. all_taken x ≡ true → (c : ℕ) → is_held c x ≡ false) same (λ all. works_free (rules_of old) first.entries (held_by old) old.on_hold ran.0 ran.2.works all) in
    let block = adds begun (added ++ item.Heard (event_of buf given) ∷ []) came.noted in (
      (added ++ item.Heard (event_of buf given) ∷ []) ++ block.0,
      next.0,
      block.1,
      kept ∙ next.1,
      played_more begun added block.0 plan left next.0 buf given so.4 long (subst (λ x. NextPlays {E = NextFault} (Some (begun ++ added)) (Some left) buf (Ok given) x) next.1 here) goes_on
          (subst (λ x. IsBlock x block.0) next.1 block.2) free,
    )

-- what a loop that ended without Stop played
played_to : (turns : ℕ) (begun added : List Item) (plan left : Plan) (end : Ended) → PlayedSoFar begun added plan left → (end ≡ ended.Stopped → ⊥) →
    (end ≡ ended.TurnsSpent → length (heard added) ≡ turns) → PlayedOut turns begun added plan left end
played_to turns begun added plan left end so goes_on counts =
    record {
      plays = so.plays;
      over = λ stopped. absurd (goes_on stopped);
      taken = so.taken;
      steps = λ no_later no_gone free spent. so.steps no_later no_gone free ∙ counts spent;
    }

-- the link failed, or there was no memory
pub plays_ended : (turns : ℕ) (first now : LinkState) (end : Ended) → Playing first now → (end ≡ ended.Stopped → ⊥) → (end ≡ ended.TurnsSpent → ⊥) → PlaysOut turns first.journal first.plan end now.journal now.plan
unfolding Playing PlaysOut
plays_ended turns first now end playing goes_on unspent begun added plan is is_now planned =
    let so = playing begun plan is planned in
    let same : so.0 ≡ added = append_cancel_left begun so.0 added (same_Some (begun ++ so.0) (begun ++ added) (sym so.2 ∙ is_now)) in
    (so.1, so.3, played_to turns begun added plan so.1 end (subst (λ x. PlayedSoFar begun x plan so.1) same so.4) goes_on (λ spent. absurd (unspent spent)))

-- the turns are spent
pub plays_spent : (first now : ServerState) (turns : ℕ) (end : Ended) → (end ≡ ended.Stopped → ⊥) → Playing first.link now.link → Running first turns now → PlaysOut turns first.link.journal first.link.plan end now.link.journal now.link.plan
unfolding Playing PlaysOut Running
plays_spent first now turns end goes_on playing running begun added plan is is_now planned =
    let so = playing begun plan is planned in
    let run = running begun is in
    let same : so.0 ≡ added = append_cancel_left begun so.0 added (same_Some (begun ++ so.0) (begun ++ added) (sym so.2 ∙ is_now)) in
    let ran : run.0 ≡ added = append_cancel_left begun run.0 added (same_Some (begun ++ run.0) (begun ++ added) (sym run.1 ∙ is_now)) in
    (so.1, so.3, played_to turns begun added plan so.1 end (subst (λ x. PlayedSoFar begun x plan so.1) same so.4) goes_on (λ _. ap (λ x. length (heard x)) (sym ran) ∙ run.2.counts))

-- the plan after Stop
stop_left : (on_hold : ℕ → Bool) (len : ℕ) (events : List ScriptEvent) → events ≡ [] → (next_turn on_hold len events).left ≡ []
unfolding next_turn front_turn
stop_left on_hold len events none = ap (λ es. (next_turn on_hold len es).left) none

says_stop : (on_hold : ℕ → Bool) (e : Event) (events : List ScriptEvent) → SaysOf on_hold e events → e ≡ event.Stop → events ≡ []
unfolding SaysOf
says_stop on_hold e events says stop = let at_stop : SaysOf on_hold event.Stop events = subst (λ x. SaysOf on_hold x events) stop says in at_stop

-- Stop is heard, and then its block
played_stop : (turns : ℕ) (begun added more : List Item) (plan left after : Plan) (buf : List ℕ) (given : Answer) (end : Ended) → PlayedSoFar begun added plan left → length buf ≡ buffer_length →
    NextPlays {E = NextFault} (Some (begun ++ added)) (Some left) buf (Ok given) (Some after) → event_of buf given ≡ event.Stop → IsBlock (Some after) more → (end ≡ ended.TurnsSpent → ⊥) →
    PlayedOut turns begun ((added ++ item.Heard (event_of buf given) ∷ []) ++ more) plan after end
played_stop turns begun added more plan left after buf given end so long plays stop block unspent =
    let e = event_of buf given in
    let on_hold = holds_of (Some (begun ++ added)) in
    let ok : (e ≡ (next_turn on_hold (length buf) left.to_come).event) × (after ≡ record left { to_come = (next_turn on_hold (length buf) left.to_come).left }) =
    NextPlays-ok NextFault (Some (begun ++ added)) left after buf given plays in
    let over : left.to_come ≡ [] = says_stop on_hold e left.to_come (NextPlays-says NextFault (Some (begun ++ added)) left after buf given plays) stop in
    let all : heard ((added ++ item.Heard e ∷ []) ++ more) ≡ heard added ++ e ∷ [] =
    heard-append (added ++ item.Heard e ∷ []) more ∙ ap (λ xs. heard (added ++ item.Heard e ∷ []) ++ xs) block.events ∙ append-nil (heard (added ++ item.Heard e ∷ []))
    ∙ heard-append added (item.Heard e ∷ []) ∙ ap (λ xs. heard added ++ xs) (one_event e) in
    let one : Plays buffer_length left.to_come (e ∷ []) after.to_come =
    subst (λ n. Plays n left.to_come (e ∷ []) after.to_come) long (Plays-heard NextFault (Some (begun ++ added)) left after buf given (let n : length buf ≡ 65536 = long in omega arith) plays) in
    let later : after.later ≡ plan.later = ap (λ (x : Plan). x.later) ok.1 ∙ so.later in
    let gone : after.gone ≡ plan.gone = ap (λ (x : Plan). x.gone) ok.1 ∙ so.gone in
    record {
      plays = subst (λ es. Plays buffer_length plan.to_come es after.to_come) (sym all) (Plays-trans buffer_length plan.to_come left.to_come after.to_come (heard added) (e ∷ []) so.plays one);
      over = λ _. ap (λ (x : Plan). x.to_come) ok.1 ∙ stop_left on_hold (length buf) left.to_come over;
      taken = λ no_later no_gone.
          all_taken-both (added ++ item.Heard e ∷ []) more
          ∙ ap₂ (λ x y. x && y) (all_taken-one added (item.Heard e) ∙ ap (λ x. x && true) (so.taken no_later no_gone)) (block.taken after refl (later ∙ no_later) (gone ∙ no_gone));
      steps = λ no_later no_gone free h. absurd (unspent h);
    }

pub plays_stopped : (turns : ℕ) (first old link after : LinkState) (P Q : List Item → Type 0) (buf : List ℕ) (given : Answer) (end : Ended) → Playing first old → length buf ≡ buffer_length →
    NextTells {E = NextFault} old.journal buf (Ok given) link.journal → NextPlays {E = NextFault} old.journal old.plan buf (Ok given) link.plan → event_of buf given ≡ event.Stop →
    AddsItems link.plan P Q link.journal after.journal → after.plan ≡ link.plan → (end ≡ ended.TurnsSpent → ⊥) → PlaysOut turns first.journal first.plan end after.journal after.plan
unfolding Playing PlaysOut AddsItems
plays_stopped turns first old link after P Q buf given end playing long tells plays stop adds kept unspent begun all_added plan is is_now planned =
    let so = playing begun plan is planned in
    let added = so.0 in
    let left = so.1 in
    let here : NextPlays {E = NextFault} (Some (begun ++ added)) (Some left) buf (Ok given) link.plan =
    subst (λ x. NextPlays {E = NextFault} x (Some left) buf (Ok given) link.plan) so.2 (subst (λ x. NextPlays {E = NextFault} old.journal x buf (Ok given) link.plan) so.3 plays) in
    let next = NextPlays-told {E = NextFault} (Some (begun ++ added)) left buf (Ok given) link.plan here in
    let came = comes begun added buf given old.journal link.journal so.2 tells in
    let block = adds begun (added ++ item.Heard (event_of buf given) ∷ []) came.noted in
    let now = (added ++ item.Heard (event_of buf given) ∷ []) ++ block.0 in
    let same : now ≡ all_added = append_cancel_left begun now all_added (same_Some (begun ++ now) (begun ++ all_added) (sym block.1 ∙ is_now)) in (
      next.0,
      kept ∙ next.1,
      subst (λ x. PlayedOut turns begun x plan next.0 end) same
          (played_stop turns begun added block.0 plan left next.0 buf given end so.4 long (subst (λ x. NextPlays {E = NextFault} (Some (begun ++ added)) (Some left) buf (Ok given) x) next.1 here) stop
          (subst (λ x. IsBlock x block.0) next.1 block.2) unspent),
    )

-- the link gave no event
pub plays_kept : (E : Type 0) (journal : Option (List Item)) (plan after : Option Plan) (buf : List ℕ) (f : E) → NextPlays {E = E} journal plan buf (Err f) after → after ≡ plan
unfolding NextPlays
plays_kept E journal None after buf f plays = plays
plays_kept E journal (Some plan) after buf f plays = plays

pub playing_kept : (first old new : LinkState) → Playing first old → new.journal ≡ old.journal → new.plan ≡ old.plan → Playing first new
unfolding Playing
playing_kept first old new playing same planned begun plan is is_plan = let so = playing begun plan is is_plan in (so.0, so.1, same ∙ so.2, planned ∙ so.3, so.4)
