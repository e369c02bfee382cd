-- One turn of a loop, and what a loop is after it.
use Rattle.std.specs.Prelude.{IfNone, IfSome}
use Rattle.std.proofs.Common.{◌≡◌, ◌<◌, ℕ, Bool, true, false, List, [], Option, Some, None, Err, refl, ap, sym, ◌∙◌, subst, arith}
use Rattle.dir_tree.specs.plain_values.Counts.{Rose}
use Rattle.dir_tree.proofs.plain_values_proofs.Theorems.{NeverFalls-trans, NeverFalls-refl}
use Rattle.session_model.specs.wire_io.declared.answers.Heard.{Heard as Answer}
use Rattle.session_model.specs.wire_io.declared.answers.NextFault.TheVariants as fault
use Rattle.session_model.specs.wire_io.Answers.{LinkCause}
use Rattle.session_model.specs.wire_io.link.Telling.{event_of}
use Rattle.session_hub.specs.Parties.{DirectoryEntries}
use Rattle.session_hub.specs.declared.bounds.Bounds.{Bounds}
use Rattle.session_hub.specs.declared.ended.Ended.{Ended}
use Rattle.session_hub.specs.declared.ended.Ended.TheVariants as ended
use Rattle.session_hub.specs.hub.Hubs.{HubState, no_hub}
use Rattle.session_hub.specs.serve.Loops.{Serves, Starves, PlaysOut, EndsFor, ends_with}
use Rattle.session_hub.specs.serve.Servers.{LinkState, ServerState, Stays, HasNoMemory}
use Rattle.session_hub.specs.Adding.{Goes, IsRight, IsOver, IsHeard, stops_with}
use Rattle.session_hub.specs.serve.Turns.{IsUnderWay, HasEnded, GoesOn, EndsWith, failing_of}
use Rattle.session_hub.proofs.serving.AddingLemmas.{rose_after}
use Rattle.session_hub.proofs.serve.GivenLemmas.{Gave, GaveNone, Follows, follows_given, follows_none}
use Rattle.session_hub.proofs.serve.LoopLemmas.{IsUnfinished, running_start, running_on, running_spent, running_failed, running_unfinished, running_cut, running_stopped, running_kept, goes_on_with, stops_is, failing_kept, unfinished_starved}
use Rattle.session_hub.proofs.serve.PlayLemmas.{playing_start, playing_on, playing_kept, plays_ended, plays_spent, plays_stopped}
use Rattle.session_hub.proofs.serve.CauseLemmas.{EndsFor-came, ends_at, ends_as, ends_failed, ends_stopped, ends_spent, ends_starved}
use Rattle.session_hub.proofs.serve.StarveLemmas.{starves_cut, starves_refused, starves_block, starves_served, starves_first, block_cause, stopped_apart, spent_apart, failed_apart}

-- a loop that was under way has ended, by what its last turn was
ended_from : (first old new : ServerState) (n turns : ℕ) (end : Ended) → IsUnderWay first n old → Follows old new → Serves new.hub.bounds.terms first.entries new.entries turns first.link.journal end new.link.journal →
    PlaysOut turns first.link.journal first.link.plan end new.link.journal new.link.plan →
    EndsFor old.hub.bounds.terms.keeps old.link.plan old.link.faults new.link.faults old.link.store_faults new.link.store_faults end →
    Starves new.hub.bounds.terms first.entries new.entries first.link.journal first.link.refusals end new.link.journal new.link.refusals → HasEnded first turns end new
ended_from first old new n turns end under_way follows serves plays cause starves =
    let bounds : new.hub.bounds ≡ first.hub.bounds = follows.bounds ∙ under_way.bounds in
    record {
      borrows = follows.borrows ∙ under_way.borrows;
      served = subst (λ (b : Bounds). Serves b.terms first.entries new.entries turns first.link.journal end new.link.journal) bounds serves;
      plays = plays;
      cause = EndsFor-came first.hub.bounds.terms.keeps first.link.plan old.link.plan first.link.faults old.link.faults new.link.faults first.link.store_faults old.link.store_faults new.link.store_faults end under_way.failing under_way.faults under_way.store_faults
          (ends_at _ _ old.link.plan old.link.faults new.link.faults old.link.store_faults new.link.store_faults end (ap (λ (b : Bounds). b.terms.keeps) under_way.bounds) cause);
      memory = subst (λ (b : Bounds). Starves b.terms first.entries new.entries first.link.journal first.link.refusals end new.link.journal new.link.refusals) bounds starves;
      lost = NeverFalls-trans under_way.lost follows.lost;
      refusals = NeverFalls-trans under_way.refusals follows.refusals;
    }

-- the loop goes on where the event was served
pub turn_served : (old new : ServerState) (link : LinkState) (buf : List ℕ) (given : Answer) → Gave old.link link buf given → stops_with given ≡ false → Goes (IsHeard (event_of buf given)) IsOver (record old { link = link }) new →
    Stays (record old { link = link }) new → new.link.store_faults ≡ link.store_faults → new.hub.unstored ≡ [] → GoesOn old new
turn_served old new link buf given gave no_stop goes stays store_kept stored first n under_way =
    let goes_on = goes_on_with buf given no_stop in
    let follows = follows_given old new link buf given gave stays in
    record {
      running = running_on first old new n link buf given under_way.running gave.tells goes_on goes;
      playing = playing_on first old n link new.link _ _ buf given under_way.running under_way.playing gave.long gave.tells gave.plays goes_on (goes first.entries) stays.plan;
      borrows = follows.borrows ∙ under_way.borrows;
      bounds = follows.bounds ∙ under_way.bounds;
      failing = follows.failing ∙ under_way.failing;
      faults = stays.faults ∙ gave.faults ∙ under_way.faults;
      store_faults = store_kept ∙ gave.store_faults ∙ under_way.store_faults;
      lost = NeverFalls-trans under_way.lost follows.lost;
      refusals = NeverFalls-trans under_way.refusals follows.refusals;
      stored = stored;
    }

-- it ends where there was no memory in the event's block, or what changed could not be stored
pub turn_cut : (old new : ServerState) (link : LinkState) (buf : List ℕ) (given : Answer) (end : Ended) → IsUnfinished end → Gave old.link link buf given → Goes (IsHeard (event_of buf given)) IsRight (record old { link = link }) new →
    Stays (record old { link = link }) new → EndsFor old.hub.bounds.terms.keeps link.plan link.faults new.link.faults link.store_faults new.link.store_faults end →
    (end ≡ ended.NoMemory → HasNoMemory given (record old { link = link }) new) → EndsWith old end new
turn_cut old new link buf given end unfinished gave goes stays cause wants first n turns below under_way =
    ended_from first old new n turns end under_way (follows_given old new link buf given gave stays) (running_cut first old new n turns end link buf given unfinished under_way.running gave.tells goes below)
    (by_stop (stops_with given) refl)
    (EndsFor-came old.hub.bounds.terms.keeps old.link.plan link.plan old.link.faults link.faults new.link.faults old.link.store_faults link.store_faults new.link.store_faults end (failing_kept old.link.journal old.link.plan link.plan buf given gave.plays) gave.faults gave.store_faults cause)
    (starves_block first old new n link buf given first.link.refusals new.link.refusals end under_way.running gave.tells goes
    (λ starved. block_cause given first.link.refusals link.refusals new.link.refusals (NeverFalls-trans under_way.refusals gave.refusals) (wants starved)))
  where
    by_stop : (d : Bool) → stops_with given ≡ d → PlaysOut turns first.link.journal first.link.plan end new.link.journal new.link.plan
    by_stop true stop = plays_stopped turns first.link old.link link new.link _ _ buf given end under_way.playing gave.long gave.tells gave.plays (stops_is buf given stop) (goes first.entries) stays.plan unfinished.spends
    by_stop false still =
        plays_ended turns first.link new.link end (playing_on first old n link new.link _ _ buf given under_way.running under_way.playing gave.long gave.tells gave.plays (goes_on_with buf given still) (goes first.entries) stays.plan)
        unfinished.stops unfinished.spends

no_memory_spent : ended.NoMemory ≡ ended.TurnsSpent → ⊥
no_memory_spent h = cc

ends_not_spent : (b : Bool) (end : Ended) → (end ≡ ended.TurnsSpent → ⊥) → ends_with b end ≡ ended.TurnsSpent → ⊥
ends_not_spent true end other h = no_memory_spent h
ends_not_spent false end other h = other h

ends_not_stopped : (b : Bool) (end : Ended) → (end ≡ ended.Stopped → ⊥) → ends_with b end ≡ ended.Stopped → ⊥
ends_not_stopped true end other h = no_memory_stopped h
  where
    no_memory_stopped : ended.NoMemory ≡ ended.Stopped → ⊥
    no_memory_stopped h = cc
ends_not_stopped false end other h = other h

stopped_spent : ended.Stopped ≡ ended.TurnsSpent → ⊥
stopped_spent h = cc

fault_spent : ended.LinkFault ≡ ended.TurnsSpent → ⊥
fault_spent h = cc

fault_stopped : ended.LinkFault ≡ ended.Stopped → ⊥
fault_stopped h = cc

spent_stopped : ended.TurnsSpent ≡ ended.Stopped → ⊥
spent_stopped h = cc

-- it ends where the event is Stop
pub turn_stopped : (old new : ServerState) (link : LinkState) (buf : List ℕ) (given : Answer) (end : Ended) → Gave old.link link buf given → stops_with given ≡ true → Goes (IsHeard (event_of buf given)) IsOver (record old { link = link }) new →
    Stays (record old { link = link }) new → new.link.store_faults ≡ link.store_faults → end ≡ ends_with new.hub.was_cut ended.Stopped → EndsWith old end new
turn_stopped old new link buf given end gave stop goes stays store_kept is first n turns below under_way =
    let at_stop = stops_is buf given stop in
    ended_from first old new n turns end under_way (follows_given old new link buf given gave stays)
    (subst (λ e. Serves new.hub.bounds.terms first.entries new.entries turns first.link.journal e new.link.journal) (sym is) (running_stopped first old new n turns link buf given under_way.running gave.tells at_stop goes below))
    (subst (λ e. PlaysOut turns first.link.journal first.link.plan e new.link.journal new.link.plan) (sym is)
    (plays_stopped turns first.link old.link link new.link _ _ buf given (ends_with new.hub.was_cut ended.Stopped) under_way.playing gave.long gave.tells gave.plays at_stop (goes first.entries) stays.plan (ends_not_spent new.hub.was_cut ended.Stopped stopped_spent)))
    (ends_as old.hub.bounds.terms.keeps old.link.plan old.link.faults new.link.faults old.link.store_faults new.link.store_faults end (ends_with new.hub.was_cut ended.Stopped) is
    (ends_stopped old.hub.bounds.terms.keeps old.link.plan old.link.faults new.link.faults old.link.store_faults new.link.store_faults new.hub.was_cut (stays.faults ∙ gave.faults) (store_kept ∙ gave.store_faults)))
    (starves_served first old new n link buf given first.link.refusals new.link.refusals end ended.Stopped under_way.running gave.tells goes stopped_apart is)

-- it ends where the link failed
pub turn_failed : (old : ServerState) (link : LinkState) (end : Ended) → GaveNone old.link link → LinkCause {T = Answer} old.link.plan old.link.faults link.faults (Err fault.Failed) → link.store_faults ≡ old.link.store_faults →
    end ≡ ends_with old.hub.was_cut ended.LinkFault → EndsWith old end (record old { link = link })
turn_failed old link end gave cause store_kept is first n turns below under_way =
    ended_from first old (record old { link = link }) n turns end under_way (follows_none old link gave)
    (subst (λ e. Serves old.hub.bounds.terms first.entries old.entries turns first.link.journal e link.journal) (sym is) (running_failed first old n turns link.journal under_way.running gave.journal below))
    (subst (λ e. PlaysOut turns first.link.journal first.link.plan e link.journal link.plan) (sym is)
    (plays_ended turns first.link link (ends_with old.hub.was_cut ended.LinkFault) (playing_kept first.link old.link link under_way.playing gave.journal gave.plan) (ends_not_stopped old.hub.was_cut ended.LinkFault fault_stopped)
    (ends_not_spent old.hub.was_cut ended.LinkFault fault_spent)))
    (ends_as old.hub.bounds.terms.keeps old.link.plan old.link.faults link.faults old.link.store_faults link.store_faults end (ends_with old.hub.was_cut ended.LinkFault) is
    (ends_failed old.hub.bounds.terms.keeps old.link.plan old.link.faults link.faults old.link.store_faults link.store_faults old.hub.was_cut cause store_kept))
    (starves_cut first old n link.journal first.link.refusals link.refusals end ended.LinkFault under_way.running gave.journal failed_apart is)

-- it ends where there was no memory for an event, or what was stored could not be had on the disk
pub turn_unfinished : (old : ServerState) (link : LinkState) (end : Ended) → IsUnfinished end → GaveNone old.link link →
    EndsFor old.hub.bounds.terms.keeps old.link.plan old.link.faults link.faults old.link.store_faults link.store_faults end → (end ≡ ended.NoMemory → Rose old.link.refusals link.refusals) → EndsWith old end (record old { link = link })
turn_unfinished old link end unfinished gave cause rose first n turns below under_way =
    ended_from first old (record old { link = link }) n turns end under_way (follows_none old link gave)
    (running_unfinished first old n turns end link.journal unfinished under_way.running gave.journal (let under : n < turns = below in omega arith))
    (plays_ended turns first.link link end (playing_kept first.link old.link link under_way.playing gave.journal gave.plan) unfinished.stops unfinished.spends) cause
    (starves_refused first old n link.journal first.link.refusals link.refusals end under_way.running gave.journal (λ starved. rose_after under_way.refusals (rose starved)))

-- once what was stored is on the disk a loop is where it was
under_way_synced : (first old new : ServerState) (n : ℕ) → new ≡ record old { link = new.link } → new.link.journal ≡ old.link.journal → Stays old new → new.link.store_faults ≡ old.link.store_faults → IsUnderWay first n old → IsUnderWay first n new
under_way_synced first old new n kept same stays store_kept under_way =
    record {
      running = running_kept first old new n kept same under_way.running;
      playing = playing_kept first.link old.link new.link under_way.playing same stays.plan;
      borrows = stays.borrows ∙ under_way.borrows;
      bounds = stays.bounds ∙ under_way.bounds;
      failing = ap failing_of stays.plan ∙ under_way.failing;
      faults = stays.faults ∙ under_way.faults;
      store_faults = store_kept ∙ under_way.store_faults;
      lost = NeverFalls-trans under_way.lost stays.lost;
      refusals = NeverFalls-trans under_way.refusals stays.refusals;
      stored = ap (λ (server : ServerState). server.hub.unstored) kept ∙ under_way.stored;
    }

pub synced_goes_on : (result : Option Ended) (old new last : ServerState) → new ≡ record old { link = new.link } → new.link.journal ≡ old.link.journal → Stays old new → new.link.store_faults ≡ old.link.store_faults →
    IfNone result (GoesOn new last) → IfNone result (GoesOn old last)
synced_goes_on None old new last kept same stays store_kept goes_on = λ first n under_way. goes_on first n (under_way_synced first old new n kept same stays store_kept under_way)
synced_goes_on (Some end) old new last kept same stays store_kept goes_on = tt

pub synced_ends : (result : Option Ended) (old new last : ServerState) → new ≡ record old { link = new.link } → new.link.journal ≡ old.link.journal → Stays old new → new.link.store_faults ≡ old.link.store_faults →
    IfSome result (λ end. EndsWith new end last) → IfSome result (λ end. EndsWith old end last)
synced_ends None old new last kept same stays store_kept ends = tt
synced_ends (Some end) old new last kept same stays store_kept ends = λ first n turns below under_way. ends first n turns below (under_way_synced first old new n kept same stays store_kept under_way)

-- a loop that begins
pub under_way_start : (first : ServerState) → first.hub ≡ no_hub first.hub.bounds → first.on_hold ≡ [] → IsUnderWay first 0 first
under_way_start first none free =
    record {
      running = running_start first none free;
      playing = playing_start first.link;
      borrows = refl;
      bounds = refl;
      failing = refl;
      faults = refl;
      store_faults = refl;
      lost = NeverFalls-refl first.link.lost;
      refusals = NeverFalls-refl first.link.refusals;
      stored = ap (λ (hub : HubState). hub.unstored) none;
    }

-- a loop that ends before it begins
pub not_begun : (bounds : Bounds) (entries : DirectoryEntries) (link : LinkState) (turns : ℕ) →
    let first : ServerState = record { hub = no_hub bounds; entries = entries; due = []; on_hold = []; link = link; borrows = (0, 0) } in HasEnded first turns ended.NoMemory first
not_begun bounds entries link turns =
    let first : ServerState = record { hub = no_hub bounds; entries = entries; due = []; on_hold = []; link = link; borrows = (0, 0) } in
    let under_way = under_way_start first refl refl in
    record {
      borrows = refl;
      served = running_unfinished first first 0 turns ended.NoMemory link.journal unfinished_starved under_way.running refl (omega arith);
      plays = plays_ended turns link link ended.NoMemory under_way.playing unfinished_starved.stops unfinished_starved.spends;
      cause = ends_starved bounds.terms.keeps link.plan link.faults link.faults link.store_faults link.store_faults refl refl;
      memory = starves_first bounds.terms entries link.journal link.refusals link.refusals ended.NoMemory;
      lost = NeverFalls-refl link.lost;
      refusals = NeverFalls-refl link.refusals;
    }

-- a loop whose turns are spent
pub turns_spent : (first now : ServerState) (n turns : ℕ) (end : Ended) → n ≡ turns → IsUnderWay first n now → end ≡ ends_with now.hub.was_cut ended.TurnsSpent → HasEnded first turns end now
turns_spent first now n turns end all under_way is =
    let spent = subst (λ k. IsUnderWay first k now) all under_way in
    ended_from first now now turns turns end spent (follows_none now now.link (record { journal = refl; plan = refl; lost = NeverFalls-refl now.link.lost; refusals = NeverFalls-refl now.link.refusals }))
    (subst (λ e. Serves now.hub.bounds.terms first.entries now.entries turns first.link.journal e now.link.journal) (sym is) (running_spent first now turns spent.running))
    (subst (λ e. PlaysOut turns first.link.journal first.link.plan e now.link.journal now.link.plan) (sym is)
    (plays_spent first now turns (ends_with now.hub.was_cut ended.TurnsSpent) (ends_not_stopped now.hub.was_cut ended.TurnsSpent spent_stopped) spent.playing spent.running))
    (ends_as now.hub.bounds.terms.keeps now.link.plan now.link.faults now.link.faults now.link.store_faults now.link.store_faults end (ends_with now.hub.was_cut ended.TurnsSpent) is
    (ends_spent now.hub.bounds.terms.keeps now.link.plan now.link.faults now.link.faults now.link.store_faults now.link.store_faults now.hub.was_cut refl refl))
    (starves_cut first now turns now.link.journal first.link.refusals now.link.refusals end ended.TurnsSpent spent.running refl spent_apart is)
