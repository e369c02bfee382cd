-- The loop over a link, event by event.
use Rattle.std.proofs.Common.{◌≡◌, ◌≤◌, ◌<◌, ◌+◌, ℕ, Bool, true, false, ◌||◌, List, [], ◌∷◌, ◌++◌, length, Option, Some, None, Ok, Err, refl, ap, sym, ◌∙◌, subst, append_assoc, append-nil, length-append, arith}
use Rattle.session_model.specs.wire_io.declared.answers.Heard.{Heard as Answer}
use Rattle.session_model.specs.wire_io.declared.answers.Heard.TheVariants as answer
use Rattle.session_model.specs.wire_io.declared.answers.NextFault.{NextFault}
use Rattle.session_model.specs.wire_io.declared.journal.Event.{Event}
use Rattle.session_model.specs.wire_io.declared.journal.Event.TheVariants as event
use Rattle.session_model.specs.wire_io.declared.journal.Item.{Item}
use Rattle.session_model.specs.wire_io.declared.journal.Item.TheVariants as item
use Rattle.session_model.specs.wire_io.Journal.{heard, was_stopped, stops, was_opened}
use Rattle.session_model.specs.wire_io.link.Telling.{event_of, NextTells, MayCome}
use Rattle.session_model.specs.wire_io.Playing.{NextPlays}
use Rattle.session_model.specs.wire_io.link.Plan.{Plan}
use Rattle.session_model.proofs.wire_io_proofs.Theorems.{heard-append}
use Rattle.session_model.specs.Run.{run}
use Rattle.session_model.specs.Journaled.{steps_of, all_taken}
use Rattle.session_model.specs.Serving.{Leads, Served}
use Rattle.session_model.specs.Working.{Works}
use Rattle.session_model.specs.Replaying.{IsReplay}
use Rattle.session_model.proofs.Theorems.{was_opened-append, works_start, works_served, works_replayed, works_leads, own_steps}
use Rattle.session_hub.specs.Parties.{DirectoryEntries}
use Rattle.session_hub.specs.Terms.{Terms}
use Rattle.session_hub.specs.declared.ended.Ended.{Ended}
use Rattle.session_hub.specs.declared.ended.Ended.TheVariants as ended
use Rattle.session_hub.specs.Answering.{rules}
use Rattle.session_hub.specs.hub.Hubs.{HubState, held, no_hub}
use Rattle.session_hub.specs.serve.Loops.{Serves, ServesAll, IsServed, ends_with}
use Rattle.session_hub.specs.serve.Servers.{LinkState, ServerState, rules_of, held_by}
use Rattle.session_hub.specs.Adding.{AddsItems, Goes, IsRight, IsOver, IsHeard, stops_with}
use Rattle.session_hub.specs.serve.Turns.{Ran, Running, failing_of}
use Rattle.session_hub.proofs.serving.AddingLemmas.{was_stopped-both}

-- whether an event is Stop
unfoldable pub is_stop : Event → Bool
is_stop event.Stop = true
is_stop _ = false

pub one_event : (e : Event) → heard (item.Heard e ∷ []) ≡ e ∷ []
unfolding heard
one_event e = refl

one_stop : (e : Event) → was_stopped (item.Heard e ∷ []) ≡ is_stop e
unfolding was_stopped stops is_stop
one_stop (event.Opened c) = refl
one_stop (event.Bytes c octets) = refl
one_stop (event.Ended c) = refl
one_stop (event.Ready c) = refl
one_stop event.Idle = refl
one_stop event.Stop = refl

-- a journal with one more event
pub record Comes (begun added : List Item) (e : Event) (after : Option (List Item)) : Type 0 where
  pub noted : after ≡ Some (begun ++ (added ++ item.Heard e ∷ []))
  pub opens : (c : ℕ) → e ≡ event.Opened c → was_opened c added ≡ false

opened_before : (c : ℕ) (begun added : List Item) → was_opened c (begun ++ added) ≡ false → was_opened c added ≡ false
opened_before c begun added h = later (was_opened c begun) (was_opened c added) (sym (was_opened-append c begun added) ∙ h)
  where
    later : (a b : Bool) → (a || b) ≡ false → b ≡ false
    later true b h = cc
    later false b h = h

may_open : (c : ℕ) (journal : List Item) (e : Event) → MayCome journal e → e ≡ event.Opened c → was_opened c journal ≡ false
unfolding MayCome
may_open c journal e may is = let comes : MayCome journal (event.Opened c) = subst (MayCome journal) is may in comes

pub comes : (begun added : List Item) (buf : List ℕ) (given : Answer) (before after : Option (List Item)) → before ≡ Some (begun ++ added) → NextTells {E = NextFault} before buf (Ok given) after →
    Comes begun added (event_of buf given) after
unfolding NextTells
comes begun added buf given before after is tells =
    let says : NextTells {E = NextFault} (Some (begun ++ added)) buf (Ok given) after = subst (λ b. NextTells {E = NextFault} b buf (Ok given) after) is tells in
    record {
      noted = says.0 ∙ ap (λ x. Some x) (append_assoc begun added (item.Heard (event_of buf given) ∷ []));
      opens = λ c opened. opened_before c begun added (may_open c (begun ++ added) (event_of buf given) says.1 opened);
    }

-- an event heard before its block
heard_now : (entries : DirectoryEntries) (begun added : List Item) (e : Event) (after : Option (List Item)) (server : ServerState) (link : LinkState) → Comes begun added e after →
    IsOver entries server added → IsHeard e entries (record server { link = link }) (added ++ item.Heard e ∷ [])
heard_now entries begun added e after server link came works = record { before = added; last = refl; opens = came.opens; works = works }

-- the event is the last that was heard
heard_last : (added more : List Item) (e : Event) → heard more ≡ [] → heard ((added ++ item.Heard e ∷ []) ++ more) ≡ heard added ++ e ∷ []
heard_last added more e none =
    heard-append (added ++ item.Heard e ∷ []) more ∙ ap (λ xs. heard (added ++ item.Heard e ∷ []) ++ xs) none ∙ append-nil (heard (added ++ item.Heard e ∷ []))
    ∙ heard-append added (item.Heard e ∷ []) ∙ ap (λ xs. heard added ++ xs) (one_event e)

-- as many events as heard, and one more
heard_more : (added more : List Item) (e : Event) (n : ℕ) → length (heard added) ≡ n → heard more ≡ [] → length (heard ((added ++ item.Heard e ∷ []) ++ more)) ≡ n + 1
heard_more added more e n count none =
    ap length (heard_last added more e none) ∙ length-append (heard added) (e ∷ []) ∙ ap (λ m. m + 1) count

stopped_more : (added more : List Item) (e : Event) (b : Bool) → was_stopped added ≡ false → is_stop e ≡ b → was_stopped more ≡ false → was_stopped ((added ++ item.Heard e ∷ []) ++ more) ≡ b
stopped_more added more e b f g h =
    was_stopped-both (added ++ item.Heard e ∷ []) more ∙ ap (λ x. x || was_stopped more) (was_stopped-both added (item.Heard e ∷ []) ∙ ap (λ x. was_stopped added || x) (one_stop e))
    ∙ grind (arith, f, g, h)

-- what an event and its block come to
pub record Served_on (e : Event) (n : ℕ) (stop : Bool) (Q : List Item → Type 0) (added : List Item) : Type 0 where
  pub earlier : List Event
  pub last : heard added ≡ earlier ++ e ∷ []
  pub ends : was_stopped added ≡ stop
  pub counts : length (heard added) ≡ n + 1
  pub holds : Q added

pub serve_on : (first old : ServerState) (n : ℕ) (stop : Bool) (link : LinkState) (after : Option (List Item)) (Q : List Item → Type 0) (buf : List ℕ) (given : Answer) →
    Running first n old → NextTells {E = NextFault} old.link.journal buf (Ok given) link.journal → is_stop (event_of buf given) ≡ stop →
    AddsItems link.plan (IsHeard (event_of buf given) first.entries (record old { link = link })) Q link.journal after →
    (begun : List Item) → first.link.journal ≡ Some begun → (added : List Item) × (after ≡ Some (begun ++ added)) × Served_on (event_of buf given) n stop Q added
unfolding Running AddsItems
serve_on first old n stop link after Q buf given running tells is_one adds begun is =
    let so = running begun is in
    let added = so.0 in
    let e = event_of buf given in
    let came = comes begun added buf given old.link.journal link.journal so.1 tells in
    let block = adds begun (added ++ item.Heard e ∷ []) came.noted in (
      (added ++ item.Heard e ∷ []) ++ block.0,
      block.1,
      record {
        earlier = heard added;
        last = heard_last added block.0 e block.2.events;
        ends = stopped_more added block.0 e stop so.2.goes_on is_one block.2.stops;
        counts = heard_more added block.0 e n so.2.counts block.2.events;
        holds = block.3 (heard_now first.entries begun added e link.journal old link came so.2.works);
      },
    )

-- nothing is heard yet
pub running_start : (first : ServerState) → first.hub ≡ no_hub first.hub.bounds → first.on_hold ≡ [] → Running first 0 first
unfolding Running was_stopped heard
running_start first none free begun is = (
  [],
  is ∙ ap (λ x. Some x) (sym (append-nil begun)),
  record {
    goes_on = refl;
    counts = refl;
    works = subst (λ (h : HubState). Works (rules_of first) first.entries [] (held first.entries h) first.on_hold []) (sym none)
        (subst (λ xs. Works (rules_of first) first.entries [] (held first.entries (no_hub first.hub.bounds)) xs []) (sym free) (works_start (rules_of first) first.entries));
  },
)

-- a call of the link that gives no event
pub running_kept : (first old new : ServerState) (n : ℕ) → new ≡ record old { link = new.link } → new.link.journal ≡ old.link.journal → Running first n old → Running first n new
unfolding Running
running_kept first old new n kept same running begun is =
    let so = running begun is in
    (so.0, same ∙ so.1, record { goes_on = so.2.goes_on; counts = so.2.counts; works = subst (λ server. IsOver first.entries server so.0) (sym kept) so.2.works })

-- an event that isn't Stop is heard and served
pub running_on : (first old new : ServerState) (n : ℕ) (link : LinkState) (buf : List ℕ) (given : Answer) → Running first n old → NextTells {E = NextFault} old.link.journal buf (Ok given) link.journal → is_stop (event_of buf given) ≡ false →
    Goes (IsHeard (event_of buf given)) IsOver (record old { link = link }) new → Running first (n + 1) new
unfolding Running
running_on first old new n link buf given running tells goes_on goes begun is =
    let so = serve_on first old n false link new.link.journal (IsOver first.entries new) buf given running tells goes_on (goes first.entries) begun is in
    (so.0, so.1, record { goes_on = so.2.ends; counts = so.2.counts; works = so.2.holds })

-- what nobody is due in serves, where nothing was cut
is_served : (entries : DirectoryEntries) (server : ServerState) (added : List Item) → server.hub.was_cut ≡ false → IsOver entries server added → IsServed server.hub.bounds.terms entries server.entries added
is_served entries server added none works =
    let own = own_steps added works.steps works.tracks.sound.are (works.tracks.no_cut none) in
    record {
      served = subst (λ xs. Served (rules_of server) entries xs added) own (works_served (rules_of server) entries (held_by server) server.on_hold added works);
      entries_left = works.tracks.keeps.tree ∙ ap (λ u. u.tree) (sym works.tracks.is) ∙ ap (λ xs. (run (rules_of server) entries xs).tree) own;
    }

is_replay : (entries : DirectoryEntries) (server : ServerState) (added : List Item) → server.hub.was_cut ≡ false → IsOver entries server added → all_taken added ≡ true → IsReplay (rules_of server) entries (steps_of added) added
is_replay entries server added none works all =
    subst (λ xs. IsReplay (rules_of server) entries xs added) (own_steps added works.steps works.tracks.sound.are (works.tracks.no_cut none)) (works_replayed (rules_of server) entries (held_by server) server.on_hold added works all)

-- the journal is right so far where nobody is due
pub over_right : (entries : DirectoryEntries) (server : ServerState) (added : List Item) → IsOver entries server added → IsRight entries server added
over_right entries server added works = works_leads (rules_of server) entries [] (held_by server) server.on_hold added works

serves_stopped : (entries : DirectoryEntries) (turns : ℕ) (server : ServerState) (added : List Item) → was_stopped added ≡ true → length (heard added) ≤ turns → IsOver entries server added → (b : Bool) → server.hub.was_cut ≡ b →
    ServesAll server.hub.bounds.terms entries server.entries turns added (ends_with b ended.Stopped)
serves_stopped entries turns server added stops fits works true cut = record { ends = fits; served = over_right entries server added works; replayed = λ _. tt }
serves_stopped entries turns server added stops fits works false none = record { ends = (stops, fits); served = is_served entries server added none works; replayed = is_replay entries server added none works }

serves_spent : (entries : DirectoryEntries) (turns : ℕ) (server : ServerState) (added : List Item) → Ran entries turns server added → (b : Bool) → server.hub.was_cut ≡ b →
    ServesAll server.hub.bounds.terms entries server.entries turns added (ends_with b ended.TurnsSpent)
serves_spent entries turns server added ran true cut = record { ends = (let n : length (heard added) ≡ turns = ran.counts in omega arith); served = over_right entries server added ran.works; replayed = λ _. tt }
serves_spent entries turns server added ran false none = record { ends = (ran.goes_on, ran.counts); served = is_served entries server added none ran.works; replayed = is_replay entries server added none ran.works }

serves_failed : (entries : DirectoryEntries) (n turns : ℕ) (server : ServerState) (added : List Item) → Ran entries n server added → n < turns → (b : Bool) → server.hub.was_cut ≡ b →
    ServesAll server.hub.bounds.terms entries server.entries turns added (ends_with b ended.LinkFault)
serves_failed entries n turns server added ran below true cut = record { ends = (let m : length (heard added) ≡ n = ran.counts in omega arith); served = over_right entries server added ran.works; replayed = λ _. tt }
serves_failed entries n turns server added ran below false none =
    record {
      ends = (ran.goes_on, let m : length (heard added) ≡ n = ran.counts in omega arith);
      served = is_served entries server added none ran.works;
      replayed = is_replay entries server added none ran.works;
    }

-- the turns are spent
pub running_spent : (first now : ServerState) (turns : ℕ) → Running first turns now → Serves now.hub.bounds.terms first.entries now.entries turns first.link.journal (ends_with now.hub.was_cut ended.TurnsSpent) now.link.journal
unfolding Running Serves
running_spent first now turns running begun is = let so = running begun is in (so.0, so.1, serves_spent first.entries turns now so.0 so.2 now.hub.was_cut refl)

-- the link failed
pub running_failed : (first now : ServerState) (n turns : ℕ) (after : Option (List Item)) → Running first n now → after ≡ now.link.journal → n < turns →
    Serves now.hub.bounds.terms first.entries now.entries turns first.link.journal (ends_with now.hub.was_cut ended.LinkFault) after
unfolding Running Serves
running_failed first now n turns after running same below begun is = let so = running begun is in (so.0, same ∙ so.1, serves_failed first.entries n turns now so.0 so.2 below now.hub.was_cut refl)

-- the answers of a loop whose last block may be unfinished
pub record IsUnfinished (end : Ended) : Type 0 where
  pub serves : (terms : Terms) (entries left : DirectoryEntries) (turns : ℕ) (added : List Item) → length (heard added) ≤ turns → Leads (rules terms) entries left added → ServesAll terms entries left turns added end
  pub spends : end ≡ ended.TurnsSpent → ⊥
  pub stops : end ≡ ended.Stopped → ⊥

pub unfinished_starved : IsUnfinished ended.NoMemory
unfinished_starved = record { serves = λ terms entries left turns added fits leads. record { ends = fits; served = leads; replayed = λ _. tt }; spends = λ h. cc; stops = λ h. cc }

pub unfinished_unstored : IsUnfinished ended.StoreFault
unfinished_unstored = record { serves = λ terms entries left turns added fits leads. record { ends = fits; served = leads; replayed = λ _. tt }; spends = λ h. cc; stops = λ h. cc }

-- no event was given in the turn
pub running_unfinished : (first now : ServerState) (n turns : ℕ) (end : Ended) (after : Option (List Item)) → IsUnfinished end → Running first n now → after ≡ now.link.journal → n ≤ turns →
    Serves now.hub.bounds.terms first.entries now.entries turns first.link.journal end after
unfolding Running Serves
running_unfinished first now n turns end after unfinished running same below begun is =
    let so = running begun is in (
      so.0,
      same ∙ so.1,
      unfinished.serves now.hub.bounds.terms first.entries now.entries turns so.0 (let m : length (heard so.0) ≡ n = so.2.counts in omega arith) (over_right first.entries now so.0 so.2.works),
    )

-- there was no memory within a block, or what changed could not be stored
pub running_cut : (first old new : ServerState) (n turns : ℕ) (end : Ended) (link : LinkState) (buf : List ℕ) (given : Answer) → IsUnfinished end → Running first n old → NextTells {E = NextFault} old.link.journal buf (Ok given) link.journal →
    Goes (IsHeard (event_of buf given)) IsRight (record old { link = link }) new → n < turns → Serves new.hub.bounds.terms first.entries new.entries turns first.link.journal end new.link.journal
unfolding Serves
running_cut first old new n turns end link buf given unfinished running tells goes below begun is =
    let so = serve_on first old n (is_stop (event_of buf given)) link new.link.journal (IsRight first.entries new) buf given running tells refl (goes first.entries) begun is in
    (so.0, so.1, unfinished.serves new.hub.bounds.terms first.entries new.entries turns so.0 (let m : length (heard so.0) ≡ n + 1 = so.2.counts in omega arith) so.2.holds)

is_stop_stop : is_stop event.Stop ≡ true
unfolding is_stop
is_stop_stop = refl

-- Stop is heard and its block done
pub running_stopped : (first old new : ServerState) (n turns : ℕ) (link : LinkState) (buf : List ℕ) (given : Answer) → Running first n old → NextTells {E = NextFault} old.link.journal buf (Ok given) link.journal → event_of buf given ≡ event.Stop →
    Goes (IsHeard (event_of buf given)) IsOver (record old { link = link }) new → n < turns → Serves new.hub.bounds.terms first.entries new.entries turns first.link.journal (ends_with new.hub.was_cut ended.Stopped) new.link.journal
unfolding Serves
running_stopped first old new n turns link buf given running tells stop goes below begun is =
    let so = serve_on first old n true link new.link.journal (IsOver first.entries new) buf given running tells (ap is_stop stop ∙ is_stop_stop) (goes first.entries) begun is in
    (so.0, so.1, serves_stopped first.entries turns new so.0 so.2.ends (let m : length (heard so.0) ≡ n + 1 = so.2.counts in omega arith) so.2.holds new.hub.was_cut refl)

pub next_fails : (E : Type 0) (journal new : Option (List Item)) (buf : List ℕ) (f : E) → NextTells {E = E} journal buf (Err f) new → new ≡ journal
unfolding NextTells
next_fails E None new buf f tells = tells
next_fails E (Some journal) new buf f tells = tells

-- an answer that isn't Stop is an event that isn't, and one that is, is
pub goes_on_with : (buf : List ℕ) (given : Answer) → stops_with given ≡ false → is_stop (event_of buf given) ≡ false
unfolding event_of is_stop
goes_on_with buf (answer.Opened c) h = refl
goes_on_with buf (answer.Bytes c count) h = refl
goes_on_with buf (answer.Ended c) h = refl
goes_on_with buf (answer.Ready c) h = refl
goes_on_with buf answer.Idle h = refl
goes_on_with buf answer.Stop h = cc

pub stops_is : (buf : List ℕ) (given : Answer) → stops_with given ≡ true → event_of buf given ≡ event.Stop
unfolding event_of
stops_is buf (answer.Opened c) h = cc
stops_is buf (answer.Bytes c count) h = cc
stops_is buf (answer.Ended c) h = cc
stops_is buf (answer.Ready c) h = cc
stops_is buf answer.Idle h = cc
stops_is buf answer.Stop h = refl

-- the failing calls of a plan stay
pub failing_kept : (journal : Option (List Item)) (plan after : Option Plan) (buf : List ℕ) (given : Answer) → NextPlays {E = NextFault} journal plan buf (Ok given) after → failing_of after ≡ failing_of plan
unfolding NextPlays
failing_kept journal None after buf given plays = ap failing_of plays
failing_kept journal (Some plan) after buf given plays = ap failing_of plays.1
