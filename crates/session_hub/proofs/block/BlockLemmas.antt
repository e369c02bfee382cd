-- An event heard, by what a server makes of it.
use Rattle.std.proofs.Common.{◌≡◌, ◌≤◌, ◌<◌, ℕ, nat_lt, Bool, true, false, List, [], ◌∷◌, ◌++◌, length, Option, Some, None, Result, Ok, Err, OnErr, refl, ap, sym, ◌∙◌, subst, arith, cond}
use Rattle.std.proofs.lemmas.Bool.Decides.{nat_tests}
use Rattle.session_model.specs.wire_io.declared.journal.Event.{Event as JournalEvent}
use Rattle.session_model.specs.wire_io.declared.journal.Event.TheVariants as event
use Rattle.session_model.specs.wire_io.declared.journal.Item.{Item}
use Rattle.session_model.specs.wire_io.declared.journal.Item.TheVariants as item
use Rattle.session_model.specs.wire_io.Journal.{opens}
use Rattle.session_model.specs.wire_io.link.Telling.{NoteTells}
use Rattle.session_model.specs.Journaled.{step_of_event}
use Rattle.session_model.specs.Run.{Opened, Bytes, Ended, most_held}
use Rattle.session_model.specs.Kept.{Kept, Held, kept_of, heard, forgotten}
use Rattle.session_model.specs.Serving.{Leads}
use Rattle.session_model.specs.Working.{Works, Covers, CutsOpen}
use Rattle.session_model.proofs.Theorems.{opened_leads, works_opened, works_turned, works_bytes, works_ended, works_idle, works_as}
use Rattle.session_hub.specs.Parties.{DirectoryEntries, Requester}
use Rattle.session_hub.specs.Answering.{rules}
use Rattle.session_hub.specs.hub.Hubs.{HubState, held, Hears, OpensOne}
use Rattle.session_hub.specs.declared.bounds.Bounds.{Bounds}
use Rattle.session_hub.specs.declared.event.Event.{Event}
use Rattle.session_hub.specs.declared.event.Event.TheVariants as came
use Rattle.session_hub.specs.Event.{new_cut}
use Rattle.session_hub.specs.Telling.{journal_event_of, IsOf}
use Rattle.session_hub.specs.serve.Servers.{LinkState, ServerState, OnlyHears, rules_of, held_by}
use Rattle.session_hub.specs.Adding.{AddsItems, IsRight, IsServing, IsHeard, IsTurnedAway}
use Rattle.session_hub.proofs.hub.UnkeptLemmas.{event_unkept}
use Rattle.session_hub.proofs.serving.AddingLemmas.{adds_nothing, adds_one}
use Rattle.session_hub.proofs.serving.KeepingLemmas.{stays_none}
use Rattle.session_hub.proofs.serving.ServingLemmas.{block_hung_up}

covers_same : (xs : List ℕ) → Covers xs xs
covers_same xs = record { covers = λ n h. h }

pub covers_is : (xs ys : List ℕ) → xs ≡ ys → Covers xs ys
covers_is xs ys is = subst (λ zs. Covers zs ys) (sym is) (covers_same ys)

-- what an event left of a server's hub and directory, where nobody else is due than those that were on hold and one
pub record Begins (old new : ServerState) (due : List ℕ) : Type 0 where
  pub bounds : new.hub.bounds ≡ old.hub.bounds
  pub on_hold : new.on_hold ≡ old.on_hold
  pub covers : Covers new.due due

-- what serves these serves those that are then due
begins_as : (entries : DirectoryEntries) (old new : ServerState) (due : List ℕ) (added : List Item) → Begins old new due → Works (rules_of old) entries due (held_by new) old.on_hold added → IsServing entries new added
begins_as entries old new due added begins works =
    subst (λ (b : Bounds). Works (rules b.terms) entries new.due (held_by new) new.on_hold added) (sym begins.bounds)
    (subst (λ xs. Works (rules_of old) entries new.due (held_by new) xs added) (sym begins.on_hold) (works_as (rules_of old) entries due new.due (held_by new) old.on_hold added begins.covers works))

-- a connection has opened, and there is room
pub opened_goes : (entries : DirectoryEntries) (c : ℕ) (old : ServerState) (hub : HubState) (tree : DirectoryEntries) (due on_hold : List ℕ) → Hears old.hub.bounds.terms (came.Opened c) (held_by old) (held tree hub) → hub.bounds ≡ old.hub.bounds →
    length old.hub.kept < most_held → on_hold ≡ old.on_hold → Covers due (c ∷ old.on_hold) →
    AddsItems old.link.plan (IsHeard (event.Opened c) entries old) (IsServing entries (record old { hub = hub; entries = tree; due = due; on_hold = on_hold })) old.link.journal old.link.journal
opened_goes entries c old hub tree due on_hold hears bounds room stays covers =
    let left : ServerState = record old { hub = hub; entries = tree; due = due; on_hold = on_hold } in
    adds_nothing old.link.plan (IsHeard (event.Opened c) entries old) (IsServing entries left) old.link.journal old.link.journal refl
    (λ added h. begins_as entries old left (c ∷ old.on_hold) added (record { bounds = bounds; on_hold = stays; covers = covers })
    (subst (λ x. Works (rules_of old) entries (c ∷ old.on_hold) x old.on_hold added) (sym hears.same)
    (subst (Works (rules_of old) entries (c ∷ old.on_hold) (heard (rules_of old) (Opened c) (held_by old)) old.on_hold) (sym h.last)
    (works_opened (rules_of old) entries (held_by old) old.on_hold old.on_hold h.before c (h.opens c refl) h.works (covers_same old.on_hold) (grind (arith, nat_tests))))))

-- there was no memory to hold it
pub opened_starved : (entries : DirectoryEntries) (c : ℕ) (old : ServerState) (hub : HubState) (tree : DirectoryEntries) → held tree hub ≡ held_by old → hub.bounds ≡ old.hub.bounds →
    AddsItems old.link.plan (IsHeard (event.Opened c) entries old) (IsRight entries (record old { hub = hub; entries = tree })) old.link.journal old.link.journal
opened_starved entries c old hub tree same bounds =
    adds_nothing old.link.plan (IsHeard (event.Opened c) entries old) (IsRight entries (record old { hub = hub; entries = tree })) old.link.journal old.link.journal refl
    (λ added h. subst (λ (b : Bounds). Leads (rules b.terms) entries tree added) (sym bounds)
    (subst (λ (x : Held DirectoryEntries Requester). Leads (rules_of old) entries x.tree added) (sym same)
    (subst (Leads (rules_of old) entries old.entries) (sym h.last) (opened_leads (rules_of old) entries (held_by old) old.on_hold h.before c (h.opens c refl) h.works))))

-- there is no room, and it is hung up
turned_leads : (entries : DirectoryEntries) (c : ℕ) (server : ServerState) (added : List Item) → IsTurnedAway c entries server added → IsRight entries server added
unfolding heard
turned_leads entries c server added turned =
    subst (λ x. Leads (rules_of server) entries x added) (sym (ap (λ (x : Held DirectoryEntries Requester). x.tree) turned.same))
    (subst (λ (b : Bounds). Leads (rules b.terms) entries turned.old.entries added) (sym turned.bounds)
    (subst (Leads (rules_of turned.old) entries turned.old.entries) (sym turned.heard.last) (opened_leads (rules_of turned.old) entries (held_by turned.old) turned.old.on_hold turned.heard.before c (turned.heard.opens c refl) turned.heard.works)))

turned_works : (entries : DirectoryEntries) (c : ℕ) (server : ServerState) (added : List Item) → IsTurnedAway c entries server added →
    Works (rules_of server) entries server.on_hold (let x = held_by server in record x { kept = forgotten c x.kept }) server.on_hold (added ++ item.HungUp c ∷ [])
turned_works entries c server added turned =
    let on_hold = turned.old.on_hold in
    subst (λ xs. Works (rules_of server) entries xs (let x = held_by server in record x { kept = forgotten c x.kept }) xs (added ++ item.HungUp c ∷ [])) (sym turned.on_hold)
    (subst (λ (x : Held DirectoryEntries Requester). Works (rules_of server) entries on_hold (record x { kept = forgotten c x.kept }) on_hold (added ++ item.HungUp c ∷ [])) (sym turned.same)
    (subst (λ (b : Bounds). Works (rules b.terms) entries on_hold (let x = heard (rules b.terms) (Opened c) (held_by turned.old) in record x { kept = forgotten c x.kept }) on_hold (added ++ item.HungUp c ∷ [])) (sym turned.bounds)
    (subst (λ j. Works (rules_of turned.old) entries on_hold (let x = heard (rules_of turned.old) (Opened c) (held_by turned.old) in record x { kept = forgotten c x.kept }) on_hold (j ++ item.HungUp c ∷ [])) (sym turned.heard.last)
    (works_turned (rules_of turned.old) entries (held_by turned.old) on_hold on_hold turned.heard.before c (turned.heard.opens c refl) turned.heard.works (covers_same on_hold) (no_room (length turned.old.hub.kept) turned.full)))))
  where
    no_room : (n : ℕ) → most_held ≤ n → nat_lt n most_held ≡ false
    no_room n full = grind (arith, nat_tests)

pub turned_goes : (E : Type 0) (entries : DirectoryEntries) (c : ℕ) (old : ServerState) (now : HubState) (due on_hold : List ℕ) (link : LinkState) (done : Unit {0}) →
    NoteTells {T = Unit {0}} {E = E} old.link.journal (item.HungUp c) (Ok done) link.journal → now ≡ record old.hub { kept = forgotten c old.hub.kept } → on_hold ≡ old.on_hold → Covers due old.on_hold →
    AddsItems old.link.plan (IsTurnedAway c entries old) (IsServing entries (record old { hub = now; due = due; on_hold = on_hold; link = link })) old.link.journal link.journal
unfolding NoteTells
turned_goes E entries c old now due on_hold link done tells is stays covers =
    subst (λ h. AddsItems old.link.plan (IsTurnedAway c entries old) (IsServing entries (record old { hub = h; due = due; on_hold = on_hold; link = link })) old.link.journal link.journal) (sym is)
    (let left : ServerState = record old { hub = record old.hub { kept = forgotten c old.hub.kept }; due = due; on_hold = on_hold; link = link } in
    adds_one old.link.plan (IsTurnedAway c entries old) (IsServing entries left) old.link.journal link.journal (item.HungUp c) tells (block_hung_up old.link.plan c)
    (λ added turned. begins_as entries old left old.on_hold (added ++ item.HungUp c ∷ []) (record { bounds = refl; on_hold = stays; covers = covers }) (turned_works entries c old added turned)))

pub not_turned : {E : Type 0} (entries : DirectoryEntries) (c : ℕ) (old : ServerState) (link : LinkState) (fault : E) →
    NoteTells {T = Unit {0}} {E = E} old.link.journal (item.HungUp c) (Err fault) link.journal → AddsItems old.link.plan (IsTurnedAway c entries old) (IsRight entries (record old { link = link })) old.link.journal link.journal
unfolding NoteTells
not_turned entries c old link fault tells =
    adds_nothing old.link.plan (IsTurnedAway c entries old) (IsRight entries (record old { link = link })) old.link.journal link.journal tells (λ added turned. turned_leads entries c old added turned)

-- a cut that is told comes to an open connection
cuts_open : (c : ℕ) (ks : List (Kept Requester)) (o : Option (Kept Requester)) (cut : Option ℕ) → kept_of c ks ≡ o → CutsOpen c ks (new_cut o cut)
cuts_open c ks None cut e = tt
cuts_open c ks (Some k) cut e = by_closing k.closing refl cut
  where
    by_closing : (b : Bool) → k.closing ≡ b → (cut : Option ℕ) → CutsOpen c ks (cond b None cut)
    by_closing true shut cut = tt
    by_closing false still None = tt
    by_closing false still (Some n) = rw e (rw still refl)

-- octets of a connection, or their end, begin its block
bytes_goes : (entries : DirectoryEntries) (c : ℕ) (octets : List ℕ) (cut : Option ℕ) (old : ServerState) (new : Held DirectoryEntries Requester) (added : List Item) → new ≡ heard (rules_of old) (Bytes c octets cut) (held_by old) →
    CutsOpen c old.hub.kept cut → IsHeard (event.Bytes c octets) entries old added → Works (rules_of old) entries (c ∷ old.on_hold) new old.on_hold added
bytes_goes entries c octets cut old new added is fits h =
    subst (λ x. Works (rules_of old) entries (c ∷ old.on_hold) x old.on_hold added) (sym is)
    (subst (Works (rules_of old) entries (c ∷ old.on_hold) (heard (rules_of old) (Bytes c octets cut) (held_by old)) old.on_hold) (sym h.last)
    (works_bytes (rules_of old) entries (held_by old) old.on_hold old.on_hold h.before c octets cut h.works (covers_same old.on_hold) fits))

ended_goes : (entries : DirectoryEntries) (c : ℕ) (old : ServerState) (new : Held DirectoryEntries Requester) (added : List Item) → new ≡ heard (rules_of old) (Ended c) (held_by old) →
    IsHeard (event.Ended c) entries old added → Works (rules_of old) entries (c ∷ old.on_hold) new old.on_hold added
ended_goes entries c old new added is h =
    subst (λ x. Works (rules_of old) entries (c ∷ old.on_hold) x old.on_hold added) (sym is)
    (subst (Works (rules_of old) entries (c ∷ old.on_hold) (heard (rules_of old) (Ended c) (held_by old)) old.on_hold) (sym h.last)
    (works_ended (rules_of old) entries (held_by old) old.on_hold old.on_hold h.before c h.works (covers_same old.on_hold)))

event_goes : (entries : DirectoryEntries) (conn : ℕ) (e : Event) (old : ServerState) (new : Held DirectoryEntries Requester) (added : List Item) → IsOf conn e → Hears old.hub.bounds.terms e (held_by old) new →
    IsHeard (journal_event_of e) entries old added → Works (rules_of old) entries (conn ∷ old.on_hold) new old.on_hold added
event_goes entries conn (came.Opened c) old new added is_of hears h = absurd is_of
event_goes entries conn (came.Bytes c octets) old new added is_of hears h =
    subst (λ n. Works (rules_of old) entries (n ∷ old.on_hold) new old.on_hold added) is_of (bytes_goes entries c octets.now _ old new added hears.same (cuts_open c old.hub.kept (kept_of c old.hub.kept) _ refl) h)
event_goes entries conn (came.Ended c) old new added is_of hears h = subst (λ n. Works (rules_of old) entries (n ∷ old.on_hold) new old.on_hold added) is_of (ended_goes entries c old new added hears.same h)

pub heard_on : (entries : DirectoryEntries) (conn : ℕ) (e : Event) (old : ServerState) (hub : HubState) (tree : DirectoryEntries) (due on_hold : List ℕ) → IsOf conn e → Hears old.hub.bounds.terms e (held_by old) (held tree hub) →
    hub.bounds ≡ old.hub.bounds → on_hold ≡ old.on_hold → Covers due (conn ∷ old.on_hold) →
    AddsItems old.link.plan (IsHeard (journal_event_of e) entries old) (IsServing entries (record old { hub = hub; entries = tree; due = due; on_hold = on_hold })) old.link.journal old.link.journal
heard_on entries conn e old hub tree due on_hold is_of hears bounds stays covers =
    let left : ServerState = record old { hub = hub; entries = tree; due = due; on_hold = on_hold } in
    adds_nothing old.link.plan (IsHeard (journal_event_of e) entries old) (IsServing entries left) old.link.journal old.link.journal refl
    (λ added h. begins_as entries old left (conn ∷ old.on_hold) added (record { bounds = bounds; on_hold = stays; covers = covers }) (event_goes entries conn e old (held tree hub) added is_of hears h))

-- nothing is to be stored of an event where no changes are kept
pub hears_unkept : (e : Event) (old : ServerState) (hub : HubState) (tree : DirectoryEntries) (due on_hold : List ℕ) → Hears old.hub.bounds.terms e (held_by old) (held tree hub) → hub.bounds ≡ old.hub.bounds →
    OnlyHears old (record old { hub = hub; entries = tree; due = due; on_hold = on_hold })
hears_unkept e old hub tree due on_hold hears bounds =
    let stays = stays_none old in
    record {
      stays = record { borrows = refl; bounds = bounds; plan = refl; faults = refl; lost = stays.lost; refusals = stays.refusals };
      store_faults = refl;
      unkept = λ off. event_unkept old.hub.bounds.terms e (held_by old) (held tree hub) hears off;
    }

-- an event that is no step
pub idle_goes : (entries : DirectoryEntries) (e shown : JournalEvent) (old : ServerState) (due on_hold : List ℕ) → shown ≡ e → step_of_event e ≡ [] → ((d : ℕ) → opens d (item.Heard e) ≡ false) → on_hold ≡ old.on_hold → Covers due old.on_hold →
    AddsItems old.link.plan (IsHeard shown entries old) (IsServing entries (record old { due = due; on_hold = on_hold })) old.link.journal old.link.journal
idle_goes entries e shown old due on_hold is none no_opening stays covers =
    let left : ServerState = record old { due = due; on_hold = on_hold } in
    adds_nothing old.link.plan (IsHeard shown entries old) (IsServing entries left) old.link.journal old.link.journal refl
    (λ added h. begins_as entries old left old.on_hold added (record { bounds = refl; on_hold = stays; covers = covers })
    (subst (λ j. Works (rules_of old) entries old.on_hold (held_by old) old.on_hold j) (sym (h.last ∙ ap (λ x. h.before ++ item.Heard x ∷ []) is))
    (works_idle (rules_of old) entries (held_by old) old.on_hold old.on_hold h.before e none no_opening h.works (covers_same old.on_hold))))

pub opens_none-ready : (c d : ℕ) → opens d (item.Heard (event.Ready c)) ≡ false
unfolding opens
opens_none-ready c d = refl

pub opens_none-idle : (d : ℕ) → opens d (item.Heard event.Idle) ≡ false
unfolding opens
opens_none-idle d = refl

pub opens_none-stop : (d : ℕ) → opens d (item.Heard event.Stop) ≡ false
unfolding opens
opens_none-stop d = refl

-- what was added for an event was added for an answer that tells it
pub as_heard : (entries : DirectoryEntries) (old : ServerState) (e shown : JournalEvent) (Q : List Item → Type 0) (after : Option (List Item)) → shown ≡ e →
    AddsItems old.link.plan (IsHeard e entries old) Q old.link.journal after → AddsItems old.link.plan (IsHeard shown entries old) Q old.link.journal after
as_heard entries old e shown Q after is adds = subst (λ x. AddsItems old.link.plan (IsHeard x entries old) Q old.link.journal after) (sym is) adds

-- octets and their end open no connection
pub nothing_opens : (conn : ℕ) (e : Event) (kept : List (Kept Requester)) → IsOf conn e → OpensOne e kept → ⊥
nothing_opens conn (came.Opened c) kept is_of opens_one = is_of
nothing_opens conn (came.Bytes c octets) kept is_of opens_one = opens_one
nothing_opens conn (came.Ended c) kept is_of opens_one = opens_one

-- a connection has opened, and there is no room
pub turns_away : (entries : DirectoryEntries) (c : ℕ) (old : ServerState) (hub : HubState) (tree : DirectoryEntries) → Hears old.hub.bounds.terms (came.Opened c) (held_by old) (held tree hub) → hub.bounds ≡ old.hub.bounds →
    most_held ≤ length old.hub.kept → AddsItems old.link.plan (IsHeard (event.Opened c) entries old) (IsTurnedAway c entries (record old { hub = hub; entries = tree })) old.link.journal old.link.journal
turns_away entries c old hub tree hears bounds full =
    let left : ServerState = record old { hub = hub; entries = tree } in
    adds_nothing old.link.plan (IsHeard (event.Opened c) entries old) (IsTurnedAway c entries left) old.link.journal old.link.journal refl
    (λ added h. record {
      old = old;
      heard = h;
      full = full;
      same = subst (λ (b : Bounds). held tree hub ≡ heard (rules b.terms) (Opened c) (held_by old)) (sym bounds) hears.same;
      bounds = bounds;
      on_hold = refl;
    })

-- what is said of want of memory holds anyway, or there is none
pub opens_any : {X E : Type 0} (result : Result X E) (P : Type 0) → P → OnErr result P
opens_any (Ok value) P holds = tt
opens_any (Err fault) P holds = holds

pub opens_none : {X E : Type 0} (result : Result X E) (P : Type 0) → OnErr result ⊥ → OnErr result P
opens_none (Ok value) P never = tt
opens_none (Err fault) P never = absurd never
