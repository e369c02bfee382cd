-- The calls of a link within a block.
use Rattle.std.proofs.Common.{◌≡◌, ◌≢◌, ◌≤◌, ◌<◌, ◌==◌, ℕ, nat_eq, true, false, List, [], ◌∷◌, ◌++◌, length, take, drop, Option, Result, Ok, Err, refl, ap, sym, ◌∙◌, subst, arith, length-drop, drop_of_length-le}
use Rattle.std.specs.List.{IsDistinct}
use Rattle.std.proofs.lemmas.Bool.Decides.{nat_tests}
use Rattle.session_model.specs.wire_io.declared.journal.Item.{Item}
use Rattle.session_model.specs.wire_io.declared.journal.Item.TheVariants as item
use Rattle.session_model.specs.wire_io.declared.answers.Took.TheVariants as took
use Rattle.session_model.specs.wire_io.Journal.{heard, was_stopped, stops}
use Rattle.session_model.specs.wire_io.link.Plan.{Plan}
use Rattle.session_model.specs.wire_io.Answers.{WriteCause}
use Rattle.session_model.specs.wire_io.link.Telling.{TookTells, NoteTells}
use Rattle.session_model.proofs.wire_io_proofs.Theorems.{WriteCause-never_later, WriteCause-never_gone}
use Rattle.session_model.specs.Run.{most_held}
use Rattle.session_model.specs.Kept.{Kept, queue_of, closing_of, taken_off, forgotten}
use Rattle.session_model.specs.Keeping.{is_listed}
use Rattle.session_model.specs.Journaled.{all_taken}
use Rattle.session_model.specs.Working.{Puts, Covers}
use Rattle.session_model.proofs.Theorems.{works_taken, works_refused, refused_stands, refused_held, works_released, works_sent, works_hung_up, works_leads, works_as, lost_leads, lost_hung_up, refused_fits}
use Rattle.session_hub.specs.Parties.{DirectoryEntries, Requester}
use Rattle.session_hub.specs.hub.Hubs.{HubState}
use Rattle.session_hub.specs.serve.Servers.{LinkState, ServerState, OnlySettles, rules_of, held_by}
use Rattle.session_hub.specs.declared.sent.Sent.{Sent}
use Rattle.session_hub.specs.Adding.{AddsItems, IsBlock, IsRight, After, AreDue, IsServing, IsDue, IsOver, IsSent, IsFree, IsRefused, IsLost, SentIs}
use Rattle.session_hub.proofs.serving.AddingLemmas.{adds_nothing, adds_one, adds_as, adds_after}

-- items that refuse nothing, and those that do, which a plan lists
block_taken : (plan : Option Plan) (c : ℕ) (octets : List ℕ) → IsBlock plan (item.Taken c octets ∷ [])
unfolding heard was_stopped stops all_taken
block_taken plan c octets = record { events = refl; stops = refl; taken = λ _ _ _ _. refl }

block_held : (plan : Option Plan) (c : ℕ) → IsBlock plan (item.Held c ∷ [])
unfolding heard was_stopped stops all_taken
block_held plan c = record { events = refl; stops = refl; taken = λ _ _ _ _. refl }

block_released : (plan : Option Plan) (c : ℕ) → IsBlock plan (item.Released c ∷ [])
unfolding heard was_stopped stops all_taken
block_released plan c = record { events = refl; stops = refl; taken = λ _ _ _ _. refl }

pub block_hung_up : (plan : Option Plan) (c : ℕ) → IsBlock plan (item.HungUp c ∷ [])
unfolding heard was_stopped stops all_taken
block_hung_up plan c = record { events = refl; stops = refl; taken = λ _ _ _ _. refl }

pub block_stored : (plan : Option Plan) (octets : List ℕ) → IsBlock plan (item.Stored octets ∷ [])
unfolding heard was_stopped stops all_taken
block_stored plan octets = record { events = refl; stops = refl; taken = λ _ _ _ _. refl }

block_later : (plan : Option Plan) (c lost now : ℕ) → WriteCause plan lost now took.Later → IsBlock plan (item.Later c ∷ [])
unfolding heard was_stopped stops
block_later plan c lost now cause =
    record { events = refl; stops = refl; taken = λ known is later _. absurd (WriteCause-never_later known lost now later (subst (λ p. WriteCause p lost now took.Later) is cause)) }

block_gone : (plan : Option Plan) (c lost now : ℕ) → WriteCause plan lost now took.Gone → IsBlock plan (item.Gone c ∷ [])
unfolding heard was_stopped stops
block_gone plan c lost now cause =
    record { events = refl; stops = refl; taken = λ known is _ gone. absurd (WriteCause-never_gone known lost now gone (subst (λ p. WriteCause p lost now took.Gone) is cause)) }

-- the queue after octets were taken of it
queue_of-taken_off : (c n : ℕ) (ks : List (Kept Requester)) → queue_of c (taken_off c n ks) ≡ drop n (queue_of c ks)
queue_of-taken_off c n [] = sym (drop_of_length-le [] (omega arith))
queue_of-taken_off c n (k ∷ ks) = grind (arith, nat_tests, queue_of-taken_off c n ks)

pub queue_falls : (c n : ℕ) (old new : HubState) → new ≡ record old { kept = taken_off c n old.kept } → 0 < n → n ≤ length (queue_of c old.kept) →
    length (queue_of c new.kept) < length (queue_of c old.kept)
queue_falls c n old new is some fits =
    let now : length (queue_of c new.kept) ≡ length (drop n (queue_of c old.kept)) = ap length (ap (λ (h : HubState). queue_of c h.kept) is ∙ queue_of-taken_off c n old.kept) in
    omega (arith, length-drop n (queue_of c old.kept))

-- a list that is found empty, or not
pub emptied : (xs : List ℕ) → true ≡ (length xs == 0) → xs ≡ []
emptied [] h = refl
emptied (x ∷ xs) h = absurd (grind (arith, nat_tests))

pub some_queued : (xs : List ℕ) → false ≡ (length xs == 0) → xs ≢ []
some_queued [] h e = cc
some_queued (x ∷ xs) h e = cc

-- what goes on from a server goes on from the same by another name
pub goes_from : {old first : ServerState} (claim : ServerState → List Item → Type 0) (next_claim : List Item → Type 0) (after : Option (List Item)) → old ≡ first → AddsItems old.link.plan (claim old) next_claim old.link.journal after →
    AddsItems first.link.plan (claim first) next_claim first.link.journal after
goes_from claim next_claim after viewed adds = subst (λ (server : ServerState). AddsItems server.link.plan (claim server) next_claim server.link.journal after) viewed adds

-- who is due, by another name
due_is : (entries : DirectoryEntries) (server : ServerState) (due : List ℕ) (added : List Item) → due ≡ server.due → IsServing entries server added → IsServing entries (record server { due = due }) added
due_is entries server due added same works = subst (λ xs. AreDue xs entries server added) (sym same) works

-- octets of the queue were taken
pub took_goes : (entries : DirectoryEntries) (c n : ℕ) (first old : ServerState) (now : HubState) (link : LinkState) (octets : List ℕ) (P : List Item → Type 0) → OnlySettles first old →
    AddsItems first.link.plan P (IsDue c entries old) first.link.journal old.link.journal →
    TookTells old.link.journal c octets (took.Took n) link.journal → octets ≡ queue_of c old.hub.kept → old.hub.unstored ≡ [] → octets ≢ [] → n ≤ length octets → now ≡ record old.hub { kept = taken_off c n old.hub.kept } →
    AddsItems first.link.plan P (IsDue c entries (record old { hub = now; link = link })) first.link.journal link.journal
unfolding TookTells
took_goes entries c n first old now link octets P settles before tells is stored some fits same =
    adds_after first.link.plan old.link.plan P (IsDue c entries old) (IsDue c entries (record old { hub = now; link = link })) first.link.journal old.link.journal link.journal settles.serves.stays.plan before
    (subst (λ h. AddsItems old.link.plan (IsDue c entries old) (IsDue c entries (record old { hub = h; link = link })) old.link.journal link.journal) (sym same)
    (let left : HubState = record old.hub { kept = taken_off c n old.hub.kept } in
    adds_one old.link.plan (IsDue c entries old) (IsDue c entries (record old { hub = left; link = link })) old.link.journal link.journal (item.Taken c (take n octets)) tells (block_taken old.link.plan c (take n octets))
    (λ added works. subst (λ xs. IsDue c entries (record old { hub = left; link = link }) (added ++ item.Taken c (take n xs) ∷ [])) (sym is)
    (works_taken (rules_of old) entries c old.due (held_by old) old.on_hold added n works stored (subst (λ xs. xs ≢ []) is some) (subst (λ xs. n ≤ length xs) is fits)))))

-- nothing was taken now
pub later_goes : (entries : DirectoryEntries) (c : ℕ) (first old : ServerState) (link : LinkState) (octets : List ℕ) (P : List Item → Type 0) → OnlySettles first old → AddsItems first.link.plan P (IsDue c entries old) first.link.journal old.link.journal →
    TookTells old.link.journal c octets took.Later link.journal → WriteCause old.link.plan old.link.lost link.lost took.Later → octets ≡ queue_of c old.hub.kept → octets ≢ [] →
    AddsItems first.link.plan P (IsRefused c entries (record old { link = link })) first.link.journal link.journal
unfolding TookTells
later_goes entries c first old link octets P settles before tells cause is some =
    adds_after first.link.plan old.link.plan P (IsDue c entries old) (IsRefused c entries (record old { link = link })) first.link.journal old.link.journal link.journal settles.serves.stays.plan before
    (adds_one old.link.plan (IsDue c entries old) (IsRefused c entries (record old { link = link })) old.link.journal link.journal (item.Later c) tells (block_later old.link.plan c old.link.lost link.lost cause)
    (λ added works. works_refused (rules_of old) entries c old.due (held_by old) old.on_hold added works (subst (λ xs. xs ≢ []) is some)))

-- the connection was found lost
pub gone_goes : (entries : DirectoryEntries) (c : ℕ) (first old : ServerState) (link : LinkState) (octets : List ℕ) (P : List Item → Type 0) → OnlySettles first old → AddsItems first.link.plan P (IsDue c entries old) first.link.journal old.link.journal →
    TookTells old.link.journal c octets took.Gone link.journal → WriteCause old.link.plan old.link.lost link.lost took.Gone → octets ≡ queue_of c old.hub.kept → octets ≢ [] →
    AddsItems first.link.plan P (IsLost c entries (record old { link = link })) first.link.journal link.journal
unfolding TookTells
gone_goes entries c first old link octets P settles before tells cause is some =
    adds_after first.link.plan old.link.plan P (IsDue c entries old) (IsLost c entries (record old { link = link })) first.link.journal old.link.journal link.journal settles.serves.stays.plan before
    (adds_one old.link.plan (IsDue c entries old) (IsLost c entries (record old { link = link })) old.link.journal link.journal (item.Gone c) tells (block_gone old.link.plan c old.link.lost link.lost cause)
    (λ added works. record { before = added; last = refl; works = works; queued = subst (λ xs. xs ≢ []) is some }))

-- there was no memory, and nothing was done
pub starved_goes : (entries : DirectoryEntries) (c : ℕ) (first old : ServerState) (link : LinkState) (octets : List ℕ) (P : List Item → Type 0) → OnlySettles first old → AddsItems first.link.plan P (IsDue c entries old) first.link.journal old.link.journal →
    TookTells old.link.journal c octets took.NoMemory link.journal → AddsItems first.link.plan P (IsRight entries (record old { link = link })) first.link.journal link.journal
unfolding TookTells
starved_goes entries c first old link octets P settles before tells =
    adds_after first.link.plan old.link.plan P (IsDue c entries old) (IsRight entries (record old { link = link })) first.link.journal old.link.journal link.journal settles.serves.stays.plan before
    (adds_nothing old.link.plan (IsDue c entries old) (IsRight entries (record old { link = link })) old.link.journal link.journal tells
    (λ added works. works_leads (rules_of old) entries (c ∷ old.due) (held_by old) old.on_hold added works))

-- a connection that takes no more is put on hold, or is already
pub stays_held : (entries : DirectoryEntries) (c : ℕ) (server : ServerState) → is_listed c server.on_hold ≡ true →
    AddsItems server.link.plan (IsRefused c entries server) (IsServing entries server) server.link.journal server.link.journal
stays_held entries c server listed =
    adds_nothing server.link.plan (IsRefused c entries server) (IsServing entries server) server.link.journal server.link.journal refl
    (λ added refused. refused_stands (rules_of server) entries c server.due (held_by server) server.on_hold added refused listed)

pub holds_back : {E : Type 0} (entries : DirectoryEntries) (c : ℕ) (old first : ServerState) (due on_hold : List ℕ) (link : LinkState) (result : Result (Unit {0}) E) → old ≡ first →
    NoteTells old.link.journal (item.Held c) result link.journal → is_listed c old.on_hold ≡ false → IsDistinct nat_eq old.on_hold → due ≡ old.due → (length old.on_hold < most_held → Puts c true old.on_hold on_hold) →
    AddsItems first.link.plan (IsRefused c entries first) (After result IsServing entries (record old { due = due; on_hold = on_hold; link = link })) first.link.journal link.journal
unfolding NoteTells
holds_back entries c old first due on_hold link (Ok done) viewed tells free once same puts =
    goes_from (IsRefused c entries) (IsServing entries (record old { due = due; on_hold = on_hold; link = link })) link.journal viewed
    (adds_one old.link.plan (IsRefused c entries old) (IsServing entries (record old { due = due; on_hold = on_hold; link = link })) old.link.journal link.journal (item.Held c) tells (block_held old.link.plan c)
    (λ added refused. due_is entries (record old { on_hold = on_hold; link = link }) due _ same
    (refused_held (rules_of old) entries c old.due (held_by old) old.on_hold on_hold added refused (puts (refused_fits (rules_of old) entries c old.due (held_by old) old.on_hold added refused free once)))))
holds_back entries c old first due on_hold link (Err fault) viewed tells free once same puts =
    goes_from (IsRefused c entries) (IsRight entries (record old { due = due; on_hold = on_hold; link = link })) link.journal viewed
    (adds_nothing old.link.plan (IsRefused c entries old) (IsRight entries (record old { due = due; on_hold = on_hold; link = link })) old.link.journal link.journal tells
    (λ added refused. works_leads (rules_of old) entries (c ∷ old.due) (held_by old) old.on_hold added refused.works))

-- one to which nothing is left to be sent isn't on hold, or is released
pub stays_free : (entries : DirectoryEntries) (c : ℕ) (server : ServerState) → is_listed c server.on_hold ≡ false →
    AddsItems server.link.plan (IsSent c entries server) (IsFree c entries server) server.link.journal server.link.journal
stays_free entries c server free =
    adds_nothing server.link.plan (IsSent c entries server) (IsFree c entries server) server.link.journal server.link.journal refl (λ added sent. record { sent = sent; free = free })

pub lets_go : (E : Type 0) (entries : DirectoryEntries) (c : ℕ) (old first : ServerState) (due on_hold : List ℕ) (link : LinkState) (done : Unit {0}) → old ≡ first →
    NoteTells {T = Unit {0}} {E = E} old.link.journal (item.Released c) (Ok done) link.journal → due ≡ old.due → Puts c false old.on_hold on_hold →
    AddsItems first.link.plan (IsSent c entries first) (IsFree c entries (record old { due = due; on_hold = on_hold; link = link })) first.link.journal link.journal
unfolding NoteTells
lets_go E entries c old first due on_hold link done viewed tells same puts =
    goes_from (IsSent c entries) (IsFree c entries (record old { due = due; on_hold = on_hold; link = link })) link.journal viewed
    (adds_one old.link.plan (IsSent c entries old) (IsFree c entries (record old { due = due; on_hold = on_hold; link = link })) old.link.journal link.journal (item.Released c) tells (block_released old.link.plan c)
    (λ added sent. record {
      sent = record {
        due = subst (λ xs. AreDue (c ∷ xs) entries (record old { on_hold = on_hold; link = link }) (added ++ item.Released c ∷ [])) (sym same)
            (works_released (rules_of old) entries c old.due (held_by old) old.on_hold on_hold added sent.due puts);
        empty = sent.empty;
      };
      free = puts.own;
    }))

pub not_let_go : {E : Type 0} (entries : DirectoryEntries) (c : ℕ) (old : ServerState) (link : LinkState) (i : Item) (fault : E) →
    NoteTells {T = Unit {0}} {E = E} old.link.journal i (Err fault) link.journal → AddsItems old.link.plan (IsSent c entries old) (IsRight entries (record old { link = link })) old.link.journal link.journal
unfolding NoteTells
not_let_go entries c old link i fault tells =
    adds_nothing old.link.plan (IsSent c entries old) (IsRight entries (record old { link = link })) old.link.journal link.journal tells
    (λ added sent. works_leads (rules_of old) entries (c ∷ old.due) (held_by old) old.on_hold added sent.due)

-- one that isn't closing goes on, and one that is is hung up
pub goes_on : (entries : DirectoryEntries) (c : ℕ) (server : ServerState) → closing_of c server.hub.kept ≡ false →
    AddsItems server.link.plan (IsFree c entries server) (IsServing entries server) server.link.journal server.link.journal
goes_on entries c server still =
    adds_nothing server.link.plan (IsFree c entries server) (IsServing entries server) server.link.journal server.link.journal refl
    (λ added free. works_sent (rules_of server) entries c server.due (held_by server) server.on_hold added free.sent.due free.sent.empty free.free still)

pub hangs_up : (E : Type 0) (entries : DirectoryEntries) (c : ℕ) (old : ServerState) (now : HubState) (link : LinkState) (done : Unit {0}) →
    NoteTells {T = Unit {0}} {E = E} old.link.journal (item.HungUp c) (Ok done) link.journal → closing_of c old.hub.kept ≡ true → now ≡ record old.hub { kept = forgotten c old.hub.kept } →
    AddsItems old.link.plan (IsFree c entries old) (IsServing entries (record old { hub = now; link = link })) old.link.journal link.journal
unfolding NoteTells
hangs_up E entries c old now link done tells closing is =
    subst (λ h. AddsItems old.link.plan (IsFree c entries old) (IsServing entries (record old { hub = h; link = link })) old.link.journal link.journal) (sym is)
    (let left : HubState = record old.hub { kept = forgotten c old.hub.kept } in
    adds_one old.link.plan (IsFree c entries old) (IsServing entries (record old { hub = left; link = link })) old.link.journal link.journal (item.HungUp c) tells (block_hung_up old.link.plan c)
    (λ added free. works_hung_up (rules_of old) entries c old.due (held_by old) old.on_hold added free.sent.due free.sent.empty free.free closing))

pub not_hung_up : {E : Type 0} (entries : DirectoryEntries) (c : ℕ) (old : ServerState) (link : LinkState) (fault : E) →
    NoteTells {T = Unit {0}} {E = E} old.link.journal (item.HungUp c) (Err fault) link.journal → AddsItems old.link.plan (IsFree c entries old) (IsRight entries (record old { link = link })) old.link.journal link.journal
unfolding NoteTells
not_hung_up entries c old link fault tells =
    adds_nothing old.link.plan (IsFree c entries old) (IsRight entries (record old { link = link })) old.link.journal link.journal tells
    (λ added free. works_leads (rules_of old) entries (c ∷ old.due) (held_by old) old.on_hold added free.sent.due)

-- one that was found lost is hung up
pub drops : (E : Type 0) (entries : DirectoryEntries) (c : ℕ) (old first : ServerState) (now : HubState) (due on_hold : List ℕ) (link : LinkState) (done : Unit {0}) → old ≡ first →
    NoteTells {T = Unit {0}} {E = E} old.link.journal (item.HungUp c) (Ok done) link.journal → due ≡ old.due → Puts c false old.on_hold on_hold → now ≡ record old.hub { kept = forgotten c old.hub.kept } →
    AddsItems first.link.plan (IsLost c entries first) (IsServing entries (record old { hub = now; due = due; on_hold = on_hold; link = link })) first.link.journal link.journal
unfolding NoteTells
drops E entries c old first now due on_hold link done viewed tells same puts is =
    goes_from (IsLost c entries) (IsServing entries (record old { hub = now; due = due; on_hold = on_hold; link = link })) link.journal viewed
    (subst (λ h. AddsItems old.link.plan (IsLost c entries old) (IsServing entries (record old { hub = h; due = due; on_hold = on_hold; link = link })) old.link.journal link.journal) (sym is)
    (let left : HubState = record old.hub { kept = forgotten c old.hub.kept } in
    adds_one old.link.plan (IsLost c entries old) (IsServing entries (record old { hub = left; due = due; on_hold = on_hold; link = link })) old.link.journal link.journal (item.HungUp c) tells (block_hung_up old.link.plan c)
    (λ added lost. due_is entries (record old { hub = left; on_hold = on_hold; link = link }) due _ same (lost_hung_up (rules_of old) entries c old.due (held_by old) old.on_hold on_hold added lost puts))))

pub not_dropped : {E : Type 0} (entries : DirectoryEntries) (c : ℕ) (old first : ServerState) (now : HubState) (link : LinkState) (fault : E) → old ≡ first →
    NoteTells {T = Unit {0}} {E = E} old.link.journal (item.HungUp c) (Err fault) link.journal → now ≡ record old.hub { kept = forgotten c old.hub.kept } →
    AddsItems first.link.plan (IsLost c entries first) (IsRight entries (record old { hub = now; link = link })) first.link.journal link.journal
unfolding NoteTells
not_dropped entries c old first now link fault viewed tells is =
    goes_from (IsLost c entries) (IsRight entries (record old { hub = now; link = link })) link.journal viewed
    (subst (λ h. AddsItems old.link.plan (IsLost c entries old) (IsRight entries (record old { hub = h; link = link })) old.link.journal link.journal) (sym is)
    (let left : HubState = record old.hub { kept = forgotten c old.hub.kept } in
    adds_nothing old.link.plan (IsLost c entries old) (IsRight entries (record old { hub = left; link = link })) old.link.journal link.journal tells
    (λ added lost. lost_leads (rules_of old) entries c old.due (held_by old) old.on_hold added lost)))

-- what the sending of a queue came to, by its answer
pub sent_is : (entries : DirectoryEntries) (c : ℕ) (old new : ServerState) (s came : Sent) → s ≡ came →
    AddsItems old.link.plan (IsDue c entries old) (SentIs c s entries new) old.link.journal new.link.journal → AddsItems old.link.plan (IsDue c entries old) (SentIs c came entries new) old.link.journal new.link.journal
sent_is entries c old new s came is adds = subst (λ x. AddsItems old.link.plan (IsDue c entries old) (SentIs c x entries new) old.link.journal new.link.journal) is adds

-- the next that is due is taken
pub next_due : (entries : DirectoryEntries) (c : ℕ) (old server : ServerState) (rest on_hold : List ℕ) (P : List Item → Type 0) (plan : Option Plan) (a : Option (List Item)) → old ≡ server → Covers (c ∷ rest) old.due → on_hold ≡ old.on_hold →
    AddsItems plan P (IsServing entries server) a server.link.journal → AddsItems plan P (IsDue c entries (record old { due = rest; on_hold = on_hold })) a old.link.journal
next_due entries c old server rest on_hold P plan a viewed covers stays adds =
    subst (λ xs. AddsItems plan P (IsDue c entries (record old { due = rest; on_hold = xs })) a old.link.journal) (sym stays)
    (adds_as plan P P (IsServing entries old) (AreDue (c ∷ rest) entries old) a old.link.journal (λ _ holds. holds) (λ added works. works_as (rules_of old) entries old.due (c ∷ rest) (held_by old) old.on_hold added covers works)
    (subst (λ (now : ServerState). AddsItems plan P (IsServing entries now) a now.link.journal) (sym viewed) adds))

-- nobody is due any more
pub none_due : (entries : DirectoryEntries) (old server : ServerState) (due on_hold : List ℕ) (P : List Item → Type 0) (plan : Option Plan) (a : Option (List Item)) → old ≡ server → old.due ≡ [] → on_hold ≡ old.on_hold →
    AddsItems plan P (IsServing entries server) a server.link.journal → AddsItems plan P (IsOver entries (record old { due = due; on_hold = on_hold })) a old.link.journal
none_due entries old server due on_hold P plan a viewed none stays adds =
    subst (λ xs. AddsItems plan P (IsOver entries (record old { due = due; on_hold = xs })) a old.link.journal) (sym stays)
    (subst (λ xs. AddsItems plan P (AreDue xs entries old) a old.link.journal) none (subst (λ (now : ServerState). AddsItems plan P (IsServing entries now) a now.link.journal) (sym viewed) adds))
