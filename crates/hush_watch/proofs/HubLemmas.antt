-- What the clauses of a hub say of what is held, whatever sessions those are.
use Rattle.std.proofs.Common.{◌≡◌, ◌-◌, ℕ, nat_lt, Bool, true, false, cond, not, List, ◌++◌, take, length, Option, Some, None, refl, ap, ap₂, sym, ◌∙◌, subst, inl, inr}
use Rattle.std.specs.Prelude.{option_map, IfOk, Result, Ok, Err}
use Rattle.std.proofs.lemmas.List.{length-map, length-take-le}
use Rattle.session_hub.specs.session_model.ldap_msg.Streams.{frame_at}
use Rattle.session_hub.specs.session_model.Run.{start, step, most_held}
use Rattle.session_hub.specs.session_model.Kept.{Kept, kept_of, closing_of, forgotten}
use Rattle.session_hub.specs.session_model.Keeping.{Keeps, IsNew, more_taken}
use Rattle.session_hub.specs.session_model.Replaying.{hung_up}
use Rattle.session_hub.specs.session_model.Purging.{has_room}
use Rattle.session_hub.specs.session_model.Places.{CompletesOne, asker_in}
use Rattle.session_hub.proofs.session_model_proofs.Theorems.{closing_in, closing_of_is, Keeps-hung_up, completes_next, completes_none, none_asks}
use Rattle.session_hub.specs.Parties.{DirectoryEntries, Requester}
use Rattle.session_hub.specs.declared.bounds.Terms.{Terms}
use Rattle.session_hub.specs.Terms.{no_terms}
use Rattle.session_hub.specs.Answering.{rules}
use Rattle.session_hub.specs.declared.event.Event.{Event}
use Rattle.session_hub.specs.Event.{step_of, step_by}
use Rattle.session_hub.specs.hub.Hubs.{HubState, held, unread_of}
use Rattle.session_hub.specs.hub.Following.{FollowsStart, FollowsStep, FollowsTaking}
use Rattle.hush_watch.specs.Served.{ServedSessions, ServedHeld, Holds, Hears, HangsUp}
use Rattle.hush_watch.specs.declared.next_message.NextMessage.{NextMessage}
use Rattle.hush_watch.specs.NextMessages.{IsNextIn, ShowsNext, is_open_in}

-- before any event
pub holds-start : (hub : HubState) (entries : DirectoryEntries) → hub.bounds.terms ≡ no_terms → FollowsStart hub → Holds (start (rules no_terms) entries) (held entries hub)
unfolding FollowsStart
holds-start hub entries none follows = record {
  taken = λ number. 0;
  keeps = subst (λ terms. Keeps (start (rules terms) entries) (λ number. 0) (held entries hub)) none (follows entries);
}

-- an event of which nothing was cut
pub hears-whole : (terms : Terms) (came : Event) (old new : ServedHeld) → terms ≡ no_terms → step_by came old.kept new.kept ≡ step_of came None
    → FollowsStep terms (step_by came old.kept new.kept) old new → Hears (step_of came None) old new
unfolding FollowsStep Hears
hears-whole terms came old new none whole follows u fresh holds = record {
  taken = holds.taken;
  keeps =
      subst (λ terms. Keeps (step (rules terms) u (step_of came None)) holds.taken new) none
      (subst (λ next. Keeps (step (rules terms) u next) holds.taken new) whole (follows u holds.taken (subst (IsNew u) (sym whole) fresh) holds.keeps));
}

-- what waits was taken, and a connection that is closing is forgotten
pub hangs-up : (number count : ℕ) (entries : DirectoryEntries) (old mid new : HubState) (closes : Bool) → FollowsTaking number count old mid → closes ≡ closing_of number mid.kept
    → new ≡ record mid { kept = cond closes (forgotten number mid.kept) mid.kept } → HangsUp number (held entries old) (held entries new)
unfolding FollowsTaking HangsUp
hangs-up number count entries old mid new closes follows closing is u holds = record {
  taken = more_taken number count holds.taken;
  keeps =
      subst (λ (hub : HubState). Keeps (hung_up (rules no_terms) number u) (more_taken number count holds.taken) (held entries hub)) (sym is)
      (subst (λ b. Keeps (hung_up (rules no_terms) number u) (more_taken number count holds.taken) (record (held entries mid) { kept = cond b (forgotten number mid.kept) mid.kept })) (sym closing)
      (Keeps-hung_up (rules no_terms) number u (more_taken number count holds.taken) (held entries mid) (follows entries u holds.taken holds.keeps)));
}

-- the room that is seen is that of the sessions
pub room-held : (u : ServedSessions) (kept : ServedHeld) → Holds u kept → has_room u ≡ nat_lt (length kept.kept) most_held
room-held u kept holds =
    ap (λ n. nat_lt n most_held) (ap length (sym holds.keeps.numbers) ∙ length-map kept.kept (λ (connection : Kept Requester). connection.number))

-- ---- the next message

-- a connection is open where it has a requester and isn't closing
pub open-some : (other : ℕ) (kept : List (Kept Requester)) (who : Requester) (closes : Bool) → Some who ≡ option_map (λ (k : Kept Requester). k.who) (kept_of other kept) → closes ≡ closing_of other kept
    → not closes ≡ is_open_in (kept_of other kept)
open-some other kept who closes asks closing = by_kept (kept_of other kept) asks (closing ∙ closing_of_is other kept)
  where
    by_kept : (o : Option (Kept Requester)) → Some who ≡ option_map (λ (k : Kept Requester). k.who) o → closes ≡ closing_in o → not closes ≡ is_open_in o
    by_kept None asks is = absurd cc
    by_kept (Some k) asks is = ap not is

pub open-none : (o : Option (Kept Requester)) → None ≡ option_map (λ (k : Kept Requester). k.who) o → false ≡ is_open_in o
open-none None asks = refl
open-none (Some k) asks = absurd cc

-- a connection that isn't open completes none
shut-asks : (o : Option (Kept Requester)) → is_open_in o ≡ false → asker_in o ≡ None
shut-asks None shut = refl
shut-asks (Some k) shut = by_closing k.closing shut
  where
    by_closing : (closes : Bool) → not closes ≡ false → cond closes None (Some k.who) ≡ None
    by_closing true shut = refl
    by_closing false shut = absurd cc

pub shows-shut : (other : ℕ) (piece : List ℕ) (kept : ServedHeld) → is_open_in (kept_of other kept.kept) ≡ false → ShowsNext other piece kept None
unfolding ShowsNext
shows-shut other piece kept shut u holds = inr (none_asks u holds.taken kept other holds.keeps (shut-asks (kept_of other kept.kept) shut))

-- an open one completes what stands at the front of what is unread and the piece
opened : (o : Option (Kept Requester)) → is_open_in o ≡ true → (k : Kept Requester) × (o ≡ Some k) × (k.closing ≡ false)
opened None open_in = absurd cc
opened (Some k) open_in = (k, refl, by_closing k.closing open_in)
  where
    by_closing : (closes : Bool) → not closes ≡ true → closes ≡ false
    by_closing true e = absurd cc
    by_closing false e = refl

pub shows-next : (other : ℕ) (unread piece : List ℕ) (kept : ServedHeld) (found : Option NextMessage) → is_open_in (kept_of other kept.kept) ≡ true
    → unread ≡ unread_of (kept_of other kept.kept) → IsNextIn unread piece found → ShowsNext other piece kept found
unfolding ShowsNext IsNextIn
shows-next other unread piece kept None open_in rest next u holds =
    let is = opened (kept_of other kept.kept) open_in in
    let same : unread ≡ is.0.rest = rest ∙ ap unread_of is.1 in
    inl (completes_none u holds.taken kept other is.0 piece holds.keeps is.1 is.2 (λ count frames. next count (ap (λ xs. frame_at (xs ++ piece)) same ∙ frames)))
shows-next other unread piece kept (Some next) open_in rest completes u holds =
    let is = opened (kept_of other kept.kept) open_in in
    let same : unread ≡ is.0.rest = rest ∙ ap unread_of is.1 in
    let front = completes.front in
    let long : length next.octets ≡ front.count = ap length front.front ∙ length-take-le front.count (unread ++ piece) front.within in
    let one = completes_next u holds.taken kept other front.count is.0 piece holds.keeps is.1 is.2 (ap (λ xs. frame_at (xs ++ piece)) (sym same) ∙ front.whole) in
    let count : front.count - length is.0.rest ≡ next.count =
    ap₂ (λ n xs. n - length xs) (sym long) (sym same) ∙ sym completes.count in
    let octets : take front.count (is.0.rest ++ piece) ≡ next.octets = ap (λ xs. take front.count (xs ++ piece)) (sym same) ∙ sym front.front in
    subst (λ n. CompletesOne u other (take n piece) next.octets) count
    (subst (CompletesOne u other (take (front.count - length is.0.rest) piece)) octets one)

-- what holds of a value of one kind holds of one of another
pub if_ok-map : {X E : Type 0} (P Q : X → Type 0) (result : Result X E) → ((x : X) → P x → Q x) → IfOk result P → IfOk result Q
if_ok-map P Q (Ok x) leads holds = leads x holds
if_ok-map P Q (Err fault) leads holds = tt
