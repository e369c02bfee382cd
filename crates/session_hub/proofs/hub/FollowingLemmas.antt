-- A hub follows a run of sessions, call by call.
use Rattle.std.proofs.Common.{◌≡◌, ◌≤◌, ◌+◌, ℕ, Bool, true, false, cond, List, [], length, drop, Option, Some, None, option_map, refl, ap, sym, ◌∙◌, subst, arith, length-drop}
use Rattle.std.specs.Option.{option_map_or}
use Rattle.session_model.specs.ldap_msg.Streams.{rest_of}
use Rattle.session_model.specs.Run.{Session, Sessions, State, Open, Closing, TurnedAway, Away, Unopened, Step, step, is_held, Gone, HungUp}
use Rattle.session_model.specs.Kept.{Kept, Held, heard, kept_of, queue_of, closing_of, taken_off, forgotten}
use Rattle.session_model.specs.Keeping.{more_taken, shown}
use Rattle.session_model.specs.Replaying.{is_closing}
use Rattle.session_model.specs.Places.{asker}
use Rattle.session_model.proofs.Theorems.{Keeps-start, Keeps-step, Keeps-taken, length-kept, queue_in, closing_in, queue_of_is, closing_of_is}
use Rattle.session_hub.specs.Parties.{DirectoryEntries, Requester}
use Rattle.session_hub.specs.Terms.{Terms}
use Rattle.session_hub.specs.Answering.{rules}
use Rattle.session_hub.specs.declared.bounds.Bounds.{Bounds}
use Rattle.session_hub.specs.declared.event.Event.{Event}
use Rattle.session_hub.specs.Event.{step_by}
use Rattle.session_hub.specs.hub.Hubs.{HubState, held, no_hub, left_of, unread_of, Hears}
use Rattle.session_hub.specs.hub.Following.{IsHeldOf, FollowsStart, FollowsStep, FollowsAnywhere, FollowsTaking, QueuesReply, ClosesWith, RequestsAs, LeavesUnread, CountsHeld}

-- a hub that holds nothing is that of no steps
pub follows_start : (bounds : Bounds) (hub : HubState) → hub ≡ no_hub bounds → FollowsStart hub
unfolding FollowsStart
follows_start bounds hub none = subst (λ h. FollowsStart h) (sym none) (λ entries. Keeps-start (rules bounds.terms) entries (λ c. 0) (λ c. refl))

pub follows_step : (terms : Terms) (s : Step) (old new : Held DirectoryEntries Requester) → new ≡ heard (rules terms) s old → FollowsStep terms s old new
unfolding FollowsStep
follows_step terms s old new is u taken fresh keeps = subst (λ h. IsHeldOf (step (rules terms) u s) taken h) (sym is) (Keeps-step (rules terms) u taken old s fresh keeps)

pub follows_event : (terms : Terms) (e : Event) (old new : Held DirectoryEntries Requester) → Hears terms e old new → FollowsStep terms (step_by e old.kept new.kept) old new
follows_event terms e old new hears = follows_step terms (step_by e old.kept new.kept) old new hears.same

pub follows_gone : (c : ℕ) (old new : HubState) → new ≡ record old { kept = forgotten c old.kept } → FollowsAnywhere (Gone c) old new
unfolding heard
follows_gone c old new is = λ entries. follows_step old.bounds.terms (Gone c) (held entries old) (held entries new) (ap (held entries) is)

pub follows_hung_up : (c : ℕ) (old new : HubState) → new ≡ record old { kept = forgotten c old.kept } → FollowsAnywhere (HungUp c) old new
unfolding heard
follows_hung_up c old new is = λ entries. follows_step old.bounds.terms (HungUp c) (held entries old) (held entries new) (ap (held entries) is)

-- what is shown of a session, by its parts
shown_left : {W : Type 0} (st : State) (c taken : ℕ) (s : Session W) → queue_in (shown st c taken s) ≡ cond (is_held st) (drop taken s.reply) []
shown_left Open c taken s = refl
shown_left Closing c taken s = refl
shown_left Unopened c taken s = refl
shown_left TurnedAway c taken s = refl
shown_left Away c taken s = refl

shown_closes : {W : Type 0} (st : State) (c taken : ℕ) (s : Session W) → closing_in (shown st c taken s) ≡ is_closing st
shown_closes Open c taken s = refl
shown_closes Closing c taken s = refl
shown_closes Unopened c taken s = refl
shown_closes TurnedAway c taken s = refl
shown_closes Away c taken s = refl

queue_is : (c : ℕ) (h : Held DirectoryEntries Requester) (u : Sessions DirectoryEntries Requester) (taken : ℕ → ℕ) → IsHeldOf u taken h → queue_of c h.kept ≡ left_of (u.of c) (taken c)
queue_is c h u taken keeps = queue_of_is c h.kept ∙ ap queue_in (keeps.each c) ∙ shown_left (u.of c).state c (taken c) (u.of c)

pub queues_reply : (c : ℕ) (hub : HubState) (queue : List ℕ) → queue ≡ queue_of c hub.kept → QueuesReply c hub queue
unfolding QueuesReply
queues_reply c hub queue is entries u taken keeps = is ∙ queue_is c (held entries hub) u taken keeps

pub closes_with : (c : ℕ) (hub : HubState) (closing : Bool) → closing ≡ closing_of c hub.kept → ClosesWith c hub closing
unfolding ClosesWith
closes_with c hub closing is entries u taken keeps = is ∙ closing_of_is c hub.kept ∙ ap closing_in (keeps.each c) ∙ shown_closes (u.of c).state c (taken c) (u.of c)

shown_who : (st : State) (c taken : ℕ) (s : Session Requester) → option_map (λ (k : Kept Requester). k.who) (shown st c taken s) ≡ cond (is_held st) (Some s.who) None
shown_who Open c taken s = refl
shown_who Closing c taken s = refl
shown_who Unopened c taken s = refl
shown_who TurnedAway c taken s = refl
shown_who Away c taken s = refl

shown_unread : (st : State) (c taken : ℕ) (s : Session Requester) → unread_of (shown st c taken s) ≡ option_map_or (λ who. rest_of s.stream) (asker st s.who) []
shown_unread Open c taken s = refl
shown_unread Closing c taken s = refl
shown_unread Unopened c taken s = refl
shown_unread TurnedAway c taken s = refl
shown_unread Away c taken s = refl

pub requests_as : (c : ℕ) (hub : HubState) (who : Option Requester) → who ≡ option_map (λ (k : Kept Requester). k.who) (kept_of c hub.kept) → RequestsAs c hub who
unfolding RequestsAs
requests_as c hub who is entries u taken keeps =
    is ∙ ap (option_map (λ (k : Kept Requester). k.who)) (keeps.each c) ∙ shown_who (u.of c).state c (taken c) (u.of c)

pub leaves_unread : (c : ℕ) (hub : HubState) (unread : List ℕ) → unread ≡ unread_of (kept_of c hub.kept) → LeavesUnread c hub unread
unfolding LeavesUnread
leaves_unread c hub unread is entries u taken keeps = is ∙ ap unread_of (keeps.each c) ∙ shown_unread (u.of c).state c (taken c) (u.of c)

pub counts_held : (hub : HubState) (count : ℕ) → count ≡ length hub.kept → CountsHeld hub count
unfolding CountsHeld
counts_held hub count is entries u taken keeps = is ∙ length-kept (rules hub.bounds.terms) u taken (held entries hub) keeps

-- octets that the queue has are within the reply
taken_within : (b : Bool) (reply q : List ℕ) (taken n : ℕ) → q ≡ cond b (drop taken reply) [] → taken ≤ length reply → n ≤ length q → taken + n ≤ length reply
taken_within true reply q taken n is within fits = let long : length q ≡ length (drop taken reply) = ap length is in omega (arith, length-drop taken reply)
taken_within false reply q taken n is within fits = let none : length q ≡ 0 = ap length is in omega arith

pub follows_taking : (c n : ℕ) (old new : HubState) → new ≡ record old { kept = taken_off c n old.kept } → n ≤ length (queue_of c old.kept) → FollowsTaking c n old new
unfolding FollowsTaking
follows_taking c n old new is fits entries u taken keeps =
    subst (λ h. IsHeldOf u (more_taken c n taken) (held entries h)) (sym is)
    (Keeps-taken u taken (held entries old) c n keeps (taken_within (is_held (u.of c).state) (u.of c).reply (queue_of c old.kept) (taken c) n (queue_is c (held entries old) u taken keeps) (keeps.within c) fits))
