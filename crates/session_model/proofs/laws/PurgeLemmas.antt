-- A connection is left the same by the steps of all as by its own alone, in a run and where events are replayed.
use Rattle.std.proofs.Common.{◌≡◌, ◌≤◌, ◌+◌, ℕ, ◌==◌, Bool, true, false, not, ◌||◌, cond, List, [], ◌∷◌, ◌++◌, length, filter, Option, None, refl, ap, ap₂, sym, ◌∙◌, subst, arith, length-append, append-nil}
use Rattle.std.specs.List.{AllByRecursion}
use Rattle.std.proofs.lemmas.Bool.{and_parts}
use Rattle.std.proofs.lemmas.Bool.Decides.{nat_tests}
use Rattle.ldap_msg.specs.Streams.{is_broken}
use Rattle.session_model.specs.Rules.{Rules, Answered, said}
use Rattle.session_model.specs.Run.{Session, Sessions, State, Open, Closing, TurnedAway, Away, Unopened, Step, Opened, Bytes, Ended, Gone, HungUp, step, start, run, run_from, hears, ended, with_session, new_messages, held_numbers, newcomer, is_held}
use Rattle.session_model.proofs.laws.StepLemmas.{with_session-same}
use Rattle.session_model.proofs.laws.TurnedLemmas.{none_taken as no_number}
use Rattle.session_model.specs.AnsweredMessages.{IsAnsweredAlike, answered_of_piece, answered_of_step}
use Rattle.wire_io.specs.declared.journal.Item.{Item}
use Rattle.session_model.specs.Journaled.{AtEachMoment}
use Rattle.session_model.specs.Serving.{Sound, IsFront, AreFronts}
use Rattle.session_model.specs.Replaying.{number_of, is_leaving, hung_up, step_and_hang_up, replayed, replayed_from}
use Rattle.session_model.specs.Purging.{is_of, purged, is_opening, openings, has_room, finds_room, finds_room_by, answered_of_connection, answered_of_connection_by, finds_room_in_replay, answered_in_replay}
use Rattle.session_model.proofs.laws.AlikeLemmas.{all_append, said-alike}

with_session-other : {W : Type 0} (c d : ℕ) (s : Session W) (of : ℕ → Session W) → (c == d) ≡ false → with_session c s of d ≡ of d
with_session-other c d s of differs = grind (arith, nat_tests)

-- the first are sessions of all, and the second of the steps of one connection, which is the same in both
record AreApart {T W : Type 0} (c : ℕ) (t : T) (all alone : Sessions T W) : Type 0 where
  pub same : alone.of c ≡ all.of c
  pub tree : alone.tree ≡ t

-- sessions after steps, where each leads on so
unfoldable pub led : {T W : Type 0} → (Sessions T W → Step → Sessions T W) → Sessions T W → List Step → Sessions T W
led after u [] = u
led after u (s ∷ ss) = led after (after u s) ss

module _ {T W : Type 0} (r : Rules T W) (t : T) (c : ℕ) where
  -- a step of another connection
  hears-other : (st : State) (u : Sessions T W) (d : ℕ) (piece : List ℕ) (cut : Option ℕ) → (d == c) ≡ false → (hears r st u d piece cut).of c ≡ u.of c
  hears-other Open u d piece cut differs = with_session-other d c _ u.of differs
  hears-other Closing u d piece cut differs = refl
  hears-other Unopened u d piece cut differs = refl
  hears-other TurnedAway u d piece cut differs = refl
  hears-other Away u d piece cut differs = refl

  pub step-other : (u : Sessions T W) (s : Step) → is_of c s ≡ false → (step r u s).of c ≡ u.of c
  unfolding step
  step-other u (Opened d) differs = with_session-other d c _ u.of differs
  step-other u (Bytes d piece cut) differs = hears-other (u.of d).state u d piece cut differs
  step-other u (Ended d) differs = with_session-other d c _ u.of differs
  step-other u (Gone d) differs = with_session-other d c _ u.of differs
  step-other u (HungUp d) differs = with_session-other d c _ u.of differs

  -- a piece of its own
  own-piece : (st : State) (u v : Sessions T W) (piece : List ℕ) (cut : Option ℕ) → AreApart c t u v
      → AllByRecursion (IsAnsweredAlike r t) (answered_of_piece r st u c piece cut)
      → AreApart c t (hears r st u c piece cut) (hears r st v c piece cut) × ((hears r st v c piece cut).opened ≡ v.opened)
  own-piece Open u v piece cut apart all =
      let s = u.of c in
      let after : Session W → Answered T W → Session W = λ s a. record { stream = s.stream ++ piece; who = a.who; reply = s.reply ++ a.replies; state = cond a.closes Closing Open; cut = cut } in
      let says : T → Session W → Answered T W = λ tree s. said r cut tree s.who (new_messages s.stream piece) (is_broken (s.stream ++ piece)) in
      let a = says u.tree s in
      let b = says t s in
      let alike = said-alike r u.tree t s.who cut (new_messages s.stream piece) (is_broken (s.stream ++ piece)) all in
      let is : says v.tree (v.of c) ≡ b = ap₂ says apart.tree apart.same in
      let first : (hears r Open v c piece cut).of c ≡ after s b = with_session-same c _ v.of ∙ ap₂ after apart.same is in
      let second : (hears r Open u c piece cut).of c ≡ after s a = with_session-same c _ u.of in
      let answers : after s a ≡ after s b =
      ap (λ octets. record (after s a) { reply = s.reply ++ octets }) alike.replies
      ∙ ap (λ w. record { stream = s.stream ++ piece; who = w; reply = s.reply ++ b.replies; state = cond a.closes Closing Open; cut = cut }) alike.who
      ∙ ap (λ closes. record { stream = s.stream ++ piece; who = b.who; reply = s.reply ++ b.replies; state = cond closes Closing Open; cut = cut }) alike.closes in
      (record { same = first ∙ sym (second ∙ answers); tree = ap (λ (x : Answered T W). x.tree) is ∙ alike.other_stays }, refl)
  own-piece Closing u v piece cut apart all = (record { same = apart.same; tree = apart.tree }, refl)
  own-piece Unopened u v piece cut apart all = (record { same = apart.same; tree = apart.tree }, refl)
  own-piece TurnedAway u v piece cut apart all = (record { same = apart.same; tree = apart.tree }, refl)
  own-piece Away u v piece cut apart all = (record { same = apart.same; tree = apart.tree }, refl)

  -- what a step of its own leaves, where each leads on so, and how often the connection has opened alone
  record OwnStep (after : Sessions T W → Step → Sessions T W) (u v : Sessions T W) (s : Step) : Type 0 where
    pub apart : AreApart c t (after u s) (after v s)
    pub opened : length (after v s).opened ≡ length v.opened + openings c (s ∷ [])

  -- where nothing opened there is room, and where there is a newcomer is served
  alone_opens : (u v : Sessions T W) → v.opened ≡ [] → has_room u ≡ true
      → newcomer r (length (held_numbers v)) ≡ newcomer r (length (held_numbers u))
  unfolding held_numbers
  alone_opens u v none room =
      ap (λ numbers. newcomer r (length (filter (λ number. is_held (v.of number).state) numbers))) none
      ∙ ap (λ there. record { stream = []; who = r.nobody; reply = []; state = cond there Open TurnedAway; cut = None }) (sym room)

  own-opened : (u v : Sessions T W) → AreApart c t u v → length v.opened ≤ 0 → has_room u ≡ true → OwnStep (step r) u v (Opened c)
  unfolding step
  own-opened u v apart none room =
      record {
        apart = record {
          same = with_session-same c _ v.of ∙ alone_opens u v (no_number v.opened none) room ∙ sym (with_session-same c _ u.of);
          tree = apart.tree;
        };
        opened = length-append v.opened (c ∷ []) ∙ grind (arith, nat_tests);
      }

  own-bytes : (u v : Sessions T W) (piece : List ℕ) (cut : Option ℕ) → AreApart c t u v
      → AllByRecursion (IsAnsweredAlike r t) (answered_of_step r u (Bytes c piece cut)) → OwnStep (step r) u v (Bytes c piece cut)
  unfolding step answered_of_step
  own-bytes u v piece cut apart all =
      let own = own-piece (u.of c).state u v piece cut apart all in
      let state : (v.of c).state ≡ (u.of c).state = ap (λ (x : Session W). x.state) apart.same in
      record {
        apart = subst (λ st. AreApart c t (hears r (u.of c).state u c piece cut) (hears r st v c piece cut)) (sym state) own.0;
        opened = ap length (ap (λ st. (hears r st v c piece cut).opened) state ∙ own.1) ∙ grind arith;
      }

  -- a change of its own session alone
  own-change : (change : Session W → Session W) (u v : Sessions T W) → AreApart c t u v
      → AreApart c t (record u { of = with_session c (change (u.of c)) u.of }) (record v { of = with_session c (change (v.of c)) v.of })
  own-change change u v apart =
      record { same = with_session-same c _ v.of ∙ ap change apart.same ∙ sym (with_session-same c _ u.of); tree = apart.tree }

  -- what its own step meets: it opens once and finds room, and its messages are answered alike
  record Meets (u v : Sessions T W) (s : Step) : Type 0 where
    pub once : length v.opened + openings c (s ∷ []) ≤ 1
    pub room : (not (is_opening c s) || has_room u) ≡ true
    pub alike : AllByRecursion (IsAnsweredAlike r t) (answered_of_step r u s)

  own-step : (u v : Sessions T W) (s : Step) → AreApart c t u v → is_of c s ≡ true → Meets u v s → OwnStep (step r) u v s
  unfolding step
  own-step u v (Opened d) apart own meets =
      let is : d ≡ c = grind (arith, nat_tests) in
      subst (λ n. OwnStep (step r) u v (Opened n)) (sym is) (own-opened u v apart (let once = meets.once in grind (arith, nat_tests)) (let room = meets.room in grind (arith, nat_tests)))
  own-step u v (Bytes d piece cut) apart own meets =
      let is : d ≡ c = grind (arith, nat_tests) in
      subst (λ n. OwnStep (step r) u v (Bytes n piece cut)) (sym is)
      (own-bytes u v piece cut apart (subst (λ n. AllByRecursion (IsAnsweredAlike r t) (answered_of_step r u (Bytes n piece cut))) is meets.alike))
  own-step u v (Ended d) apart own meets =
      let is : d ≡ c = grind (arith, nat_tests) in
      subst (λ n. OwnStep (step r) u v (Ended n)) (sym is) (record { apart = own-change (λ s. ended s.state s) u v apart; opened = grind arith })
  own-step u v (Gone d) apart own meets =
      let is : d ≡ c = grind (arith, nat_tests) in
      subst (λ n. OwnStep (step r) u v (Gone n)) (sym is) (record { apart = own-change (λ s. record s { state = Away }) u v apart; opened = grind arith })
  own-step u v (HungUp d) apart own meets =
      let is : d ≡ c = grind (arith, nat_tests) in
      subst (λ n. OwnStep (step r) u v (HungUp n)) (sym is) (record { apart = own-change (λ s. record s { state = Away }) u v apart; opened = grind arith })

  -- a connection that is to be hung up is, another or its own
  hung_up-other : (d : ℕ) (u : Sessions T W) → (d == c) ≡ false → (hung_up r d u).of c ≡ u.of c
  hung_up-other d u differs = by_state (is_leaving (u.of d).state)
    where
      by_state : (leaves : Bool) → (cond leaves (step r u (HungUp d)) u).of c ≡ u.of c
      by_state true = step-other u (HungUp d) differs
      by_state false = refl

  hung_up-own : (u v : Sessions T W) → AreApart c t u v → AreApart c t (hung_up r c u) (hung_up r c v) × ((hung_up r c v).opened ≡ v.opened)
  unfolding step
  hung_up-own u v apart =
      let state : is_leaving (v.of c).state ≡ is_leaving (u.of c).state = ap (λ (x : Session W). is_leaving x.state) apart.same in
      subst (λ b. AreApart c t (hung_up r c u) (cond b (step r v (HungUp c)) v) × ((cond b (step r v (HungUp c)) v).opened ≡ v.opened)) (sym state)
      (by_state (is_leaving (u.of c).state))
    where
      by_state : (b : Bool) → AreApart c t (cond b (step r u (HungUp c)) u) (cond b (step r v (HungUp c)) v) × ((cond b (step r v (HungUp c)) v).opened ≡ v.opened)
      by_state true = (own-change (λ s. record s { state = Away }) u v apart, refl)
      by_state false = (record { same = apart.same; tree = apart.tree }, refl)

  -- how each step leads on: another's leaves the connection, and its own leaves it the same in both
  record LeadsApart (after : Sessions T W → Step → Sessions T W) : Type 0 where
    pub other : (u : Sessions T W) (s : Step) → is_of c s ≡ false → (after u s).of c ≡ u.of c
    pub own : (u v : Sessions T W) (s : Step) → AreApart c t u v → is_of c s ≡ true → Meets u v s → OwnStep after u v s

  step_leads : LeadsApart (step r)
  step_leads = record { other = step-other; own = own-step }

  hanging_up_leads : LeadsApart (step_and_hang_up r)
  hanging_up_leads = record { other = other; own = own }
    where
      other : (u : Sessions T W) (s : Step) → is_of c s ≡ false → (step_and_hang_up r u s).of c ≡ u.of c
      other u s differs = hung_up-other (number_of s) (step r u s) differs ∙ step-other u s differs

      own : (u v : Sessions T W) (s : Step) → AreApart c t u v → is_of c s ≡ true → Meets u v s → OwnStep (step_and_hang_up r) u v s
      own u v s apart is meets =
          let same : number_of s ≡ c = grind (arith, nat_tests) in
          let stepped = own-step u v s apart is meets in
          let hung = hung_up-own (step r u s) (step r v s) stepped.apart in
          subst (λ d. AreApart c t (hung_up r d (step r u s)) (hung_up r d (step r v s)) × (length (hung_up r d (step r v s)).opened ≡ length v.opened + openings c (s ∷ [])) → OwnStep (step_and_hang_up r) u v s) same
          (λ parts. record { apart = parts.0; opened = parts.1 })
          (hung.0, ap length hung.1 ∙ stepped.opened)

  -- steps of all, and those of the connection alone
  led-purged : (after : Sessions T W → Step → Sessions T W) → LeadsApart after → (ss : List Step) (u v : Sessions T W) → AreApart c t u v
      → length v.opened + openings c ss ≤ 1 → finds_room_by after c u ss ≡ true
      → AllByRecursion (IsAnsweredAlike r t) (answered_of_connection_by r after c u ss) → (led after u ss).of c ≡ (led after v (purged c ss)).of c
  unfolding finds_room_by answered_of_connection_by led
  led-purged after leads [] u v apart once room all = sym apart.same
  led-purged after leads (s ∷ ss) u v apart once room all =
      let rooms = and_parts (not (is_opening c s) || has_room u) (finds_room_by after c (after u s) ss) room in
      by_own (is_of c s) refl rooms.0 rooms.1 (λ u v. led-purged after leads ss u v) all
    where
      by_own : (own : Bool) → is_of c s ≡ own → (not (is_opening c s) || has_room u) ≡ true → finds_room_by after c (after u s) ss ≡ true
          → ((u v : Sessions T W) → AreApart c t u v → length v.opened + openings c ss ≤ 1 → finds_room_by after c u ss ≡ true
          → AllByRecursion (IsAnsweredAlike r t) (answered_of_connection_by r after c u ss) → (led after u ss).of c ≡ (led after v (purged c ss)).of c)
          → AllByRecursion (IsAnsweredAlike r t) (cond own (answered_of_step r u s) [] ++ answered_of_connection_by r after c (after u s) ss)
          → (led after (after u s) ss).of c ≡ (led after v (cond own (s ∷ purged c ss) (purged c ss))).of c
      by_own true own first later goes all =
          let parts = all_append (IsAnsweredAlike r t) (answered_of_step r u s) (answered_of_connection_by r after c (after u s) ss) all in
          let stepped = leads.own u v s apart own (record { once = omega arith; room = first; alike = parts.0 }) in
          let opened = stepped.opened in
          goes (after u s) (after v s) stepped.apart (omega arith) later parts.1
      by_own false own first later goes all =
          goes (after u s) v (record { same = apart.same ∙ sym (leads.other u s own); tree = apart.tree }) (omega arith) later all

start_apart : {T W : Type 0} (r : Rules T W) (t : T) (c : ℕ) → AreApart c t (start r t) (start r t)
unfolding start
start_apart r t c = record { same = refl; tree = refl }

start_once : {T W : Type 0} (r : Rules T W) (t : T) (c : ℕ) (ss : List Step) → openings c ss ≤ 1 → length (start r t).opened + openings c ss ≤ 1
unfolding start
start_once r t c ss once = omega arith

-- a run and a replay lead on so
pub run_from-led : {T W : Type 0} (r : Rules T W) (u : Sessions T W) (ss : List Step) → run_from r u ss ≡ led (step r) u ss
unfolding run_from led
run_from-led r u [] = refl
run_from-led r u (s ∷ ss) = run_from-led r (step r u s) ss

pub replayed_from-led : {T W : Type 0} (r : Rules T W) (u : Sessions T W) (ss : List Step) → replayed_from r u ss ≡ led (step_and_hang_up r) u ss
unfolding replayed_from led
replayed_from-led r u [] = refl
replayed_from-led r u (s ∷ ss) = replayed_from-led r (step_and_hang_up r u s) ss

-- from the beginning
pub run-purged : {T W : Type 0} (r : Rules T W) (t : T) (c : ℕ) (ss : List Step) → openings c ss ≤ 1 → finds_room r c (start r t) ss ≡ true
    → AllByRecursion (IsAnsweredAlike r t) (answered_of_connection r c (start r t) ss)
    → (run r t ss).of c ≡ (run r t (purged c ss)).of c
run-purged {T} {W} r t c ss once room all =
    ap (λ (x : Sessions T W). x.of c) (run_from-led r (start r t) ss)
    ∙ led-purged r t c (step r) (step_leads r t c) ss (start r t) (start r t) (start_apart r t c) (start_once r t c ss once) room all
    ∙ ap (λ (x : Sessions T W). x.of c) (sym (run_from-led r (start r t) (purged c ss)))

pub replayed-purged : {T W : Type 0} (r : Rules T W) (t : T) (c : ℕ) (ss : List Step) → openings c ss ≤ 1 → finds_room_in_replay r c (start r t) ss ≡ true
    → AllByRecursion (IsAnsweredAlike r t) (answered_in_replay r c (start r t) ss)
    → (replayed r t ss).of c ≡ (replayed r t (purged c ss)).of c
replayed-purged {T} {W} r t c ss once room all =
    ap (λ (x : Sessions T W). x.of c) (replayed_from-led r (start r t) ss)
    ∙ led-purged r t c (step_and_hang_up r) (hanging_up_leads r t c) ss (start r t) (start r t) (start_apart r t c) (start_once r t c ss once) room all
    ∙ ap (λ (x : Sessions T W). x.of c) (sym (replayed_from-led r (start r t) (purged c ss)))

-- what a link took of the connection is a front of what it gets alone
pub taken-purged : {T W : Type 0} (r : Rules T W) (t : T) (c : ℕ) (ss : List Step) (journal : List Item) → Sound r t ss journal → openings c ss ≤ 1
    → finds_room r c (start r t) ss ≡ true → AllByRecursion (IsAnsweredAlike r t) (answered_of_connection r c (start r t) ss)
    → IsFront journal c ((run r t (purged c ss)).of c)
unfolding AtEachMoment AreFronts
taken-purged r t c ss journal sound once room all =
    subst (λ s. IsFront journal c s) (run-purged r t c ss once room all) (sound.fronts ss [] journal [] (sym (append-nil ss)) (sym (append-nil journal)) sound.are c)
