-- What a step leaves of each session.
use Rattle.std.proofs.Common.{◌≡◌, ◌≢◌, ◌≤◌, ◌+◌, ℕ, Bool, true, false, cond, List, [], ◌∷◌, ◌++◌, filter, Option, Some, None, refl, ap, sym, ◌∙◌, append-nil, add_assoc, arith, subst, true≢false}
use Rattle.std.proofs.lemmas.Bool.Decides.{nat_tests}
use Rattle.std.proofs.lemmas.List.Elements.{filter-append}
use Rattle.ldap_msg.specs.Streams.{is_broken}
use Rattle.session_model.specs.Working.{is_turned, cuts_in}
use Rattle.session_model.specs.Rules.{Rules, said}
use Rattle.session_model.specs.Run.{Session, Sessions, State, Open, Closing, TurnedAway, Away, Unopened, Step, Opened, Bytes, Ended, Gone, HungUp, step, run_from, hears, ended, is_held, with_session, new_messages}
use Rattle.session_model.specs.Journaled.{cuts_of, cuts_at, is_event}
use Rattle.session_model.specs.Replaying.{number_of, replayed_from, step_and_hang_up, is_away}

pub with_session-other : {W : Type 0} (c d : ℕ) (s : Session W) (of : ℕ → Session W) → d ≢ c → with_session c s of d ≡ of d
with_session-other c d s of differs = grind (arith, nat_tests)

pub with_session-same : {W : Type 0} (c : ℕ) (s : Session W) (of : ℕ → Session W) → with_session c s of c ≡ s
with_session-same c s of = grind (arith, nat_tests)

-- the cuts of steps in turn, and of a step of another connection
pub cuts_of-one : (d : ℕ) (xs : List Step) (s : Step) → cuts_of d (xs ++ s ∷ []) ≡ cuts_of d xs + cuts_at d s
unfolding cuts_of
cuts_of-one d [] s = omega arith
cuts_of-one d (x ∷ xs) s = ap (λ n. cuts_at d x + n) (cuts_of-one d xs s) ∙ sym (add_assoc (cuts_at d x) (cuts_of d xs) (cuts_at d s))

pub cuts_at-other : (d : ℕ) (s : Step) → d ≢ number_of s → cuts_at d s ≡ 0
cuts_at-other d (Opened c) differs = refl
cuts_at-other d (Bytes c piece None) differs = refl
cuts_at-other d (Bytes c piece (Some k)) differs = grind (arith, nat_tests)
cuts_at-other d (Ended c) differs = refl
cuts_at-other d (Gone c) differs = refl
cuts_at-other d (HungUp c) differs = refl

-- how many cuts a step has
abbrev pub count_cut : Option ℕ → ℕ
count_cut None = 0
count_cut (Some k) = 1

pub cuts_at-own : (c : ℕ) (piece : List ℕ) (cut : Option ℕ) → cuts_at c (Bytes c piece cut) ≡ count_cut cut
cuts_at-own c piece None = refl
cuts_at-own c piece (Some k) = grind (arith, nat_tests)

-- a cut comes where the session is open
abbrev pub OpenFor : State → Option ℕ → Type 0
OpenFor st None = Unit {0}
OpenFor st (Some k) = st ≡ Open

-- what a piece or the end of a peer's octets does to its own session: more is said, and it is as held and as away as before
pub record Speaks {W : Type 0} (before after : Session W) (cuts_now : ℕ) : Type 0 where
  pub more : List ℕ
  pub reply : after.reply ≡ before.reply ++ more
  pub away : is_away after.state ≡ is_away before.state
  pub unheld : is_held after.state ≡ false → after ≡ before
  pub turned : is_turned before.state ≡ false → is_turned after.state ≡ false
  pub fresh : before.state ≡ Unopened → after.state ≡ Unopened
  pub cuts : (k : ℕ) → k ≤ cuts_in before.state → k + cuts_now ≤ cuts_in after.state

open_is_opened : Open ≡ Unopened → ⊥
open_is_opened h = cc

cond_is : {A : Type 0} (f : State → A) (b : Bool) (x : A) → f Closing ≡ x → f Open ≡ x → f (cond b Closing Open) ≡ x
cond_is f b x e1 e2 = elim b as (λ v. f (cond v Closing Open) ≡ x) [ true ↦ e1 | false ↦ e2 ]

cuts_more : (b : Bool) (k : ℕ) → k ≤ 0 → k + 0 ≤ cuts_in (cond b Closing Open)
cuts_more true k h = omega arith
cuts_more false k h = omega arith

Speaks-same : {W : Type 0} (s : Session W) → Speaks s s 0
Speaks-same s =
    record { more = []; reply = sym (append-nil s.reply); away = refl; unheld = λ _. refl; turned = λ h. h; fresh = λ h. h; cuts = λ k h. omega arith }

module _ {T W : Type 0} (r : Rules T W) where
  pub run_from-append : (u : Sessions T W) (xs ys : List Step) → run_from r u (xs ++ ys) ≡ run_from r (run_from r u xs) ys
  unfolding run_from
  run_from-append u [] ys = refl
  run_from-append u (x ∷ xs) ys = run_from-append (step r u x) xs ys

  pub run_from-one : (u : Sessions T W) (s : Step) → run_from r u (s ∷ []) ≡ step r u s
  unfolding run_from
  run_from-one u s = refl

  pub replayed_from-append : (u : Sessions T W) (xs ys : List Step) → replayed_from r u (xs ++ ys) ≡ replayed_from r (replayed_from r u xs) ys
  unfolding replayed_from
  replayed_from-append u [] ys = refl
  replayed_from-append u (x ∷ xs) ys = replayed_from-append (step_and_hang_up r u x) xs ys

  pub replayed_from-one : (u : Sessions T W) (s : Step) → replayed_from r u (s ∷ []) ≡ step_and_hang_up r u s
  unfolding replayed_from
  replayed_from-one u s = refl

  -- the events among steps, replayed with one step more
  pub replayed-more : (u : Sessions T W) (xs : List Step) (s : Step) → is_event s ≡ true →
      replayed_from r u (filter is_event (xs ++ s ∷ [])) ≡ step_and_hang_up r (replayed_from r u (filter is_event xs)) s
  replayed-more u xs s is =
      ap (replayed_from r u) (filter-append is_event xs (s ∷ []) ∙ ap (λ ys. filter is_event xs ++ ys) (one_event s is))
      ∙ replayed_from-append u (filter is_event xs) (s ∷ []) ∙ replayed_from-one (replayed_from r u (filter is_event xs)) s
    where
      one_event : (s : Step) → is_event s ≡ true → filter is_event (s ∷ []) ≡ s ∷ []
      one_event s is = rw is refl

  pub replayed-stay : (u : Sessions T W) (xs : List Step) (s : Step) → is_event s ≡ false →
      replayed_from r u (filter is_event (xs ++ s ∷ [])) ≡ replayed_from r u (filter is_event xs)
  replayed-stay u xs s is =
      ap (replayed_from r u) (filter-append is_event xs (s ∷ []) ∙ ap (λ ys. filter is_event xs ++ ys) (no_event s is) ∙ append-nil (filter is_event xs))
    where
      no_event : (s : Step) → is_event s ≡ false → filter is_event (s ∷ []) ≡ []
      no_event s is = rw is refl

  hears-other : (st : State) (u : Sessions T W) (c : ℕ) (piece : List ℕ) (cut : Option ℕ) (d : ℕ) → d ≢ c → (hears r st u c piece cut).of d ≡ u.of d
  hears-other Open u c piece cut d differs = with_session-other c d _ u.of differs
  hears-other Closing u c piece cut d differs = refl
  hears-other Unopened u c piece cut d differs = refl
  hears-other TurnedAway u c piece cut d differs = refl
  hears-other Away u c piece cut d differs = refl

  -- the sessions of other numbers stay
  pub step-other : (u : Sessions T W) (s : Step) (d : ℕ) → d ≢ number_of s → (step r u s).of d ≡ u.of d
  unfolding step
  step-other u (Opened c) d differs = with_session-other c d _ u.of differs
  step-other u (Bytes c piece cut) d differs = hears-other (u.of c).state u c piece cut d differs
  step-other u (Ended c) d differs = with_session-other c d _ u.of differs
  step-other u (Gone c) d differs = with_session-other c d _ u.of differs
  step-other u (HungUp c) d differs = with_session-other c d _ u.of differs

  hears-opened : (st : State) (u : Sessions T W) (c : ℕ) (piece : List ℕ) (cut : Option ℕ) → (hears r st u c piece cut).opened ≡ u.opened
  hears-opened Open u c piece cut = refl
  hears-opened Closing u c piece cut = refl
  hears-opened Unopened u c piece cut = refl
  hears-opened TurnedAway u c piece cut = refl
  hears-opened Away u c piece cut = refl

  -- an open session after a piece
  open-speaks : (u : Sessions T W) (c : ℕ) (piece : List ℕ) (cut : Option ℕ) → (u.of c).state ≡ Open → Speaks (u.of c) ((hears r Open u c piece cut).of c) (count_cut cut)
  open-speaks u c piece cut e =
      let s = u.of c in
      let a = said r cut u.tree s.who (new_messages s.stream piece) (is_broken (s.stream ++ piece)) in
      subst (λ x. Speaks s x (count_cut cut)) (sym (with_session-same c _ u.of))
      (record {
        more = a.replies;
        reply = refl;
        away = rw e (cond_is (λ st. is_away st) a.closes false refl refl);
        unheld = λ h. absurd (true≢false (sym (cond_is (λ st. is_held st) a.closes true refl refl) ∙ h));
        turned = λ _. cond_is (λ st. is_turned st) a.closes false refl refl;
        fresh = λ h. absurd (open_is_opened (sym e ∙ h));
        cuts = λ k h. cuts_in_open cut k (subst (λ st. k ≤ cuts_in st) e h);
      })
    where
      cuts_in_open : (cut : Option ℕ) (k : ℕ) → k ≤ 0 →
          let s = u.of c in
          k + count_cut cut ≤ cuts_in (cond (said r cut u.tree s.who (new_messages s.stream piece) (is_broken (s.stream ++ piece))).closes Closing Open)
      cuts_in_open None k h = cuts_more (said r None u.tree (u.of c).who (new_messages (u.of c).stream piece) (is_broken ((u.of c).stream ++ piece))).closes k h
      cuts_in_open (Some count) k h = omega arith

  closed-speaks : (u : Sessions T W) (c : ℕ) (cut : Option ℕ) → OpenFor (u.of c).state cut → ((u.of c).state ≡ Open → ⊥) → Speaks (u.of c) (u.of c) (count_cut cut)
  closed-speaks u c None fits shut = Speaks-same (u.of c)
  closed-speaks u c (Some k) fits shut = absurd (shut fits)

  hears-speaks : (st : State) (u : Sessions T W) (c : ℕ) (piece : List ℕ) (cut : Option ℕ) → (u.of c).state ≡ st → OpenFor (u.of c).state cut →
      Speaks (u.of c) ((hears r st u c piece cut).of c) (count_cut cut)
  hears-speaks Open u c piece cut e fits = open-speaks u c piece cut e
  hears-speaks Closing u c piece cut e fits = closed-speaks u c cut fits (λ h. cc)
  hears-speaks Unopened u c piece cut e fits = closed-speaks u c cut fits (λ h. cc)
  hears-speaks TurnedAway u c piece cut e fits = closed-speaks u c cut fits (λ h. cc)
  hears-speaks Away u c piece cut e fits = closed-speaks u c cut fits (λ h. cc)

  pub ended-speaks : {V : Type 0} (st : State) (s : Session V) → s.state ≡ st → Speaks s (ended st s) 0
  ended-speaks Open s e =
      record {
        more = [];
        reply = sym (append-nil s.reply);
        away = rw e refl;
        unheld = λ h. cc;
        turned = λ _. refl;
        fresh = λ h. absurd (open_is_opened (sym e ∙ h));
        cuts = λ k h. let none : k ≤ 0 = subst (λ st. k ≤ cuts_in st) e h in omega arith;
      }
  ended-speaks Closing s e = Speaks-same s
  ended-speaks Unopened s e = Speaks-same s
  ended-speaks TurnedAway s e = Speaks-same s
  ended-speaks Away s e = Speaks-same s

  pub bytes-speaks : (u : Sessions T W) (c : ℕ) (piece : List ℕ) (cut : Option ℕ) → OpenFor (u.of c).state cut →
      Speaks (u.of c) ((step r u (Bytes c piece cut)).of c) (cuts_at c (Bytes c piece cut))
  unfolding step
  bytes-speaks u c piece cut fits =
      subst (λ n. Speaks (u.of c) ((step r u (Bytes c piece cut)).of c) n) (sym (cuts_at-own c piece cut)) (hears-speaks (u.of c).state u c piece cut refl fits)

  pub end-speaks : (u : Sessions T W) (c : ℕ) → Speaks (u.of c) ((step r u (Ended c)).of c) 0
  unfolding step
  end-speaks u c = subst (λ x. Speaks (u.of c) x 0) (sym (with_session-same c _ u.of)) (ended-speaks (u.of c).state (u.of c) refl)

  pub bytes-opened : (u : Sessions T W) (c : ℕ) (piece : List ℕ) (cut : Option ℕ) → (step r u (Bytes c piece cut)).opened ≡ u.opened
  unfolding step
  bytes-opened u c piece cut = hears-opened (u.of c).state u c piece cut

  pub end-opened : (u : Sessions T W) (c : ℕ) → (step r u (Ended c)).opened ≡ u.opened
  unfolding step
  end-opened u c = refl
