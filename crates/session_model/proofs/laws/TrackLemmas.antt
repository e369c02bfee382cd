-- What is tracked, with one item more.
use Rattle.std.proofs.Common.{◌≡◌, ◌≢◌, ◌≤◌, ◌<◌, ◌+◌, ◌⊎◌, inl, inr, ℕ, Bool, true, false, cond, List, [], ◌∷◌, ◌++◌, length, map, refl, ap, sym, ◌∙◌, append-nil, add_assoc, arith, subst, ap₂}
use Rattle.std.proofs.lemmas.List.{map-append}
use Rattle.wire_io.specs.declared.journal.Item.{Item}
use Rattle.wire_io.specs.Journal.{taken_of, stored_of, is_hung_up, is_held, hold_after_all, was_opened, opens}
use Rattle.wire_io.proofs.Theorems.{was_opened-quiet}
use Rattle.session_model.specs.Rules.{Rules}
use Rattle.session_model.specs.Run.{Session, Sessions, State, Open, Closing, TurnedAway, Away, Unopened, Step, step, run, run_from, start, held_numbers, most_held}
use Rattle.session_model.specs.Run as session
use Rattle.session_model.specs.Kept.{Held, queue_of, closing_of}
use Rattle.session_model.specs.Keeping.{Keeps, is_listed}
use Rattle.session_model.specs.Journaled.{steps_of, step_of_item, StepsOf, uncut, HasNoCut, HasCut, cuts_of, cuts_at, CutOnce, AtEachMoment, AtEachItem}
use Rattle.session_model.specs.Serving.{IsFront, unsent, AreFronts, IsSettled, Rightly, Stands}
use Rattle.session_model.specs.Replaying.{is_leaving, replayed_from}
use Rattle.session_model.specs.Working.{Tracks, Works, cuts_in, is_turned}
use Rattle.session_model.proofs.laws.KeptLemmas.{queue_in, closing_in, queue_of_is, closing_of_is}
use Rattle.session_model.proofs.laws.KeepingLemmas.{length-kept}
use Rattle.session_model.proofs.laws.JournalLemmas.{steps_of-one}
use Rattle.session_model.proofs.laws.MomentLemmas.{AtEachMoment-more, AtEachItem-more, nothing_before, nothing_joined}
use Rattle.session_model.proofs.laws.StepLemmas.{run_from-append}
use Rattle.session_model.proofs.laws.StandLemmas.{shown_queue, shown_closing}

pub cuts_in-one : (st : State) → cuts_in st ≤ 1
cuts_in-one Unopened = omega arith
cuts_in-one Open = omega arith
cuts_in-one Closing = omega arith
cuts_in-one TurnedAway = omega arith
cuts_in-one Away = omega arith

cuts_of-append : (d : ℕ) (steps more : List Step) → cuts_of d (steps ++ more) ≡ cuts_of d steps + cuts_of d more
unfolding cuts_of
cuts_of-append d [] more = omega arith
cuts_of-append d (s ∷ steps) more = ap (λ n. cuts_at d s + n) (cuts_of-append d steps more) ∙ sym (add_assoc (cuts_at d s) (cuts_of d steps) (cuts_of d more))

-- a step was cut before, or is now
HasCut-append : (steps more : List Step) (P : Type 0) → (P → HasCut steps) → P ⊎ HasCut more → HasCut (steps ++ more)
HasCut-append steps more P before (inl p) = let old = before p in record { number = old.number; cut = rw (cuts_of-append old.number steps more) (let some = old.cut in omega arith) }
HasCut-append steps more P before (inr new) = record { number = new.number; cut = rw (cuts_of-append new.number steps more) (let some = new.cut in omega arith) }

module _ {T W : Type 0} (r : Rules T W) (t : T) where
  -- what may come next, of the sessions themselves
  unfoldable pub RightlyNow : Sessions T W → List Item → Item → Type 0
  RightlyNow u journal i = (steps : List Step) → run r t steps ≡ u → Rightly r t steps journal i

  -- all that changes with an item
  pub record Goes (steps more : List Step) (u v : Sessions T W) (h h' : Held T W) (on_hold : List ℕ) (journal : List Item) (i : Item) : Type 0 where
    pub are : map uncut more ≡ step_of_item i
    pub goes : run_from r u more ≡ v
    pub keeps : Keeps v (λ d. length (taken_of d (journal ++ i ∷ []))) h'
    pub unstored : v.changes ≡ stored_of (journal ++ i ∷ []) ++ h'.unstored
    pub holds : (d : ℕ) → is_held d (journal ++ i ∷ []) ≡ is_listed d on_hold
    pub opened : (d : ℕ) → was_opened d (journal ++ i ∷ []) ≡ is_listed d v.opened
    pub fresh : (d : ℕ) → is_listed d v.opened ≡ false → (v.of d).state ≡ Unopened
    pub cuts : (d : ℕ) → cuts_of d (steps ++ more) ≤ cuts_in (v.of d).state
    pub no_cut : h'.was_cut ≡ false → (h.was_cut ≡ false) × HasNoCut more
    pub cut : h'.was_cut ≡ true → (h.was_cut ≡ true) ⊎ HasCut more
    pub few : length h'.kept ≤ most_held
    pub fronts : (d : ℕ) → IsFront (journal ++ i ∷ []) d (v.of d)
    pub right : RightlyNow u journal i

  -- the journal is right with it
  pub tracks_more : (steps more : List Step) (u v : Sessions T W) (h h' : Held T W) (on_hold now_on_hold : List ℕ) (journal : List Item) (i : Item) →
      Tracks r t steps u h on_hold journal → Goes steps more u v h h' now_on_hold journal i → Tracks r t (steps ++ more) v h' now_on_hold (journal ++ i ∷ [])
  unfolding AreFronts CutOnce RightlyNow
  tracks_more steps more u v h h' on_hold now_on_hold journal i tracks goes =
      let are : StepsOf (journal ++ i ∷ []) (steps ++ more) =
      map-append uncut steps more ∙ ap₂ (λ xs ys. xs ++ ys) tracks.sound.are goes.are ∙ sym (steps_of-one journal i) in
      let is : run r t (steps ++ more) ≡ v = run_from-append r (start r t) steps more ∙ ap (λ (x : Sessions T W). run_from r x more) tracks.is ∙ goes.goes in
      record {
        is = is;
        keeps = goes.keeps;
        unstored = goes.unstored;
        holds = goes.holds;
        opened = goes.opened;
        fresh = goes.fresh;
        cuts = goes.cuts;
        no_cut = λ none. map-append uncut steps more ∙ ap₂ (λ xs ys. xs ++ ys) (tracks.no_cut (goes.no_cut none).0) (goes.no_cut none).1;
        cut = λ cut. HasCut-append steps more (h.was_cut ≡ true) tracks.cut (goes.cut cut);
        few = goes.few;
        sound = record {
          are = are;
          once = λ d. (let a : cuts_of d (steps ++ more) ≤ cuts_in (v.of d).state = goes.cuts d in let b = cuts_in-one (v.of d).state in omega arith);
          fronts = AtEachMoment-more (AreFronts r t) steps more journal i tracks.sound.are are tracks.sound.fronts
              (λ d. subst (λ (x : Sessions T W). IsFront (journal ++ i ∷ []) d (x.of d)) (sym is) (goes.fronts d));
          rightly = AtEachItem-more (Rightly r t) steps more journal i tracks.sound.are tracks.sound.rightly (goes.right steps tracks.is);
        };
      }

  -- an item that is no step leaves the sessions; so much is to be shown of it
  pub record Stays (u : Sessions T W) (h h' : Held T W) (on_hold : List ℕ) (journal : List Item) (i : Item) : Type 0 where
    pub none : step_of_item i ≡ []
    pub keeps : Keeps u (λ d. length (taken_of d (journal ++ i ∷ []))) h'
    pub unstored : u.changes ≡ stored_of (journal ++ i ∷ []) ++ h'.unstored
    pub holds : (d : ℕ) → is_held d (journal ++ i ∷ []) ≡ is_listed d on_hold
    pub opens_none : (d : ℕ) → opens d i ≡ false
    pub no_cut : h'.was_cut ≡ h.was_cut
    pub fronts : (d : ℕ) → IsFront (journal ++ i ∷ []) d (u.of d)
    pub right : RightlyNow u journal i

  pub tracks_stay : (steps : List Step) (u : Sessions T W) (h h' : Held T W) (on_hold now_on_hold : List ℕ) (journal : List Item) (i : Item) →
      Tracks r t steps u h on_hold journal → Stays u h h' now_on_hold journal i → Tracks r t steps u h' now_on_hold (journal ++ i ∷ [])
  unfolding run_from
  tracks_stay steps u h h' on_hold now_on_hold journal i tracks stays =
      subst (λ xs. Tracks r t xs u h' now_on_hold (journal ++ i ∷ [])) (append-nil steps)
      (tracks_more steps [] u u h h' on_hold now_on_hold journal i tracks
      (record {
        are = sym stays.none;
        goes = refl;
        keeps = stays.keeps;
        unstored = stays.unstored;
        holds = stays.holds;
        opened = λ d. was_opened-quiet d journal i (stays.opens_none d) ∙ tracks.opened d;
        fresh = tracks.fresh;
        cuts = λ d. subst (λ xs. cuts_of d xs ≤ cuts_in (u.of d).state) (sym (append-nil steps)) (tracks.cuts d);
        no_cut = λ none. (sym stays.no_cut ∙ none, refl);
        cut = λ cut. inl (sym stays.no_cut ∙ cut);
        few = (let as_many : length h'.kept ≡ length h.kept = length-kept r u _ h' stays.keeps ∙ sym (length-kept r u _ h tracks.keeps) in let few = tracks.few in omega arith);
        fronts = stays.fronts;
        right = stays.right;
      }))

  -- what was taken is a front now
  pub front_now : (steps : List Step) (u : Sessions T W) (h : Held T W) (on_hold : List ℕ) (journal : List Item) → Tracks r t steps u h on_hold journal → (d : ℕ) → IsFront journal d (u.of d)
  unfolding AreFronts AtEachMoment
  front_now steps u h on_hold journal tracks d =
      subst (λ (x : Sessions T W). IsFront journal d (x.of d)) tracks.is (tracks.sound.fronts steps [] journal [] (sym (append-nil steps)) (sym (append-nil journal)) tracks.sound.are d)

  -- all is settled where everyone stands
  pub settled_now : (steps : List Step) (u : Sessions T W) (journal : List Item) → run r t steps ≡ u → ((d : ℕ) → Stands (u.of d).state journal d (u.of d)) → IsSettled r t steps journal
  unfolding IsSettled
  settled_now steps u journal is stands = λ d. subst (λ (x : Sessions T W). Stands (x.of d).state journal d (x.of d)) (sym is) (stands d)

  -- the queue in the connections held
  pub queue_now : (steps : List Step) (u : Sessions T W) (h : Held T W) (on_hold : List ℕ) (journal : List Item) → Tracks r t steps u h on_hold journal → (c : ℕ) →
      queue_of c h.kept ≡ cond (session.is_held (u.of c).state) (unsent journal c (u.of c)) []
  queue_now steps u h on_hold journal tracks c =
      queue_of_is c h.kept ∙ ap queue_in (tracks.keeps.each c) ∙ shown_queue (u.of c).state c (length (taken_of c journal)) (u.of c)

  -- whether it is to be hung up, by what is held
  pub leaving_now : (steps : List Step) (u : Sessions T W) (h : Held T W) (on_hold : List ℕ) (journal : List Item) → Tracks r t steps u h on_hold journal → (c : ℕ) →
      is_turned (u.of c).state ≡ false → is_leaving (u.of c).state ≡ closing_of c h.kept
  leaving_now steps u h on_hold journal tracks c turned =
      shown_closing (u.of c).state c (length (taken_of c journal)) (u.of c) turned ∙ ap closing_in (sym (tracks.keeps.each c)) ∙ sym (closing_of_is c h.kept)

  -- nothing queued is nothing unsent of a connection that is held, and something queued is of one that is
  pub unsent_now : (steps : List Step) (u : Sessions T W) (h : Held T W) (on_hold : List ℕ) (journal : List Item) → Tracks r t steps u h on_hold journal → (c : ℕ) →
      queue_of c h.kept ≡ [] → session.is_held (u.of c).state ≡ true → unsent journal c (u.of c) ≡ []
  unsent_now steps u h on_hold journal tracks c empty there =
      ap (λ b. cond b (unsent journal c (u.of c)) []) (sym there) ∙ sym (queue_now steps u h on_hold journal tracks c) ∙ empty

  pub held_now : (steps : List Step) (u : Sessions T W) (h : Held T W) (on_hold : List ℕ) (journal : List Item) → Tracks r t steps u h on_hold journal → (c : ℕ) →
      queue_of c h.kept ≢ [] → (session.is_held (u.of c).state ≡ true) × (unsent journal c (u.of c) ≡ queue_of c h.kept)
  held_now steps u h on_hold journal tracks c some = by_held (session.is_held (u.of c).state) refl
    where
      by_held : (b : Bool) → session.is_held (u.of c).state ≡ b → (session.is_held (u.of c).state ≡ true) × (unsent journal c (u.of c) ≡ queue_of c h.kept)
      by_held true there = (there, ap (λ b. cond b (unsent journal c (u.of c)) []) (sym there) ∙ sym (queue_now steps u h on_hold journal tracks c))
      by_held false there = absurd (some (queue_now steps u h on_hold journal tracks c ∙ ap (λ b. cond b (unsent journal c (u.of c)) []) there))

  -- before anything is heard
  pub tracks_start : Tracks r t [] (start r t) (record { tree = t; kept = []; was_cut = false; unstored = [] }) [] []
  unfolding start run_from steps_of AreFronts AtEachMoment AtEachItem taken_of stored_of is_hung_up is_held hold_after_all was_opened held_numbers cuts_of CutOnce
  tracks_start =
      record {
        is = refl;
        keeps = record { tree = refl; numbers = refl; each = λ c. refl; within = λ c. omega arith; unopened = λ c _. (refl, refl) };
        unstored = refl;
        holds = λ c. refl;
        opened = λ c. refl;
        fresh = λ c _. refl;
        cuts = λ c. omega arith;
        no_cut = λ _. refl;
        cut = λ cut. cc;
        few = omega arith;
        sound = record {
          are = refl;
          once = λ c. omega arith;
          fronts = λ early late front back es eb so. fronts_none early late front back es eb;
          rightly = λ early late front back i es eb so. absurd (nothing_before front i back eb);
        };
      }
    where
      fronts_none : (early late : List Step) (front back : List Item) → [] ≡ early ++ late → [] ≡ front ++ back → AreFronts r t early front
      fronts_none early late front back es eb =
          subst (λ xs. AreFronts r t xs front) (sym (nothing_joined early late es)) (subst (AreFronts r t []) (sym (nothing_joined front back eb)) (λ c. refl))

  -- nobody is due
  pub works_start : Works r t [] (record { tree = t; kept = []; was_cut = false; unstored = [] }) [] []
  unfolding start is_held hold_after_all replayed_from taken_of is_hung_up
  works_start =
      record {
        steps = [];
        now = start r t;
        tracks = tracks_start;
        hung = λ c. refl;
        unturned = λ c. refl;
        placed = λ c listed. cc;
        stands = λ c _. refl;
        replay = λ _. record { same = refl; taken = λ c _. refl };
      }
