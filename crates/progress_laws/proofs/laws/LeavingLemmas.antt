-- What a session's reply has come to, by where it is: one that was never opened or was turned away has none, and of one that
-- has left and wasn't lost all was taken. Each item of a journal that is right keeps it so.
use Rattle.std.proofs.Common.{◌≡◌, ◌≢◌, ℕ, Bool, true, false, cond, ◌||◌, List, [], ◌∷◌, ◌++◌, length, map, Option, None, refl, ap, sym, ◌∙◌, subst, inl, inr, arith, append_assoc, append-nil}
use Rattle.std.specs.Prelude.{nat_lt}
use Rattle.std.proofs.lemmas.Bool.Decides.{eqb_tells, nat_tests}
use Rattle.session_model.specs.wire_io.declared.journal.Event.{Event}
use Rattle.session_model.specs.wire_io.declared.journal.Event.TheVariants as event
use Rattle.session_model.specs.wire_io.declared.journal.Item.{Item}
use Rattle.session_model.specs.wire_io.declared.journal.Item.TheVariants as item
use Rattle.session_model.specs.wire_io.Journal.{taken_of, taken_at, was_opened, opens}
use Rattle.session_model.proofs.wire_io_proofs.Theorems.{taken_of-push}
use Rattle.session_model.proofs.Theorems.{was_opened-append, with_session-same}
use Rattle.session_model.specs.Rules.{Rules}
use Rattle.session_model.specs.Run.{Session, Sessions, State, Open, Closing, TurnedAway, Away, Unopened, Step, Opened, Bytes, Ended, Gone, HungUp, step, run, run_from, start, hears, ended, with_session}
use Rattle.session_model.specs.Run as session
use Rattle.session_model.specs.Journaled.{uncut, step_of_event}
use Rattle.session_model.specs.Serving.{IsFront, AreFronts, unsent, MayHangUp, Rightly}
use Rattle.progress_laws.specs.Taking.{WasLost}
use Rattle.progress_laws.proofs.laws.MomentLemmas.{KeptBy, no_steps}
use Rattle.progress_laws.proofs.laws.StepLemmas.{one_step, opened_step, bytes_step, ended_step, gone_step, hung_up_step}

-- what was said to one that isn't served
abbrev pub Has : {W : Type 0} → State → List Item → ℕ → Session W → Type 0
Has Open journal number s = Unit {0}
Has Closing journal number s = Unit {0}
Has Unopened journal number s = s.reply ≡ []
Has TurnedAway journal number s = s.reply ≡ []
Has Away journal number s = (WasLost number journal → ⊥) → taken_of number journal ≡ s.reply

-- an item more that takes nothing of the connection and doesn't open it
record IsStill (c : ℕ) (j : List Item) (i : Item) : Type 0 where
  pub taken : taken_of c (j ++ i ∷ []) ≡ taken_of c j
  pub lost : WasLost c j → WasLost c (j ++ i ∷ [])

or-false : (b c : Bool) → b ≡ false → c ≡ false → (b || c) ≡ false
or-false b c e f = grind (arith)

lost_more : (c : ℕ) (j : List Item) (i : Item) → opens c i ≡ false → WasLost c j → WasLost c (j ++ i ∷ [])
unfolding was_opened
lost_more c j i unopened lost = record {
  before = lost.before;
  since = lost.since ++ i ∷ [];
  is = ap (λ xs. xs ++ i ∷ []) lost.is ∙ append_assoc lost.before (item.Gone c ∷ lost.since) (i ∷ []);
  same_opening = was_opened-append c lost.since (i ∷ []) ∙ or-false (was_opened c lost.since) (opens c i || false) lost.same_opening (or-false (opens c i) false unopened refl);
}

still : (c : ℕ) (j : List Item) (i : Item) → taken_at c i ≡ [] → opens c i ≡ false → IsStill c j i
still c j i none unopened = record {
  taken = taken_of-push c j i ∙ ap (λ xs. taken_of c j ++ xs) none ∙ append-nil (taken_of c j);
  lost = lost_more c j i unopened;
}

module _ {W : Type 0} where
  has_still : (st : State) (c : ℕ) (j : List Item) (i : Item) (s : Session W) → IsStill c j i → Has st j c s → Has st (j ++ i ∷ []) c s
  has_still Open c j i s same has = has
  has_still Closing c j i s same has = has
  has_still Unopened c j i s same has = has
  has_still TurnedAway c j i s same has = has
  has_still Away c j i s same has = λ unlost. same.taken ∙ has (λ lost. unlost (same.lost lost))

  has_cond : (b : Bool) (j : List Item) (c : ℕ) (s : Session W) → Has (cond b Closing Open) j c s
  has_cond true j c s = tt
  has_cond false j c s = tt

  -- under its own number another session is had, and under another the one before
  has_with : (c d : ℕ) (j : List Item) (s : Session W) (of : ℕ → Session W) → (c ≡ d → Has s.state j c s) → (c ≢ d → Has (of c).state j c (of c)) →
      Has (with_session d s of c).state j c (with_session d s of c)
  has_with c d j s of own others = elim (eqb_tells c d) [
    | inl e ↦ subst (λ (x : Session W). Has x.state j c x) (sym (subst (λ n. with_session d s of n ≡ s) (sym e.1) (with_session-same d s of))) (own e.1)
    | inr e ↦ subst (λ (x : Session W). Has x.state j c x) (sym (other c d s of e.1)) (others e.1)
  ]
    where
      other : (c d : ℕ) (s : Session W) (of : ℕ → Session W) → c ≢ d → with_session d s of c ≡ of c
      other c d s of differs = grind (arith, nat_tests)

  has_ended : (st : State) (j : List Item) (c : ℕ) (s : Session W) → Has s.state j c s → Has (ended st s).state j c (ended st s)
  has_ended Open j c s has = tt
  has_ended Closing j c s has = has
  has_ended Unopened j c s has = has
  has_ended TurnedAway j c s has = has
  has_ended Away j c s has = has

-- where nothing is unsent, all was taken; so it is where there is no reply
all_sent : {W : Type 0} (j : List Item) (c : ℕ) (s : Session W) → IsFront j c s → unsent j c s ≡ [] → taken_of c j ≡ s.reply
all_sent j c s front none = sym (front ∙ ap (λ xs. taken_of c j ++ xs) none ∙ append-nil (taken_of c j))

pub none_sent : {W : Type 0} (j : List Item) (c : ℕ) (s : Session W) → IsFront j c s → s.reply ≡ [] → taken_of c j ≡ s.reply
none_sent j c s front none = nothing (taken_of c j) (unsent j c s) (sym none ∙ front) ∙ sym none
  where
    nothing : (xs ys : List ℕ) → [] ≡ xs ++ ys → xs ≡ []
    nothing [] ys h = refl
    nothing (x ∷ xs) ys h = cc

module _ {T W : Type 0} (r : Rules T W) where
  -- a session of the connection
  abbrev pub HasAt : ℕ → Sessions T W → List Item → Type 0
  HasAt c u j = Has (u.of c).state j c (u.of c)

  stays : (c : ℕ) (u : Sessions T W) (j : List Item) (i : Item) (more : List Step) → map uncut more ≡ [] → IsStill c j i → HasAt c u j → HasAt c (run_from r u more) (j ++ i ∷ [])
  unfolding run_from
  stays c u j i more none same has =
      subst (λ ss. HasAt c (run_from r u ss) (j ++ i ∷ [])) (sym (no_steps more none)) (has_still (u.of c).state c j i (u.of c) same has)

  -- a step that is known but for its cut
  at_step : (c : ℕ) (u : Sessions T W) (j : List Item) (more : List Step) (y : Step) → more ≡ y ∷ [] → HasAt c (step r u y) j → HasAt c (run_from r u more) j
  unfolding run_from
  at_step c u j more y is has = subst (λ ss. HasAt c (run_from r u ss) j) (sym is) has

  has_newcomer : (b : Bool) (j : List Item) (c : ℕ) (s : Session W) → s.reply ≡ [] → Has (cond b Open TurnedAway) j c s
  has_newcomer true j c s none = tt
  has_newcomer false j c s none = none

  has_opened : (c d : ℕ) (u : Sessions T W) (j : List Item) → HasAt c u j → HasAt c (step r u (Opened d)) (j ++ item.Heard (event.Opened d) ∷ [])
  unfolding step opens taken_at
  has_opened c d u j has =
      has_with c d after _ u.of
      (λ same. has_newcomer (nat_lt (length (session.held_numbers u)) session.most_held) after c (session.newcomer r (length (session.held_numbers u))) refl)
      (λ differs. has_still (u.of c).state c j (item.Heard (event.Opened d)) (u.of c) (still c j (item.Heard (event.Opened d)) refl (grind (arith, nat_tests))) has)
    where
      after : List Item
      after = j ++ item.Heard (event.Opened d) ∷ []

  has_hears : (st : State) (c d : ℕ) (u : Sessions T W) (j : List Item) (piece : List ℕ) (cut : Option ℕ) → HasAt c u j → HasAt c (hears r st u d piece cut) j
  has_hears Open c d u j piece cut has = has_with c d j _ u.of (λ same. has_cond _ j c _) (λ differs. has)
  has_hears Closing c d u j piece cut has = has
  has_hears Unopened c d u j piece cut has = has
  has_hears TurnedAway c d u j piece cut has = has
  has_hears Away c d u j piece cut has = has

  has_closed : (c d : ℕ) (u : Sessions T W) (j : List Item) → HasAt c u j → HasAt c (step r u (Ended d)) j
  unfolding step
  has_closed c d u j has =
      has_with c d j (ended (u.of d).state (u.of d)) u.of
      (λ same. has_ended (u.of d).state j c (u.of d) (subst (λ n. Has (u.of n).state j c (u.of n)) same has))
      (λ differs. has)

  -- an event heard
  has_heard : (e : Event) (c : ℕ) (u : Sessions T W) (j : List Item) (more : List Step) → map uncut more ≡ step_of_event e → HasAt c u j →
      HasAt c (run_from r u more) (j ++ item.Heard e ∷ [])
  unfolding step opens taken_at
  has_heard (event.Opened d) c u j more are has =
      let one = one_step (Opened d) more are in
      at_step c u _ more (Opened d) (one.1 ∙ ap (λ y. y ∷ []) (opened_step d one.0 one.2)) (has_opened c d u j has)
  has_heard (event.Bytes d piece) c u j more are has =
      let one = one_step (Bytes d piece None) more are in
      let known = bytes_step d piece one.0 one.2 in
      let i = item.Heard (event.Bytes d piece) in
      at_step c u (j ++ i ∷ []) more (Bytes d piece known.0) (one.1 ∙ ap (λ y. y ∷ []) known.1)
      (has_hears (u.of d).state c d u (j ++ i ∷ []) piece known.0 (has_still (u.of c).state c j i (u.of c) (still c j i refl refl) has))
  has_heard (event.Ended d) c u j more are has =
      let one = one_step (Ended d) more are in
      let i = item.Heard (event.Ended d) in
      at_step c u (j ++ i ∷ []) more (Ended d) (one.1 ∙ ap (λ y. y ∷ []) (ended_step d one.0 one.2))
      (has_closed c d u (j ++ i ∷ []) (has_still (u.of c).state c j i (u.of c) (still c j i refl refl) has))
  has_heard (event.Ready d) c u j more are has = stays c u j (item.Heard (event.Ready d)) more are (still c j (item.Heard (event.Ready d)) refl refl) has
  has_heard event.Idle c u j more are has = stays c u j (item.Heard event.Idle) more are (still c j (item.Heard event.Idle) refl refl) has
  has_heard event.Stop c u j more are has = stays c u j (item.Heard event.Stop) more are (still c j (item.Heard event.Stop) refl refl) has

  -- a connection found lost, and one that was hung up
  has_gone : (c d : ℕ) (u : Sessions T W) (j : List Item) → HasAt c u j → HasAt c (step r u (Gone d)) (j ++ item.Gone d ∷ [])
  unfolding step opens taken_at was_opened
  has_gone c d u j has =
      has_with c d (j ++ item.Gone d ∷ []) (record (u.of d) { state = Away }) u.of
      (λ same unlost. absurd (unlost (subst (λ n. WasLost c (j ++ item.Gone n ∷ [])) same (record { before = j; since = []; is = refl; same_opening = refl }))))
      (λ differs. has_still (u.of c).state c j (item.Gone d) (u.of c) (still c j (item.Gone d) refl refl) has)

  left_whole : (st : State) (c : ℕ) (j : List Item) (i : Item) (s : Session W) → IsFront j c s → IsStill c j i → MayHangUp st j c s → Has st j c s →
      (WasLost c (j ++ i ∷ []) → ⊥) → taken_of c (j ++ i ∷ []) ≡ s.reply
  left_whole Open c j i s front same may has unlost = absurd may
  left_whole Closing c j i s front same may has unlost = same.taken ∙ all_sent j c s front may
  left_whole Unopened c j i s front same may has unlost = absurd may
  left_whole TurnedAway c j i s front same may has unlost = same.taken ∙ none_sent j c s front has
  left_whole Away c j i s front same may has unlost = same.taken ∙ has (λ lost. unlost (same.lost lost))

  has_hung_up : (c d : ℕ) (u : Sessions T W) (j : List Item) → IsFront j c (u.of c) → MayHangUp (u.of d).state j d (u.of d) → HasAt c u j →
      HasAt c (step r u (HungUp d)) (j ++ item.HungUp d ∷ [])
  unfolding step opens taken_at
  has_hung_up c d u j front may has =
      let same_item = still c j (item.HungUp d) refl refl in
      has_with c d (j ++ item.HungUp d ∷ []) (record (u.of d) { state = Away }) u.of
      (λ same. (let e : d ≡ c = sym same in
      subst (λ n. (WasLost c (j ++ item.HungUp d ∷ []) → ⊥) → taken_of c (j ++ item.HungUp d ∷ []) ≡ (u.of n).reply) same
      (left_whole (u.of c).state c j (item.HungUp d) (u.of c) front same_item (subst (λ n. MayHangUp (u.of n).state j n (u.of n)) e may) has)))
      (λ differs. has_still (u.of c).state c j (item.HungUp d) (u.of c) same_item has)

  -- octets taken of a connection that has a place
  has_place : (st : State) (c : ℕ) (j : List Item) (s : Session W) → session.is_held st ≡ true → Has st j c s
  has_place Open c j s there = tt
  has_place Closing c j s there = tt
  has_place Unopened c j s there = absurd (cc)
  has_place TurnedAway c j s there = absurd (cc)
  has_place Away c j s there = absurd (cc)

  has_taken : (c d : ℕ) (u : Sessions T W) (j : List Item) (octets : List ℕ) → session.is_held (u.of d).state ≡ true → HasAt c u j → HasAt c u (j ++ item.Taken d octets ∷ [])
  unfolding opens taken_at
  has_taken c d u j octets there has = elim (eqb_tells c d) [
    | inl e ↦ has_place (u.of c).state c (j ++ item.Taken d octets ∷ []) (u.of c) (subst (λ n. session.is_held (u.of n).state ≡ true) (sym e.1) there)
    | inr e ↦ has_still (u.of c).state c j (item.Taken d octets) (u.of c) (still c j (item.Taken d octets) (none c d octets e.1) refl) has
  ]
    where
      none : (c d : ℕ) (octets : List ℕ) → c ≢ d → taken_at c (item.Taken d octets) ≡ []
      none c d octets differs = grind (arith, nat_tests)

module _ {T W : Type 0} (r : Rules T W) (t : T) where
  -- each right item keeps it so
  pub has_kept : (c : ℕ) → KeptBy r t (HasAt r c)
  unfolding Rightly AreFronts opens taken_at run_from
  has_kept c early more j (item.Heard e) are fronts right has = has_heard r e c (run r t early) j more are has
  has_kept c early more j (item.OpenedAt address count ok) are fronts right has = absurd right
  has_kept c early more j (item.Taken d octets) are fronts right has =
      subst (λ ss. HasAt r c (run_from r (run r t early) ss) (j ++ item.Taken d octets ∷ [])) (sym (no_steps more are)) (has_taken r c d (run r t early) j octets right.served has)
  has_kept c early more j (item.Later d) are fronts right has = stays r c (run r t early) j (item.Later d) more are (still c j (item.Later d) refl refl) has
  has_kept c early more j (item.Gone d) are fronts right has =
      let one = one_step (Gone d) more are in
      at_step r c (run r t early) (j ++ item.Gone d ∷ []) more (Gone d) (one.1 ∙ ap (λ y. y ∷ []) (gone_step d one.0 one.2)) (has_gone r c d (run r t early) j has)
  has_kept c early more j (item.Held d) are fronts right has = stays r c (run r t early) j (item.Held d) more are (still c j (item.Held d) refl refl) has
  has_kept c early more j (item.Released d) are fronts right has = stays r c (run r t early) j (item.Released d) more are (still c j (item.Released d) refl refl) has
  has_kept c early more j (item.HungUp d) are fronts right has =
      let one = one_step (HungUp d) more are in
      at_step r c (run r t early) (j ++ item.HungUp d ∷ []) more (HungUp d) (one.1 ∙ ap (λ y. y ∷ []) (hung_up_step d one.0 one.2))
      (has_hung_up r c d (run r t early) j (fronts c) right has)
  has_kept c early more j (item.StoreOpened name ok) are fronts right has = absurd right
  has_kept c early more j (item.StoreCut length) are fronts right has = absurd right
  has_kept c early more j (item.Stored octets) are fronts right has = stays r c (run r t early) j (item.Stored octets) more are (still c j (item.Stored octets) refl refl) has
