-- An event heard between two blocks begins a block, in which its connection is due, and all that are on hold.
use Rattle.std.proofs.Common.{◌≡◌, ◌≢◌, ◌≤◌, ◌||◌, ◌⊎◌, inl, inr, ℕ, Bool, true, false, cond, not, List, [], ◌∷◌, ◌++◌, length, map, Option, Some, None, refl, ap, sym, ◌∙◌, arith, subst, true≢false}
use Rattle.std.proofs.lemmas.Bool.Decides.{nat_tests}
use Rattle.wire_io.specs.declared.journal.Event.{Event}
use Rattle.wire_io.specs.declared.journal.Event.TheVariants as event
use Rattle.wire_io.specs.declared.journal.Item.{Item}
use Rattle.wire_io.specs.declared.journal.Item.TheVariants as item
use Rattle.wire_io.specs.Journal.{taken_of, stored_of, stored_at, is_hung_up, opens}
use Rattle.wire_io.proofs.Theorems.{was_opened-quiet}
use Rattle.session_model.specs.Rules.{Rules}
use Rattle.session_model.specs.Run.{Session, Sessions, State, Open, Closing, TurnedAway, Away, Unopened, Step, Opened, Bytes, Ended, step, run, start}
use Rattle.session_model.specs.Run as session
use Rattle.session_model.specs.Kept.{Kept, Held, kept_of, hears_kept, heard_piece, speech, changed, closed, is_cut}
use Rattle.session_model.specs.Kept as kept
use Rattle.session_model.specs.Keeping.{Keeps, is_listed, shown}
use Rattle.session_model.specs.Journaled.{step_of_event, is_event, uncut, cuts_of, cuts_at, HasNoCut, HasCut}
use Rattle.session_model.specs.Serving.{IsFront, Rightly, Stands}
use Rattle.session_model.specs.Replaying.{is_away, is_leaving, number_of, hung_up}
use Rattle.session_model.specs.Working.{Works, Covers, CutsOpen, is_open_in, is_turned, cuts_in}
use Rattle.session_model.proofs.laws.KeptLemmas.{length-changed}
use Rattle.session_model.proofs.laws.JournalLemmas.{Still, still-heard, unstored-still, all_taken-front}
use Rattle.session_model.proofs.laws.StepLemmas.{Speaks, OpenFor, step-other, bytes-speaks, end-speaks, bytes-opened, end-opened, replayed-more, run_from-one, cuts_of-one, cuts_at-other}
use Rattle.session_model.proofs.laws.StandLemmas.{at_numbers, Keeps-as, front_as, front_more, stands_free, stands_unleaving}
use Rattle.session_model.proofs.laws.TrackLemmas.{RightlyNow, tracks_more, tracks_stay, front_now, settled_now}
use Rattle.session_model.proofs.laws.LeavingLemmas.{unleaving_same, one_left}
use Rattle.session_model.proofs.laws.BytesLemmas.{Keeps-bytes, Keeps-ended, changes-bytes}

-- who isn't due is another, and isn't among the others that are
pub not_due : (d c : ℕ) (ws : List ℕ) → is_listed d (c ∷ ws) ≡ false → (d ≢ c) × (is_listed d ws ≡ false)
not_due d c ws h = ((λ e. true≢false (sym (grind (arith, nat_tests)) ∙ h)), grind (arith, nat_tests))

-- an open connection is shown open
open_shown : {W : Type 0} (st : State) (c taken : ℕ) (s : Session W) → is_open_in (shown st c taken s) ≡ true → st ≡ Open
open_shown Open c taken s h = refl
open_shown Closing c taken s h = cc
open_shown Unopened c taken s h = cc
open_shown TurnedAway c taken s h = cc
open_shown Away c taken s h = cc

-- a cut comes to an open session
cuts_open : {T W : Type 0} (u : Sessions T W) (taken : ℕ → ℕ) (h : Held T W) (c : ℕ) (cut : Option ℕ) → Keeps u taken h → CutsOpen c h.kept cut → OpenFor (u.of c).state cut
cuts_open u taken h c None keeps fits = tt
cuts_open u taken h c (Some count) keeps fits = open_shown (u.of c).state c (taken c) (u.of c) (ap is_open_in (sym (keeps.each c)) ∙ fits)

-- a step of octets is cut where the hub was
cut_kept : {T W : Type 0} (r : Rules T W) (h : Held T W) (c : ℕ) (piece : List ℕ) (cut : Option ℕ) (o : Option (Kept W)) → kept_of c h.kept ≡ o → CutsOpen c h.kept cut →
    (hears_kept r o c piece cut h).was_cut ≡ (h.was_cut || is_cut cut)
cut_kept r h c piece None None e fits = grind arith
cut_kept r h c piece (Some count) None e fits = absurd (true≢false (sym fits ∙ ap is_open_in e))
cut_kept r h c piece None (Some k) e fits = grind arith
cut_kept r h c piece (Some count) (Some k) e fits = let still : not k.closing ≡ true = sym (ap is_open_in e) ∙ fits in grind arith

-- as many are held after octets
few_kept : {T W : Type 0} (r : Rules T W) (h : Held T W) (c : ℕ) (piece : List ℕ) (cut : Option ℕ) (o : Option (Kept W)) → length (hears_kept r o c piece cut h).kept ≤ length h.kept
few_kept r h c piece cut None = omega arith
few_kept r h c piece cut (Some k) = by_closing k.closing
  where
    by_closing : (b : Bool) → length (cond b h (let answered = speech r cut h.tree k.who (k.rest ++ piece) in record {
      tree = answered.tree;
      kept = changed c (λ _. heard_piece r piece cut k answered) h.kept;
      was_cut = h.was_cut || is_cut cut;
      unstored = h.unstored ++ answered.changes;
    })).kept ≤ length h.kept
    by_closing true = omega arith
    by_closing false = let as_many = length-changed c (λ _. heard_piece r piece cut k (speech r cut h.tree k.who (k.rest ++ piece))) h.kept in omega arith

none_cut : (b : Bool) (c : ℕ) (piece : List ℕ) (cut : Option ℕ) → (b || is_cut cut) ≡ false → (b ≡ false) × HasNoCut (Bytes c piece cut ∷ [])
none_cut false c piece None h = (refl, refl)
none_cut true c piece None h = cc
none_cut true c piece (Some count) h = cc
none_cut false c piece (Some count) h = cc

some_cut : (b : Bool) (c : ℕ) (piece : List ℕ) (cut : Option ℕ) → (b || is_cut cut) ≡ true → (b ≡ true) ⊎ HasCut (Bytes c piece cut ∷ [])
unfolding cuts_of
some_cut true c piece cut h = inl refl
some_cut false c piece None h = cc
some_cut false c piece (Some count) h = inr (record { number = c; cut = grind (arith, nat_tests) })

module _ {T W : Type 0} (r : Rules T W) (t : T) where
  right_event : (h : Held T W) (on_hold : List ℕ) (journal : List Item) (e : Event) → (works : Works r t [] h on_hold journal) → RightlyNow r t works.now journal (item.Heard e)
  unfolding Rightly RightlyNow
  right_event h on_hold journal e works = λ steps is. settled_now r t steps works.now journal is (λ d. works.stands d refl)

  -- a piece, or the end of a peer's octets, begins a block
  speaks_works : (h h' : Held T W) (on_hold ws : List ℕ) (journal : List Item) (e : Event) (s : Step) → (works : Works r t [] h on_hold journal) → Covers ws on_hold →
      map uncut (s ∷ []) ≡ step_of_event e → is_event s ≡ true → ((d : ℕ) → opens d (item.Heard e) ≡ false) →
      ((u : Sessions T W) (taken : ℕ → ℕ) → Keeps u taken h → Keeps (step r u s) taken h') →
      ((u : Sessions T W) (taken : ℕ → ℕ) (stored : List ℕ) → Keeps u taken h → u.changes ≡ stored ++ h.unstored → (step r u s).changes ≡ stored ++ h'.unstored) →
      Speaks (works.now.of (number_of s)) ((step r works.now s).of (number_of s)) (cuts_at (number_of s) s) →
      (step r works.now s).opened ≡ works.now.opened →
      (h'.was_cut ≡ false → (h.was_cut ≡ false) × HasNoCut (s ∷ [])) →
      (h'.was_cut ≡ true → (h.was_cut ≡ true) ⊎ HasCut (s ∷ [])) → length h'.kept ≤ length h.kept →
      Works r t (number_of s ∷ ws) h' on_hold (journal ++ item.Heard e ∷ [])
  unfolding stored_at
  speaks_works h h' on_hold ws journal e s works covers are is_one no_opening keeping storing speaks opened no_cut was_cut as_few =
      let c = number_of s in
      let u = works.now in
      let v = step r u s in
      let after = journal ++ item.Heard e ∷ [] in
      let still : (d : ℕ) → Still d journal after = λ d. still-heard d journal e in
      let other : (d : ℕ) → d ≢ c → v.of d ≡ u.of d = λ d differs. step-other r u s d differs in
      let front : (d : ℕ) → IsFront journal d (u.of d) = λ d. front_now r t works.steps u h on_hold journal works.tracks d in
      record {
        steps = works.steps ++ s ∷ [];
        now = v;
        tracks = tracks_more r t works.steps (s ∷ []) u v h h' on_hold on_hold journal (item.Heard e) works.tracks (record {
          are = are;
          goes = run_from-one r u s;
          keeps = Keeps-as v _ _ h' (λ d. ap length (sym (still d).taken)) (keeping u (λ d. length (taken_of d journal)) works.tracks.keeps);
          unstored = unstored-still v.changes h'.unstored journal (item.Heard e) refl (storing u (λ d. length (taken_of d journal)) (stored_of journal) works.tracks.keeps works.tracks.unstored);
          holds = λ d. (still d).on_hold ∙ works.tracks.holds d;
          opened = λ d. was_opened-quiet d journal (item.Heard e) (no_opening d) ∙ works.tracks.opened d ∙ ap (is_listed d) (sym opened);
          fresh = at_numbers c (λ d. is_listed d v.opened ≡ false → (v.of d).state ≡ Unopened)
              (λ unlisted. speaks.fresh (works.tracks.fresh c (ap (is_listed c) (sym opened) ∙ unlisted)))
              (λ d differs unlisted. ap (λ (x : Session W). x.state) (other d differs) ∙ works.tracks.fresh d (ap (is_listed d) (sym opened) ∙ unlisted));
          cuts = at_numbers c (λ d. cuts_of d (works.steps ++ s ∷ []) ≤ cuts_in (v.of d).state)
              (rw (cuts_of-one c works.steps s) (speaks.cuts (cuts_of c works.steps) (works.tracks.cuts c)))
              (λ d differs. rw (cuts_of-one d works.steps s, cuts_at-other d s differs, other d differs) (let fits : cuts_of d works.steps ≤ cuts_in (u.of d).state = works.tracks.cuts d in omega arith));
          no_cut = no_cut;
          cut = was_cut;
          few = (let few = works.tracks.few in omega arith);
          fronts = at_numbers c (λ d. IsFront after d (v.of d))
              (front_more journal after c (u.of c) (v.of c) speaks.more (still c).taken (front c) speaks.reply)
              (λ d differs. subst (λ (x : Session W). IsFront after d x) (sym (other d differs)) (front_as journal after d (u.of d) (still d).taken (front d)));
          right = right_event h on_hold journal e works;
        });
        hung = at_numbers c (λ d. is_hung_up d after ≡ is_away (v.of d).state)
            ((still c).hung ∙ works.hung c ∙ sym speaks.away)
            (λ d differs. (still d).hung ∙ works.hung d ∙ ap (λ (x : Session W). is_away x.state) (sym (other d differs)));
        unturned = at_numbers c (λ d. is_turned (v.of d).state ≡ false) (speaks.turned (works.unturned c)) (λ d differs. ap (λ (x : Session W). is_turned x.state) (other d differs) ∙ works.unturned d);
        placed = at_numbers c (λ d. is_listed d on_hold ≡ true → session.is_held (v.of d).state ≡ true) (λ listed. by_place (session.is_held (v.of c).state) refl listed)
            (λ d differs listed. ap (λ (x : Session W). session.is_held x.state) (other d differs) ∙ works.placed d listed);
        stands = λ d apart. (let is = not_due d c ws apart in
            subst (λ (x : Session W). Stands x.state after d x) (sym (other d is.0))
            (stands_free (u.of d).state journal after d (u.of d) (still d) (works.tracks.holds d ∙ covers.covers d is.1) (works.stands d refl)));
        replay = λ all. (
            let all_before = all_taken-front journal (item.Heard e) all in
            let before = works.replay all_before in
            let unleaving : (d : ℕ) → is_leaving (u.of d).state ≡ false = λ d. stands_unleaving (u.of d).state journal d (u.of d) all_before (works.stands d refl) in
            record {
              same = replayed-more r (start r t) works.steps s is_one ∙ ap (λ (x : Sessions T W). hung_up r c (step r x s)) (before.same ∙ unleaving_same u unleaving)
                  ∙ sym (one_left r c v (λ d differs. ap (λ (x : Session W). is_leaving x.state) (other d differs) ∙ unleaving d));
              taken = at_numbers c (λ d. session.is_held (v.of d).state ≡ false → taken_of d after ≡ (v.of d).reply)
                  (λ unheld. (still c).taken ∙ before.taken c (ap (λ (x : Session W). session.is_held x.state) (sym (speaks.unheld unheld)) ∙ unheld) ∙ ap (λ (x : Session W). x.reply) (sym (speaks.unheld unheld)))
                  (λ d differs unheld. (still d).taken ∙ before.taken d (ap (λ (x : Session W). session.is_held x.state) (sym (other d differs)) ∙ unheld) ∙ ap (λ (x : Session W). x.reply) (sym (other d differs)));
            });
      }
    where
      by_place : (b : Bool) → session.is_held ((step r works.now s).of (number_of s)).state ≡ b → is_listed (number_of s) on_hold ≡ true → session.is_held ((step r works.now s).of (number_of s)).state ≡ true
      by_place true there listed = there
      by_place false gone listed = absurd (true≢false (sym (works.placed (number_of s) listed) ∙ ap (λ (x : Session W). session.is_held x.state) (sym (speaks.unheld gone)) ∙ gone))

  pub works_bytes : (h : Held T W) (on_hold ws : List ℕ) (journal : List Item) (c : ℕ) (piece : List ℕ) (cut : Option ℕ) → Works r t [] h on_hold journal → Covers ws on_hold → CutsOpen c h.kept cut →
      Works r t (c ∷ ws) (kept.heard r (Bytes c piece cut) h) on_hold (journal ++ item.Heard (event.Bytes c piece) ∷ [])
  unfolding opens kept.heard
  works_bytes h on_hold ws journal c piece cut works covers fits =
      speaks_works h (kept.heard r (Bytes c piece cut) h) on_hold ws journal (event.Bytes c piece) (Bytes c piece cut) works covers refl refl (λ _. refl)
      (λ u taken keeps. Keeps-bytes r u taken h c piece cut keeps) (λ u taken stored keeps is. changes-bytes r u taken h c piece cut stored keeps is)
      (bytes-speaks r works.now c piece cut (cuts_open works.now _ h c cut works.tracks.keeps fits)) (bytes-opened r works.now c piece cut)
      (λ none. none_cut h.was_cut c piece cut (sym (cut_kept r h c piece cut (kept_of c h.kept) refl fits) ∙ none))
      (λ is. some_cut h.was_cut c piece cut (sym (cut_kept r h c piece cut (kept_of c h.kept) refl fits) ∙ is)) (few_kept r h c piece cut (kept_of c h.kept))

  pub works_ended : (h : Held T W) (on_hold ws : List ℕ) (journal : List Item) (c : ℕ) → Works r t [] h on_hold journal → Covers ws on_hold →
      Works r t (c ∷ ws) (kept.heard r (Ended c) h) on_hold (journal ++ item.Heard (event.Ended c) ∷ [])
  unfolding opens kept.heard step
  works_ended h on_hold ws journal c works covers =
      speaks_works h (kept.heard r (Ended c) h) on_hold ws journal (event.Ended c) (Ended c) works covers refl refl (λ _. refl)
      (λ u taken keeps. Keeps-ended r u taken h c keeps) (λ u taken stored keeps is. is) (end-speaks r works.now c) (end-opened r works.now c) (λ none. (none, refl)) (λ is. inl is) (let as_many = length-changed c closed h.kept in omega arith)

  -- after an event that is no step all that are on hold are due
  pub works_idle : (h : Held T W) (on_hold ws : List ℕ) (journal : List Item) (e : Event) → step_of_event e ≡ [] → ((d : ℕ) → opens d (item.Heard e) ≡ false) → Works r t [] h on_hold journal →
      Covers ws on_hold → Works r t ws h on_hold (journal ++ item.Heard e ∷ [])
  unfolding stored_at
  works_idle h on_hold ws journal e none no_opening works covers =
      let u = works.now in
      let after = journal ++ item.Heard e ∷ [] in
      let still : (d : ℕ) → Still d journal after = λ d. still-heard d journal e in
      record {
        steps = works.steps;
        now = u;
        tracks = tracks_stay r t works.steps u h h on_hold on_hold journal (item.Heard e) works.tracks (record {
          none = none;
          keeps = Keeps-as u _ _ h (λ d. ap length (sym (still d).taken)) works.tracks.keeps;
          unstored = unstored-still u.changes h.unstored journal (item.Heard e) refl works.tracks.unstored;
          holds = λ d. (still d).on_hold ∙ works.tracks.holds d;
          opens_none = no_opening;
          no_cut = refl;
          fronts = λ d. front_as journal after d (u.of d) (still d).taken (front_now r t works.steps u h on_hold journal works.tracks d);
          right = right_event h on_hold journal e works;
        });
        hung = λ d. (still d).hung ∙ works.hung d;
        unturned = works.unturned;
        placed = works.placed;
        stands = λ d apart. stands_free (u.of d).state journal after d (u.of d) (still d) (works.tracks.holds d ∙ covers.covers d apart) (works.stands d refl);
        replay = λ all. (let before = works.replay (all_taken-front journal (item.Heard e) all) in record { same = before.same; taken = λ d unheld. (still d).taken ∙ before.taken d unheld });
      }
