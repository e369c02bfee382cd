-- A connection that opens begins a block where there is room; where there is none it is hung up at once.
use Rattle.std.proofs.Common.{◌≡◌, ◌≢◌, ◌≤◌, ◌+◌, ℕ, nat_lt, Bool, true, false, cond, not, ◌||◌, inl, List, [], ◌∷◌, ◌++◌, length, length-append, refl, ap, sym, ◌∙◌, append-nil, arith, subst}
use Rattle.std.proofs.lemmas.Bool.Decides.{nat_tests}
use Rattle.wire_io.specs.declared.journal.Event.TheVariants as event
use Rattle.wire_io.specs.declared.journal.Item.{Item}
use Rattle.wire_io.specs.declared.journal.Item.TheVariants as item
use Rattle.wire_io.specs.Journal.{taken_of, stored_at, is_hung_up, was_opened, opens}
use Rattle.session_model.specs.Rules.{Rules}
use Rattle.session_model.specs.Run.{Session, Sessions, Open, TurnedAway, Unopened, Step, Opened, step, start, held_numbers, most_held, newcomer}
use Rattle.session_model.specs.Run as session
use Rattle.session_model.specs.Kept.{Kept, Held, forgotten, is_kept, kept_of, opened_kept}
use Rattle.session_model.specs.Kept as kept
use Rattle.session_model.specs.Keeping.{is_listed}
use Rattle.session_model.specs.Journaled.{cuts_of, all_taken}
use Rattle.session_model.specs.Serving.{IsFront, Rightly, Stands, MayHangUp, Leads}
use Rattle.session_model.specs.Replaying.{is_away, is_leaving, hung_up}
use Rattle.session_model.specs.Working.{Tracks, Works, Replays, Covers, is_turned, cuts_in}
use Rattle.session_model.proofs.laws.JournalLemmas.{Still, still-heard, unstored-still, was_opened-one, all_taken-front}
use Rattle.session_model.proofs.laws.HeldLemmas.{is_listed-append}
use Rattle.session_model.proofs.laws.StepLemmas.{with_session-same, with_session-other, replayed-more, run_from-one, cuts_of-one}
use Rattle.session_model.proofs.laws.StandLemmas.{at_numbers, Keeps-as, front_as, front_more, stands_free, stands_unleaving}
use Rattle.session_model.proofs.laws.TrackLemmas.{RightlyNow, tracks_more, front_now, settled_now}
use Rattle.session_model.proofs.laws.LeavingLemmas.{unleaving_same, one_left}
use Rattle.session_model.proofs.laws.KeepingLemmas.{Keeps-opened, length-kept}
use Rattle.session_model.proofs.laws.EventLemmas.{not_due}
use Rattle.session_model.proofs.laws.ItemLemmas.{leaves_works, puts_none}

pub none_taken : (xs : List ℕ) → length xs ≤ 0 → xs ≡ []
none_taken [] h = refl
none_taken (x ∷ xs) h = absurd (omega arith)

-- one more is held where there is room
with_room : {W : Type 0} (there : Bool) (ks : List (Kept W)) (k : Kept W) → length ks ≤ most_held →
    length (cond (there || not (nat_lt (length ks) most_held)) ks (ks ++ k ∷ [])) ≤ most_held
with_room true ks k few = few
with_room false ks k few = by_room (nat_lt (length ks) most_held) refl
  where
    by_room : (b : Bool) → nat_lt (length ks) most_held ≡ b → length (cond (not b) ks (ks ++ k ∷ [])) ≤ most_held
    by_room true room = let more = length-append ks (k ∷ []) in grind (arith, nat_tests)
    by_room false full = few

module _ {T W : Type 0} (r : Rules T W) (t : T) where
  -- what is known of sessions in which another has just opened
  record HasOpened (c : ℕ) (room : Bool) (h : Held T W) (on_hold : List ℕ) (journal : List Item) (steps : List Step) (u v : Sessions T W) : Type 0 where
    pub tracks : Tracks r t (steps ++ Opened c ∷ []) v (kept.heard r (Opened c) h) on_hold (journal ++ item.Heard (event.Opened c) ∷ [])
    pub state : (v.of c).state ≡ cond room Open TurnedAway
    pub reply : (v.of c).reply ≡ []
    pub taken : taken_of c (journal ++ item.Heard (event.Opened c) ∷ []) ≡ []
    pub other : (d : ℕ) → d ≢ c → v.of d ≡ u.of d
    pub free : is_listed c on_hold ≡ false

  opened_tracks : (h : Held T W) (on_hold : List ℕ) (journal : List Item) (c : ℕ) → was_opened c journal ≡ false → (works : Works r t [] h on_hold journal) →
      HasOpened c (nat_lt (length h.kept) most_held) h on_hold journal works.steps works.now (step r works.now (Opened c))
  unfolding step opens stored_at Rightly RightlyNow kept.heard
  opened_tracks h on_hold journal c new works =
      let u = works.now in
      let i = item.Heard (event.Opened c) in
      let room = nat_lt (length (held_numbers u)) most_held in
      let s = newcomer r (length (held_numbers u)) in
      let v = step r u (Opened c) in
      let after = journal ++ i ∷ [] in
      let still : (d : ℕ) → Still d journal after = λ d. still-heard d journal (event.Opened c) in
      let unlisted : is_listed c u.opened ≡ false = sym (works.tracks.opened c) ∙ new in
      let empty : (u.of c).reply ≡ [] = (works.tracks.keeps.unopened c unlisted).0 in
      let unopened : (u.of c).state ≡ Unopened = works.tracks.fresh c unlisted in
      let is : v.of c ≡ s = with_session-same c s u.of in
      let other : (d : ℕ) → d ≢ c → v.of d ≡ u.of d = λ d differs. with_session-other c d s u.of differs in
      let reply : (v.of c).reply ≡ [] = ap (λ (x : Session W). x.reply) is in
      let front : (d : ℕ) → IsFront journal d (u.of d) = λ d. front_now r t works.steps u h on_hold journal works.tracks d in
      let taken : taken_of c journal ≡ [] = none_taken (taken_of c journal) (subst (λ xs. length (taken_of c journal) ≤ length xs) empty (works.tracks.keeps.within c)) in
      let same_room : room ≡ nat_lt (length h.kept) most_held = ap (λ n. nat_lt n most_held) (sym (length-kept r u (λ d. length (taken_of d journal)) h works.tracks.keeps)) in
      let free : Stands Unopened journal c (u.of c) = subst (λ st. Stands st journal c (u.of c)) unopened (works.stands c refl) in
      record {
        tracks = tracks_more r t works.steps (Opened c ∷ []) u v h (kept.heard r (Opened c) h) on_hold on_hold journal i works.tracks (record {
          are = refl;
          goes = run_from-one r u (Opened c);
          keeps = Keeps-as v _ _ (kept.heard r (Opened c) h) (λ d. ap length (sym (still d).taken)) (Keeps-opened r u (λ d. length (taken_of d journal)) h c works.tracks.keeps unlisted);
          unstored = unstored-still u.changes h.unstored journal i refl works.tracks.unstored;
          holds = λ d. (still d).on_hold ∙ works.tracks.holds d;
          opened = λ d. was_opened-one d journal i ∙ (let before : was_opened d journal ≡ is_listed d u.opened = works.tracks.opened d in grind (arith, nat_tests, is_listed-append d u.opened c));
          fresh = at_numbers c (λ d. is_listed d v.opened ≡ false → (v.of d).state ≡ Unopened)
              (λ listed. absurd (grind (arith, nat_tests, is_listed-append c u.opened c)))
              (λ d differs listed. ap (λ (x : Session W). x.state) (other d differs) ∙ works.tracks.fresh d (grind (arith, nat_tests, is_listed-append d u.opened c)));
          cuts = λ d. subst (λ n. n ≤ cuts_in (v.of d).state) (sym (cuts_of-one d works.steps (Opened c))) (at_numbers c (λ e. cuts_of e works.steps + 0 ≤ cuts_in (v.of e).state)
              (let a : cuts_of c works.steps ≤ 0 = subst (λ st. cuts_of c works.steps ≤ cuts_in st) unopened (works.tracks.cuts c) in omega arith)
              (λ e differs. rw (other e differs) (let a : cuts_of e works.steps ≤ cuts_in (u.of e).state = works.tracks.cuts e in omega arith)) d);
          no_cut = λ none. (no_cut_opened none, refl);
          cut = λ cut. inl (cut_opened cut);
          few = few_opened works.tracks.few;
          fronts = at_numbers c (λ d. IsFront after d (v.of d))
              (front_more journal after c (u.of c) (v.of c) [] (still c).taken (front c) (reply ∙ sym empty ∙ sym (append-nil (u.of c).reply)))
              (λ d differs. subst (λ (x : Session W). IsFront after d x) (sym (other d differs)) (front_as journal after d (u.of d) (still d).taken (front d)));
          right = λ steps same. settled_now r t steps u journal same (λ d. works.stands d refl);
        });
        state = ap (λ (x : Session W). x.state) is ∙ ap (λ b. cond b Open TurnedAway) same_room;
        reply = reply;
        taken = (still c).taken ∙ taken;
        other = other;
        free = sym (works.tracks.holds c) ∙ free;
      }
    where
      no_cut_opened : (kept.heard r (Opened c) h).was_cut ≡ false → h.was_cut ≡ false
      no_cut_opened none = none

      cut_opened : (kept.heard r (Opened c) h).was_cut ≡ true → h.was_cut ≡ true
      cut_opened cut = cut

      few_opened : length h.kept ≤ most_held → length (kept.heard r (Opened c) h).kept ≤ most_held
      few_opened few = with_room (is_kept (kept_of c h.kept)) h.kept (opened_kept r c) few

  -- the journal is right so far
  pub opened_leads : (h : Held T W) (on_hold : List ℕ) (journal : List Item) (c : ℕ) → was_opened c journal ≡ false → Works r t [] h on_hold journal →
      Leads r t h.tree (journal ++ item.Heard (event.Opened c) ∷ [])
  unfolding kept.heard
  opened_leads h on_hold journal c new works =
      let tracks = (opened_tracks h on_hold journal c new works).tracks in
      record { steps = works.steps ++ Opened c ∷ []; sound = tracks.sound; tree_left = tracks.keeps.tree ∙ ap (λ (x : Sessions T W). x.tree) (sym tracks.is) }

  replays_opened : (h : Held T W) (on_hold : List ℕ) (journal : List Item) (c : ℕ) → was_opened c journal ≡ false → (works : Works r t [] h on_hold journal) →
      all_taken (journal ++ item.Heard (event.Opened c) ∷ []) ≡ true →
      Replays r t (works.steps ++ Opened c ∷ []) (step r works.now (Opened c)) (journal ++ item.Heard (event.Opened c) ∷ [])
  replays_opened h on_hold journal c new works all =
      let u = works.now in
      let v = step r u (Opened c) in
      let after = journal ++ item.Heard (event.Opened c) ∷ [] in
      let all_before = all_taken-front journal (item.Heard (event.Opened c)) all in
      let before = works.replay all_before in
      let has = opened_tracks h on_hold journal c new works in
      let unleaving : (d : ℕ) → is_leaving (u.of d).state ≡ false = λ d. stands_unleaving (u.of d).state journal d (u.of d) all_before (works.stands d refl) in
      record {
        same = replayed-more r (start r t) works.steps (Opened c) refl ∙ ap (λ (x : Sessions T W). hung_up r c (step r x (Opened c))) (before.same ∙ unleaving_same u unleaving)
            ∙ sym (one_left r c v (λ d differs. ap (λ (x : Session W). is_leaving x.state) (has.other d differs) ∙ unleaving d));
        taken = at_numbers c (λ d. session.is_held (v.of d).state ≡ false → taken_of d after ≡ (v.of d).reply)
            (λ _. has.taken ∙ sym has.reply)
            (λ d differs unheld. (still-heard d journal (event.Opened c)).taken ∙ before.taken d (ap (λ (x : Session W). session.is_held x.state) (sym (has.other d differs)) ∙ unheld) ∙ ap (λ (x : Session W). x.reply) (sym (has.other d differs)));
      }

  -- where there is room the connection is due, and all that are on hold
  pub works_opened : (h : Held T W) (on_hold ws : List ℕ) (journal : List Item) (c : ℕ) → was_opened c journal ≡ false → Works r t [] h on_hold journal → Covers ws on_hold →
      nat_lt (length h.kept) most_held ≡ true → Works r t (c ∷ ws) (kept.heard r (Opened c) h) on_hold (journal ++ item.Heard (event.Opened c) ∷ [])
  works_opened h on_hold ws journal c new works covers room =
      let u = works.now in
      let v = step r u (Opened c) in
      let after = journal ++ item.Heard (event.Opened c) ∷ [] in
      let still : (d : ℕ) → Still d journal after = λ d. still-heard d journal (event.Opened c) in
      let has = opened_tracks h on_hold journal c new works in
      let is_open : (v.of c).state ≡ Open = has.state ∙ ap (λ b. cond b Open TurnedAway) room in
      let unlisted : is_listed c u.opened ≡ false = sym (works.tracks.opened c) ∙ new in
      record {
        steps = works.steps ++ Opened c ∷ [];
        now = v;
        tracks = has.tracks;
        hung = at_numbers c (λ d. is_hung_up d after ≡ is_away (v.of d).state)
            ((still c).hung ∙ works.hung c ∙ ap is_away (works.tracks.fresh c unlisted) ∙ sym (ap is_away is_open))
            (λ d differs. (still d).hung ∙ works.hung d ∙ ap (λ (x : Session W). is_away x.state) (sym (has.other d differs)));
        unturned = at_numbers c (λ d. is_turned (v.of d).state ≡ false) (ap is_turned is_open) (λ d differs. ap (λ (x : Session W). is_turned x.state) (has.other d differs) ∙ works.unturned d);
        placed = at_numbers c (λ d. is_listed d on_hold ≡ true → session.is_held (v.of d).state ≡ true) (λ _. ap session.is_held is_open)
            (λ d differs listed. ap (λ (x : Session W). session.is_held x.state) (has.other d differs) ∙ works.placed d listed);
        stands = λ d apart. (let is = not_due d c ws apart in
            subst (λ (x : Session W). Stands x.state after d x) (sym (has.other d is.0))
            (stands_free (u.of d).state journal after d (u.of d) (still d) (works.tracks.holds d ∙ covers.covers d is.1) (works.stands d refl)));
        replay = replays_opened h on_hold journal c new works;
      }

  -- where there is none it is hung up
  pub works_turned : (h : Held T W) (on_hold ws : List ℕ) (journal : List Item) (c : ℕ) → was_opened c journal ≡ false → Works r t [] h on_hold journal → Covers ws on_hold →
      nat_lt (length h.kept) most_held ≡ false →
      Works r t ws (let now = kept.heard r (Opened c) h in record now { kept = forgotten c now.kept }) on_hold ((journal ++ item.Heard (event.Opened c) ∷ []) ++ item.HungUp c ∷ [])
  works_turned h on_hold ws journal c new works covers full =
      let u = works.now in
      let v = step r u (Opened c) in
      let after = journal ++ item.Heard (event.Opened c) ∷ [] in
      let still : (d : ℕ) → Still d journal after = λ d. still-heard d journal (event.Opened c) in
      let has = opened_tracks h on_hold journal c new works in
      let turned : (v.of c).state ≡ TurnedAway = has.state ∙ ap (λ b. cond b Open TurnedAway) full in
      leaves_works r t c ws (works.steps ++ Opened c ∷ []) v (kept.heard r (Opened c) h) on_hold on_hold after (record {
        tracks = has.tracks;
        opened = λ e. turned_opened (sym turned ∙ e);
        may = subst (λ st. MayHangUp st after c (v.of c)) (sym turned) tt;
        hung = λ d differs. (still d).hung ∙ works.hung d ∙ ap (λ (x : Session W). is_away x.state) (sym (has.other d differs));
        unturned = λ d differs. ap (λ (x : Session W). is_turned x.state) (has.other d differs) ∙ works.unturned d;
        placed = λ d differs listed. ap (λ (x : Session W). session.is_held x.state) (has.other d differs) ∙ works.placed d listed;
        stands = λ d differs apart. subst (λ (x : Session W). Stands x.state after d x) (sym (has.other d differs))
            (stands_free (u.of d).state journal after d (u.of d) (still d) (works.tracks.holds d ∙ covers.covers d apart) (works.stands d refl));
        replay = λ all. (replays_opened h on_hold journal c new works all, ap is_leaving turned, has.taken ∙ sym has.reply);
      }) (puts_none c on_hold has.free)
    where
      turned_opened : TurnedAway ≡ Unopened → ⊥
      turned_opened e = cc
