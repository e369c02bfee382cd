-- The items of a block: octets are taken of the first that is due, it is refused, held, released, done, or hung up.
use Rattle.std.proofs.Common.{◌≡◌, ◌≢◌, ◌≤◌, ◌+◌, ℕ, true, false, List, [], ◌∷◌, ◌++◌, length, drop, take, inl, refl, ap, sym, ◌∙◌, arith, subst, true≢false, length-append, append-nil}
use Rattle.std.proofs.lemmas.Bool.Decides.{nat_tests}
use Rattle.std.proofs.lemmas.List.{length-take-le}
use Rattle.wire_io.specs.declared.journal.Item.{Item}
use Rattle.wire_io.specs.declared.journal.Item.TheVariants as item
use Rattle.wire_io.specs.Journal.{taken_of, stored_of, is_hung_up, is_held}
use Rattle.wire_io.proofs.Theorems.{was_opened-quiet}
use Rattle.session_model.specs.Rules.{Rules}
use Rattle.session_model.specs.Run.{Session, Sessions, State, Away, Unopened, Step, HungUp, step, start, run}
use Rattle.session_model.specs.Run as session
use Rattle.session_model.specs.Kept.{Held, queue_of, closing_of, taken_off, forgotten}
use Rattle.session_model.specs.Keeping.{is_listed, more_taken}
use Rattle.session_model.specs.Journaled.{cuts_of, all_taken}
use Rattle.session_model.specs.Serving.{IsFront, unsent, Rightly, Stands, MayHangUp, IsServed, MayBeTaken}
use Rattle.session_model.specs.Replaying.{is_away, is_leaving}
use Rattle.session_model.specs.Working.{Tracks, Works, Replays, Refused, Puts, Covers, is_turned, cuts_in}
use Rattle.session_model.proofs.laws.JournalLemmas.{Still, IsAbout, still-about, still-later, unstored-still, all_taken-front, was_later-more, was_later-now, about-taken, about-later, about-held, about-released, about-hung_up, taken_of-taken, is_hung_up-taken, is_held-taken, taken_of-held, is_hung_up-held, is_held-held, taken_of-released, is_hung_up-released, is_held-released, taken_of-hung_up, is_hung_up-hung_up, is_held-hung_up}
use Rattle.session_model.proofs.laws.StepLemmas.{with_session-same, with_session-other, replayed-stay, run_from-one, cuts_of-one}
use Rattle.session_model.proofs.laws.StandLemmas.{at_numbers, Keeps-as, front_as, stands_more, stands_held, stands_done, all_sent, may_hang_up, leaving_held, not_unopened, taken_front, taken_fits}
use Rattle.session_model.proofs.laws.TrackLemmas.{Stays, RightlyNow, tracks_more, tracks_stay, front_now, leaving_now, unsent_now, held_now, cuts_in-one}
use Rattle.session_model.proofs.laws.KeptLemmas.{length-forgotten}
use Rattle.session_model.proofs.laws.KeepingLemmas.{Keeps-taken, Keeps-left}
use Rattle.session_model.proofs.laws.LeavingLemmas.{left_hung_up}
use Rattle.session_model.proofs.laws.EventLemmas.{not_due}

-- a list from which a number was taken that isn't in it
pub puts_none : (c : ℕ) (xs : List ℕ) → is_listed c xs ≡ false → Puts c false xs xs
puts_none c xs none = record { own = none; others = λ d differs. refl }

-- whoever is on hold is held still, once another isn't on hold any more
stays_placed : {T W : Type 0} (c : ℕ) (u : Sessions T W) (on_hold now_on_hold : List ℕ) → Puts c false on_hold now_on_hold →
    ((d : ℕ) → d ≢ c → is_listed d on_hold ≡ true → session.is_held (u.of d).state ≡ true) → (d : ℕ) → is_listed d now_on_hold ≡ true → session.is_held (u.of d).state ≡ true
stays_placed c u on_hold now_on_hold puts placed =
    at_numbers c (λ d. is_listed d now_on_hold ≡ true → session.is_held (u.of d).state ≡ true) (λ listed. absurd (true≢false (sym listed ∙ puts.own)))
    (λ d differs listed. placed d differs (sym (puts.others d differs) ∙ listed))

module _ {T W : Type 0} (r : Rules T W) (t : T) where
  -- whoever is due last may be said to stand as well
  works_drop : (c : ℕ) (due : List ℕ) (h : Held T W) (on_hold : List ℕ) (journal : List Item) → (works : Works r t (c ∷ due) h on_hold journal) →
      Stands (works.now.of c).state journal c (works.now.of c) → Works r t due h on_hold journal
  works_drop c due h on_hold journal works stands =
      record {
        steps = works.steps;
        now = works.now;
        tracks = works.tracks;
        hung = works.hung;
        unturned = works.unturned;
        placed = works.placed;
        stands = at_numbers c (λ d. is_listed d due ≡ false → Stands (works.now.of d).state journal d (works.now.of d)) (λ _. stands)
            (λ d differs apart. works.stands d (grind (arith, nat_tests)));
        replay = works.replay;
      }

  -- fewer may be said to stand
  pub works_as : (due more : List ℕ) (h : Held T W) (on_hold : List ℕ) (journal : List Item) → Covers more due → Works r t due h on_hold journal → Works r t more h on_hold journal
  works_as due more h on_hold journal covers works =
      record {
        steps = works.steps;
        now = works.now;
        tracks = works.tracks;
        hung = works.hung;
        unturned = works.unturned;
        placed = works.placed;
        stands = λ d apart. works.stands d (covers.covers d apart);
        replay = works.replay;
      }

  -- an item about the first that is due leaves the others as they stand
  works_item : (c : ℕ) (due : List ℕ) (h h' : Held T W) (on_hold now_on_hold : List ℕ) (journal : List Item) (i : Item) → (works : Works r t (c ∷ due) h on_hold journal) → IsAbout c i →
      ((d : ℕ) → is_listed d now_on_hold ≡ true → session.is_held (works.now.of d).state ≡ true) →
      Stays r t works.now h h' now_on_hold journal i → ((d : ℕ) → is_hung_up d (journal ++ i ∷ []) ≡ is_hung_up d journal) →
      ((d : ℕ) → session.is_held (works.now.of d).state ≡ false → taken_of d (journal ++ i ∷ []) ≡ taken_of d journal) →
      Works r t (c ∷ due) h' now_on_hold (journal ++ i ∷ [])
  works_item c due h h' on_hold now_on_hold journal i works about placed stays hung unheld =
      record {
        steps = works.steps;
        now = works.now;
        tracks = tracks_stay r t works.steps works.now h h' on_hold now_on_hold journal i works.tracks stays;
        hung = λ d. hung d ∙ works.hung d;
        unturned = works.unturned;
        placed = placed;
        stands = λ d apart. stands_more (works.now.of d).state journal (journal ++ i ∷ []) d (works.now.of d) (still-about c d journal i about (not_due d c due apart).0)
            (was_later-more d journal i about.events) (works.stands d apart);
        replay = λ all. (let before = works.replay (all_taken-front journal i all) in record { same = before.same; taken = λ d none. unheld d none ∙ before.taken d none });
      }

  -- octets of its queue are taken
  pub works_taken : (c : ℕ) (due : List ℕ) (h : Held T W) (on_hold : List ℕ) (journal : List Item) (n : ℕ) → Works r t (c ∷ due) h on_hold journal →
      h.unstored ≡ [] → queue_of c h.kept ≢ [] → n ≤ length (queue_of c h.kept) →
      Works r t (c ∷ due) (record h { kept = taken_off c n h.kept }) on_hold (journal ++ item.Taken c (take n (queue_of c h.kept)) ∷ [])
  unfolding Rightly RightlyNow
  works_taken c due h on_hold journal n works stored some fits =
      let u = works.now in
      let q = queue_of c h.kept in
      let piece = take n q in
      let i = item.Taken c piece in
      let after = journal ++ i ∷ [] in
      let about = about-taken c piece in
      let front : (d : ℕ) → IsFront journal d (u.of d) = λ d. front_now r t works.steps u h on_hold journal works.tracks d in
      let there = held_now r t works.steps u h on_hold journal works.tracks c some in
      let is : q ≡ drop (length (taken_of c journal)) (u.of c).reply = sym there.1 in
      let own : taken_of c after ≡ taken_of c journal ++ piece = taken_of-taken c journal piece in
      let other : (d : ℕ) → d ≢ c → taken_of d after ≡ taken_of d journal = λ d differs. (still-about c d journal i about differs).taken in
      let long : length piece ≡ n = length-take-le n q fits in
      works_item c due h (record h { kept = taken_off c n h.kept }) on_hold on_hold journal i works about works.placed (record {
        none = refl;
        keeps = Keeps-as u (more_taken c n (λ d. length (taken_of d journal))) _ _
            (at_numbers c (λ d. more_taken c n (λ e. length (taken_of e journal)) d ≡ length (taken_of d after))
            (grind (arith, nat_tests, ap length own, length-append (taken_of c journal) piece, long))
            (λ d differs. grind (arith, nat_tests, ap length (other d differs))))
            (Keeps-taken u (λ d. length (taken_of d journal)) h c n works.tracks.keeps (taken_fits (u.of c).reply (taken_of c journal) q n (front c) is fits));
        unstored = unstored-still u.changes h.unstored journal i about.stores works.tracks.unstored;
        holds = λ d. is_held-taken c d journal piece ∙ works.tracks.holds d;
        opens_none = about.opens_none;
        no_cut = refl;
        fronts = at_numbers c (λ d. IsFront after d (u.of d))
            (subst (λ xs. (u.of c).reply ≡ xs ++ drop (length xs) (u.of c).reply) (sym own) (taken_front (u.of c).reply (taken_of c journal) q n (front c) is fits))
            (λ d differs. front_as journal after d (u.of d) (other d differs) (front d));
        right = λ steps same. subst (λ (x : Sessions T W). MayBeTaken x journal c) (sym same)
            (record { stored = sym (works.tracks.unstored ∙ ap (λ xs. stored_of journal ++ xs) stored ∙ append-nil (stored_of journal)); served = there.0 });
      }) (λ d. is_hung_up-taken c d journal piece)
      (at_numbers c (λ d. session.is_held (u.of d).state ≡ false → taken_of d after ≡ taken_of d journal) (λ unheld. absurd (true≢false (sym there.0 ∙ unheld))) (λ d differs _. other d differs))

  -- it takes no more now
  pub works_refused : (c : ℕ) (due : List ℕ) (h : Held T W) (on_hold : List ℕ) (journal : List Item) → Works r t (c ∷ due) h on_hold journal → queue_of c h.kept ≢ [] →
      Refused r t c due h on_hold (journal ++ item.Later c ∷ [])
  unfolding Rightly RightlyNow
  works_refused c due h on_hold journal works some =
      let u = works.now in
      let still : (d : ℕ) → Still d journal (journal ++ item.Later c ∷ []) = λ d. still-later c d journal in
      record {
        works = works_item c due h h on_hold on_hold journal (item.Later c) works (about-later c) works.placed (record {
          none = refl;
          keeps = Keeps-as u _ _ h (λ d. ap length (sym (still d).taken)) works.tracks.keeps;
          unstored = unstored-still u.changes h.unstored journal (item.Later c) (about-later c).stores works.tracks.unstored;
          holds = λ d. (still d).on_hold ∙ works.tracks.holds d;
          opens_none = (about-later c).opens_none;
          no_cut = refl;
          fronts = λ d. front_as journal (journal ++ item.Later c ∷ []) d (u.of d) (still d).taken (front_now r t works.steps u h on_hold journal works.tracks d);
          right = λ steps same. subst (λ (x : Sessions T W). IsServed x c) (sym same) (held_now r t works.steps u h on_hold journal works.tracks c some).0;
        }) (λ d. (still d).hung) (λ d _. (still d).taken);
        queued = some;
        later = was_later-now c journal;
      }

  some_unsent : (c : ℕ) (due : List ℕ) (h : Held T W) (on_hold : List ℕ) (journal : List Item) → (works : Works r t (c ∷ due) h on_hold journal) → queue_of c h.kept ≢ [] →
      (session.is_held (works.now.of c).state ≡ true) × (unsent journal c (works.now.of c) ≢ [])
  some_unsent c due h on_hold journal works some =
      let there = held_now r t works.steps works.now h on_hold journal works.tracks c some in (there.0, λ none. some (sym there.1 ∙ none))

  -- refused while it is on hold, it stands
  pub refused_stands : (c : ℕ) (due : List ℕ) (h : Held T W) (on_hold : List ℕ) (journal : List Item) → Refused r t c due h on_hold journal → is_listed c on_hold ≡ true → Works r t due h on_hold journal
  refused_stands c due h on_hold journal refused listed =
      let works = refused.works in
      let some = some_unsent c due h on_hold journal works refused.queued in
      works_drop c due h on_hold journal works
      (stands_held (works.now.of c).state journal c (works.now.of c) some.0 some.1 refused.later (works.tracks.holds c ∙ listed))

  -- else it is put on hold
  pub refused_held : (c : ℕ) (due : List ℕ) (h : Held T W) (on_hold now_on_hold : List ℕ) (journal : List Item) → Refused r t c due h on_hold journal → Puts c true on_hold now_on_hold →
      Works r t due h now_on_hold (journal ++ item.Held c ∷ [])
  unfolding Rightly RightlyNow
  refused_held c due h on_hold now_on_hold journal refused puts =
      let works = refused.works in
      let u = works.now in
      let after = journal ++ item.Held c ∷ [] in
      let about = about-held c in
      let placed : (d : ℕ) → is_listed d now_on_hold ≡ true → session.is_held (u.of d).state ≡ true =
      at_numbers c (λ d. is_listed d now_on_hold ≡ true → session.is_held (u.of d).state ≡ true) (λ _. (some_unsent c due h on_hold journal works refused.queued).0)
      (λ d differs listed. works.placed d (sym (puts.others d differs) ∙ listed)) in
      let now = works_item c due h h on_hold now_on_hold journal (item.Held c) works about placed (record {
        none = refl;
        keeps = Keeps-as u _ _ h (λ d. ap length (sym (taken_of-held c d journal))) works.tracks.keeps;
        unstored = unstored-still u.changes h.unstored journal (item.Held c) about.stores works.tracks.unstored;
        holds = at_numbers c (λ d. is_held d after ≡ is_listed d now_on_hold) (is_held-held c journal ∙ sym puts.own)
            (λ d differs. (still-about c d journal (item.Held c) about differs).on_hold ∙ works.tracks.holds d ∙ sym (puts.others d differs));
        opens_none = about.opens_none;
        no_cut = refl;
        fronts = λ d. front_as journal after d (u.of d) (taken_of-held c d journal) (front_now r t works.steps u h on_hold journal works.tracks d);
        right = λ steps same. subst (λ (x : Sessions T W). IsServed x c) (sym same) (some_unsent c due h on_hold journal works refused.queued).0;
      }) (λ d. is_hung_up-held c d journal) (λ d _. taken_of-held c d journal) in
      let some = some_unsent c due h now_on_hold after now refused.queued in
      works_drop c due h now_on_hold after now
      (stands_held (now.now.of c).state after c (now.now.of c) some.0 some.1 (was_later-more c journal (item.Held c) about.events refused.later) (is_held-held c journal))

  -- it is released
  pub works_released : (c : ℕ) (due : List ℕ) (h : Held T W) (on_hold now_on_hold : List ℕ) (journal : List Item) → Works r t (c ∷ due) h on_hold journal → Puts c false on_hold now_on_hold →
      Works r t (c ∷ due) h now_on_hold (journal ++ item.Released c ∷ [])
  unfolding Rightly RightlyNow
  works_released c due h on_hold now_on_hold journal works puts =
      let u = works.now in
      let after = journal ++ item.Released c ∷ [] in
      let about = about-released c in
      works_item c due h h on_hold now_on_hold journal (item.Released c) works about (stays_placed c u on_hold now_on_hold puts (λ d _. works.placed d)) (record {
        none = refl;
        keeps = Keeps-as u _ _ h (λ d. ap length (sym (taken_of-released c d journal))) works.tracks.keeps;
        unstored = unstored-still u.changes h.unstored journal (item.Released c) about.stores works.tracks.unstored;
        holds = at_numbers c (λ d. is_held d after ≡ is_listed d now_on_hold) (is_held-released c journal ∙ sym puts.own)
            (λ d differs. (still-about c d journal (item.Released c) about differs).on_hold ∙ works.tracks.holds d ∙ sym (puts.others d differs));
        opens_none = about.opens_none;
        no_cut = refl;
        fronts = λ d. front_as journal after d (u.of d) (taken_of-released c d journal) (front_now r t works.steps u h on_hold journal works.tracks d);
        right = λ steps same. tt;
      }) (λ d. is_hung_up-released c d journal) (λ d _. taken_of-released c d journal)

  -- all of its queue was sent, it isn't on hold, and it goes on
  pub works_sent : (c : ℕ) (due : List ℕ) (h : Held T W) (on_hold : List ℕ) (journal : List Item) → Works r t (c ∷ due) h on_hold journal → queue_of c h.kept ≡ [] → is_listed c on_hold ≡ false →
      closing_of c h.kept ≡ false → Works r t due h on_hold journal
  works_sent c due h on_hold journal works empty free still =
      let u = works.now in
      works_drop c due h on_hold journal works
      (stands_done (u.of c).state journal c (u.of c) refl (leaving_now r t works.steps u h on_hold journal works.tracks c (works.unturned c) ∙ still)
      (unsent_now r t works.steps u h on_hold journal works.tracks c empty) (works.tracks.holds c ∙ free) (works.hung c))

  -- what is to be known of a connection that is hung up next, and of the others
  pub record Leaves (c : ℕ) (due : List ℕ) (steps : List Step) (u : Sessions T W) (h : Held T W) (on_hold : List ℕ) (journal : List Item) : Type 0 where
    pub tracks : Tracks r t steps u h on_hold journal
    pub opened : (u.of c).state ≢ Unopened
    pub may : MayHangUp (u.of c).state journal c (u.of c)
    pub hung : (d : ℕ) → d ≢ c → is_hung_up d journal ≡ is_away (u.of d).state
    pub unturned : (d : ℕ) → d ≢ c → is_turned (u.of d).state ≡ false
    pub placed : (d : ℕ) → d ≢ c → is_listed d on_hold ≡ true → session.is_held (u.of d).state ≡ true
    pub stands : (d : ℕ) → d ≢ c → is_listed d due ≡ false → Stands (u.of d).state journal d (u.of d)
    pub replay : all_taken journal ≡ true → Replays r t steps u journal × (is_leaving (u.of c).state ≡ true) × (taken_of c journal ≡ (u.of c).reply)

  -- it is hung up, and it isn't on hold any more
  pub leaves_works : (c : ℕ) (due : List ℕ) (steps : List Step) (u : Sessions T W) (h : Held T W) (on_hold now_on_hold : List ℕ) (journal : List Item) → Leaves c due steps u h on_hold journal →
      Puts c false on_hold now_on_hold → Works r t due (record h { kept = forgotten c h.kept }) now_on_hold (journal ++ item.HungUp c ∷ [])
  unfolding step Rightly RightlyNow
  leaves_works c due steps u h on_hold now_on_hold journal leaves puts =
      let s = HungUp c in
      let i = item.HungUp c in
      let v = step r u s in
      let after = journal ++ i ∷ [] in
      let away = record (u.of c) { state = Away } in
      let about = about-hung_up c in
      let is : v.of c ≡ away = with_session-same c away u.of in
      let other : (d : ℕ) → d ≢ c → v.of d ≡ u.of d = λ d differs. with_session-other c d away u.of differs in
      let still : (d : ℕ) → d ≢ c → Still d journal after = λ d differs. still-about c d journal i about differs in
      let taken : (d : ℕ) → taken_of d after ≡ taken_of d journal = λ d. taken_of-hung_up c d journal in
      let front : (d : ℕ) → IsFront journal d (u.of d) = λ d. front_now r t steps u h on_hold journal leaves.tracks d in
      let hung : (d : ℕ) → is_hung_up d after ≡ is_away (v.of d).state =
      at_numbers c (λ d. is_hung_up d after ≡ is_away (v.of d).state) (is_hung_up-hung_up c journal ∙ ap (λ (x : Session W). is_away x.state) (sym is))
      (λ d differs. (still d differs).hung ∙ leaves.hung d differs ∙ ap (λ (x : Session W). is_away x.state) (sym (other d differs))) in
      let holds : (d : ℕ) → is_held d after ≡ is_listed d now_on_hold =
      at_numbers c (λ d. is_held d after ≡ is_listed d now_on_hold) (is_held-hung_up c journal ∙ sym puts.own)
      (λ d differs. (still d differs).on_hold ∙ leaves.tracks.holds d ∙ sym (puts.others d differs)) in
      record {
        steps = steps ++ s ∷ [];
        now = v;
        tracks = tracks_more r t steps (s ∷ []) u v h (record h { kept = forgotten c h.kept }) on_hold now_on_hold journal i leaves.tracks (record {
          are = refl;
          goes = run_from-one r u s;
          keeps = Keeps-as v _ _ _ (λ d. ap length (sym (taken d))) (Keeps-left r u (λ d. length (taken_of d journal)) h c leaves.tracks.keeps);
          unstored = unstored-still u.changes h.unstored journal i about.stores leaves.tracks.unstored;
          holds = holds;
          opened = λ d. was_opened-quiet d journal i (about.opens_none d) ∙ leaves.tracks.opened d;
          fresh = at_numbers c (λ d. is_listed d v.opened ≡ false → (v.of d).state ≡ Unopened)
              (λ unlisted. absurd (leaves.opened (leaves.tracks.fresh c unlisted)))
              (λ d differs unlisted. ap (λ (x : Session W). x.state) (other d differs) ∙ leaves.tracks.fresh d unlisted);
          cuts = λ d. subst (λ n. n ≤ cuts_in (v.of d).state) (sym (cuts_of-one d steps s)) (at_numbers c (λ e. cuts_of e steps + 0 ≤ cuts_in (v.of e).state)
              (rw is (let a : cuts_of c steps ≤ cuts_in (u.of c).state = leaves.tracks.cuts c in let b = cuts_in-one (u.of c).state in omega arith))
              (λ e differs. rw (other e differs) (let a : cuts_of e steps ≤ cuts_in (u.of e).state = leaves.tracks.cuts e in omega arith)) d);
          no_cut = λ none. (none, refl);
          cut = λ cut. inl cut;
          few = (let fewer = length-forgotten c h.kept in let few = leaves.tracks.few in omega arith);
          fronts = at_numbers c (λ d. IsFront after d (v.of d))
              (subst (λ (x : Session W). IsFront after c x) (sym is) (front_as journal after c (u.of c) (taken c) (front c)))
              (λ d differs. subst (λ (x : Session W). IsFront after d x) (sym (other d differs)) (front_as journal after d (u.of d) (taken d) (front d)));
          right = λ others same. subst (λ (x : Sessions T W). MayHangUp (x.of c).state journal c (x.of c)) (sym same) leaves.may;
        });
        hung = hung;
        unturned = at_numbers c (λ d. is_turned (v.of d).state ≡ false) (ap (λ (x : Session W). is_turned x.state) is)
            (λ d differs. ap (λ (x : Session W). is_turned x.state) (other d differs) ∙ leaves.unturned d differs);
        placed = stays_placed c v on_hold now_on_hold puts (λ d differs listed. ap (λ (x : Session W). session.is_held x.state) (other d differs) ∙ leaves.placed d differs listed);
        stands = at_numbers c (λ d. is_listed d due ≡ false → Stands (v.of d).state after d (v.of d))
            (λ _. subst (λ (x : Session W). Stands x.state after c x) (sym is) (is_hung_up-hung_up c journal, is_held-hung_up c journal))
            (λ d differs apart. subst (λ (x : Session W). Stands x.state after d x) (sym (other d differs))
            (stands_more (u.of d).state journal after d (u.of d) (still d differs) (was_later-more d journal i about.events) (leaves.stands d differs apart)));
        replay = λ all. (let before = leaves.replay (all_taken-front journal i all) in record {
          same = replayed-stay r (start r t) steps s refl ∙ before.0.same ∙ sym (left_hung_up r c u before.1);
          taken = at_numbers c (λ d. session.is_held (v.of d).state ≡ false → taken_of d after ≡ (v.of d).reply)
              (λ _. taken c ∙ before.2 ∙ ap (λ (x : Session W). x.reply) (sym is))
              (λ d differs unheld. taken d ∙ before.0.taken d (ap (λ (x : Session W). session.is_held x.state) (sym (other d differs)) ∙ unheld) ∙ ap (λ (x : Session W). x.reply) (sym (other d differs)));
        });
      }

  -- all of its queue was sent, it isn't on hold, and it is hung up
  pub works_hung_up : (c : ℕ) (due : List ℕ) (h : Held T W) (on_hold : List ℕ) (journal : List Item) → Works r t (c ∷ due) h on_hold journal → queue_of c h.kept ≡ [] → is_listed c on_hold ≡ false →
      closing_of c h.kept ≡ true → Works r t due (record h { kept = forgotten c h.kept }) on_hold (journal ++ item.HungUp c ∷ [])
  works_hung_up c due h on_hold journal works empty free closing =
      let u = works.now in
      let leaving : is_leaving (u.of c).state ≡ true = leaving_now r t works.steps u h on_hold journal works.tracks c (works.unturned c) ∙ closing in
      let there : session.is_held (u.of c).state ≡ true = leaving_held (u.of c).state (works.unturned c) leaving in
      let none : unsent journal c (u.of c) ≡ [] = unsent_now r t works.steps u h on_hold journal works.tracks c empty there in
      leaves_works c due works.steps u h on_hold on_hold journal (record {
        tracks = works.tracks;
        opened = not_unopened (u.of c).state there;
        may = may_hang_up (u.of c).state journal c (u.of c) leaving none;
        hung = λ d _. works.hung d;
        unturned = λ d _. works.unturned d;
        placed = λ d _. works.placed d;
        stands = λ d differs apart. works.stands d (grind (arith, nat_tests));
        replay = λ all. (works.replay all, leaving, all_sent journal c (u.of c) (front_now r t works.steps u h on_hold journal works.tracks c) none);
      }) (puts_none c on_hold free)
