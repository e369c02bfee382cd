-- A connection that was found lost is forgotten and hung up.
use Rattle.std.proofs.Common.{◌≡◌, ◌≢◌, ◌≤◌, ◌+◌, ℕ, Bool, true, false, List, [], ◌∷◌, ◌++◌, length, inl, refl, ap, sym, ◌∙◌, arith, subst, true≢false, ◌&&◌}
use Rattle.std.proofs.lemmas.Bool.Decides.{nat_tests}
use Rattle.wire_io.specs.declared.journal.Item.{Item}
use Rattle.wire_io.specs.declared.journal.Item.TheVariants as item
use Rattle.wire_io.specs.Journal.{taken_of}
use Rattle.wire_io.proofs.Theorems.{was_opened-quiet}
use Rattle.session_model.specs.Rules.{Rules}
use Rattle.session_model.specs.Run.{Session, Sessions, State, Away, Unopened, Step, Gone, step}
use Rattle.session_model.specs.Run as session
use Rattle.session_model.specs.Kept.{Kept, Held, queue_of, forgotten}
use Rattle.session_model.specs.Keeping.{is_listed}
use Rattle.session_model.specs.Journaled.{cuts_of, all_taken}
use Rattle.session_model.specs.Serving.{IsFront, Rightly, Stands, MayHangUp, Leads, IsServed}
use Rattle.session_model.specs.Replaying.{is_away}
use Rattle.session_model.specs.Working.{Tracks, Works, Lost, Puts, is_turned, cuts_in}
use Rattle.session_model.proofs.laws.JournalLemmas.{Still, still-gone, unstored-still, all_taken-one, was_later-more, about-gone}
use Rattle.session_model.proofs.laws.StepLemmas.{with_session-same, with_session-other, run_from-one, cuts_of-one}
use Rattle.session_model.proofs.laws.StandLemmas.{at_numbers, Keeps-as, front_as, stands_more, not_unopened, held_not_away}
use Rattle.session_model.proofs.laws.TrackLemmas.{RightlyNow, tracks_more, front_now, held_now, cuts_in-one}
use Rattle.session_model.proofs.laws.KeptLemmas.{length-forgotten}
use Rattle.session_model.proofs.laws.KeepingLemmas.{Keeps-left}
use Rattle.session_model.proofs.laws.ItemLemmas.{leaves_works}

-- what is forgotten can be forgotten again
forgotten_twice : {W : Type 0} (c : ℕ) (ks : List (Kept W)) → forgotten c (forgotten c ks) ≡ forgotten c ks
forgotten_twice c [] = refl
forgotten_twice c (k ∷ ks) = grind (arith, nat_tests, forgotten_twice c ks)

module _ {T W : Type 0} (r : Rules T W) (t : T) where
  -- what is tracked once it was found lost
  tracks_gone : (c : ℕ) (steps : List Step) (u : Sessions T W) (h : Held T W) (on_hold : List ℕ) (journal : List Item) → Tracks r t steps u h on_hold journal → session.is_held (u.of c).state ≡ true →
      Tracks r t (steps ++ Gone c ∷ []) (step r u (Gone c)) (record h { kept = forgotten c h.kept }) on_hold (journal ++ item.Gone c ∷ [])
  unfolding step Rightly RightlyNow
  tracks_gone c steps u h on_hold journal tracks there =
      let s = Gone c in
      let i = item.Gone c in
      let v = step r u s in
      let after = journal ++ i ∷ [] in
      let away = record (u.of c) { state = Away } in
      let is : v.of c ≡ away = with_session-same c away u.of in
      let other : (d : ℕ) → d ≢ c → v.of d ≡ u.of d = λ d differs. with_session-other c d away u.of differs in
      let still : (d : ℕ) → Still d journal after = λ d. still-gone c d journal in
      let front : (d : ℕ) → IsFront journal d (u.of d) = λ d. front_now r t steps u h on_hold journal tracks d in
      tracks_more r t steps (s ∷ []) u v h (record h { kept = forgotten c h.kept }) on_hold on_hold journal i tracks (record {
        are = refl;
        goes = run_from-one r u s;
        keeps = Keeps-as v _ _ _ (λ d. ap length (sym (still d).taken)) (Keeps-left r u (λ d. length (taken_of d journal)) h c tracks.keeps);
        unstored = unstored-still u.changes h.unstored journal i (about-gone c).stores tracks.unstored;
        holds = λ d. (still d).on_hold ∙ tracks.holds d;
        opened = λ d. was_opened-quiet d journal i ((about-gone c).opens_none d) ∙ tracks.opened d;
        fresh = at_numbers c (λ d. is_listed d v.opened ≡ false → (v.of d).state ≡ Unopened)
            (λ unlisted. absurd (not_unopened (u.of c).state there (tracks.fresh c unlisted)))
            (λ d differs unlisted. ap (λ (x : Session W). x.state) (other d differs) ∙ tracks.fresh d unlisted);
        cuts = λ d. subst (λ n. n ≤ cuts_in (v.of d).state) (sym (cuts_of-one d steps s)) (at_numbers c (λ e. cuts_of e steps + 0 ≤ cuts_in (v.of e).state)
            (rw is (let a : cuts_of c steps ≤ cuts_in (u.of c).state = tracks.cuts c in let b = cuts_in-one (u.of c).state in omega arith))
            (λ e differs. rw (other e differs) (let a : cuts_of e steps ≤ cuts_in (u.of e).state = tracks.cuts e in omega arith)) d);
        no_cut = λ none. (none, refl);
        cut = λ cut. inl cut;
        few = (let fewer = length-forgotten c h.kept in let few = tracks.few in omega arith);
        fronts = at_numbers c (λ d. IsFront after d (v.of d))
            (subst (λ (x : Session W). IsFront after c x) (sym is) (front_as journal after c (u.of c) (still c).taken (front c)))
            (λ d differs. subst (λ (x : Session W). IsFront after d x) (sym (other d differs)) (front_as journal after d (u.of d) (still d).taken (front d)));
        right = λ others same. subst (λ (x : Sessions T W). IsServed x c) (sym same) there;
      })

  -- of a connection with octets queued
  lost_opened : (c : ℕ) (due : List ℕ) (h : Held T W) (on_hold : List ℕ) (journal : List Item) → (works : Works r t (c ∷ due) h on_hold journal) → queue_of c h.kept ≢ [] →
      session.is_held (works.now.of c).state ≡ true
  lost_opened c due h on_hold journal works some = (held_now r t works.steps works.now h on_hold journal works.tracks c some).0

  -- the journal is right so far
  pub lost_leads : (c : ℕ) (due : List ℕ) (h : Held T W) (on_hold : List ℕ) (journal : List Item) → Lost r t c due h on_hold journal → Leads r t h.tree journal
  lost_leads c due h on_hold journal lost =
      let works = lost.works in
      let tracks = tracks_gone c works.steps works.now h on_hold lost.before works.tracks (lost_opened c due h on_hold lost.before works lost.queued) in
      subst (Leads r t h.tree) (sym lost.last)
      (record { steps = works.steps ++ Gone c ∷ []; sound = tracks.sound; tree_left = tracks.keeps.tree ∙ ap (λ (x : Sessions T W). x.tree) (sym tracks.is) })

  refusal_is : (journal : List Item) (c : ℕ) → all_taken (journal ++ item.Gone c ∷ []) ≡ true → ⊥
  refusal_is journal c all = true≢false (sym all ∙ all_taken-one journal (item.Gone c) ∙ both_false (all_taken journal))
    where
      both_false : (b : Bool) → (b && false) ≡ false
      both_false true = refl
      both_false false = refl

  -- it is hung up
  pub lost_hung_up : (c : ℕ) (due : List ℕ) (h : Held T W) (on_hold now_on_hold : List ℕ) (journal : List Item) → Lost r t c due h on_hold journal → Puts c false on_hold now_on_hold →
      Works r t due (record h { kept = forgotten c h.kept }) now_on_hold (journal ++ item.HungUp c ∷ [])
  unfolding step
  lost_hung_up c due h on_hold now_on_hold journal lost puts =
      subst (λ j. Works r t due (record h { kept = forgotten c h.kept }) now_on_hold (j ++ item.HungUp c ∷ [])) (sym lost.last)
      (subst (λ ks. Works r t due (record h { kept = ks }) now_on_hold ((lost.before ++ item.Gone c ∷ []) ++ item.HungUp c ∷ [])) (forgotten_twice c h.kept)
      (from_before lost.before lost.works lost.queued))
    where
      from_before : (journal : List Item) → (works : Works r t (c ∷ due) h on_hold journal) → queue_of c h.kept ≢ [] →
          Works r t due (record h { kept = forgotten c (forgotten c h.kept) }) now_on_hold ((journal ++ item.Gone c ∷ []) ++ item.HungUp c ∷ [])
      from_before journal works some =
          let u = works.now in
          let v = step r u (Gone c) in
          let i = item.Gone c in
          let after = journal ++ i ∷ [] in
          let away = record (u.of c) { state = Away } in
          let is : v.of c ≡ away = with_session-same c away u.of in
          let other : (d : ℕ) → d ≢ c → v.of d ≡ u.of d = λ d differs. with_session-other c d away u.of differs in
          let still : (d : ℕ) → Still d journal after = λ d. still-gone c d journal in
          let there = lost_opened c due h on_hold journal works some in
          leaves_works r t c due (works.steps ++ Gone c ∷ []) v (record h { kept = forgotten c h.kept }) on_hold now_on_hold after (record {
            tracks = tracks_gone c works.steps u h on_hold journal works.tracks there;
            opened = λ e. away_opened (ap (λ (x : Session W). x.state) (sym is) ∙ e);
            may = subst (λ (x : Session W). MayHangUp x.state after c x) (sym is) ((still c).hung ∙ works.hung c ∙ held_not_away (u.of c).state there);
            hung = λ d differs. (still d).hung ∙ works.hung d ∙ ap (λ (x : Session W). is_away x.state) (sym (other d differs));
            unturned = λ d differs. ap (λ (x : Session W). is_turned x.state) (other d differs) ∙ works.unturned d;
            placed = λ d differs listed. ap (λ (x : Session W). session.is_held x.state) (other d differs) ∙ works.placed d listed;
            stands = λ d differs apart. subst (λ (x : Session W). Stands x.state after d x) (sym (other d differs))
                (stands_more (u.of d).state journal after d (u.of d) (still d) (was_later-more d journal i (about-gone c).events) (works.stands d (grind (arith, nat_tests))));
            replay = λ all. absurd (refusal_is journal c all);
          }) puts
        where
          away_opened : Away ≡ Unopened → ⊥
          away_opened e = cc
