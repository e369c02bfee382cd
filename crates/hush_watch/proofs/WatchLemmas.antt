-- What a step shows of a hush: an opening, and an end.
use Rattle.std.proofs.Common.{◌≡◌, ◌≢◌, ℕ, ◌==◌, Bool, true, false, not, ◌&&◌, [], ◌∷◌, Option, Some, None, refl, ap, ap₂, sym, ◌∙◌, subst, arith}
use Rattle.std.specs.Prelude.{option_and_then}
use Rattle.std.specs.Option.{option_or}
use Rattle.std.proofs.lemmas.Bool.Decides.{nat_tests}
use Rattle.dir_tree.specs.dn_names.name.Names.{RdnSequence}
use Rattle.session_hub.specs.session_model.Run.{Step, Opened, Ended, step}
use Rattle.session_hub.specs.session_model.Replaying.{hung_up, step_and_hang_up, number_of}
use Rattle.session_hub.specs.session_model.AnsweredMessages.{answered_of_step}
use Rattle.session_hub.specs.session_model.Purging.{has_room}
use Rattle.session_hub.specs.session_model.Places.{asker_of, standing_after, is_turned_away, places_of_step}
use Rattle.session_hub.proofs.session_model_proofs.Theorems.{asks_kept}
use Rattle.session_hub.specs.Parties.{DirectoryEntries}
use Rattle.session_hub.specs.Terms.{no_terms}
use Rattle.session_hub.specs.Answering.{rules}
use Rattle.hush_laws.specs.declared.part.Part.{Part}
use Rattle.hush_laws.specs.declared.part.Part.TheVariants.{TurnedAway}
use Rattle.hush_laws.specs.declared.fault.Fault.{Fault}
use Rattle.hush_laws.specs.TwinParts.{failing_twins}
use Rattle.hush_laws.specs.Hush.{failing_opening, fault_at, first_fault}
use Rattle.hush_looks.specs.Looks.{failing_look, failing_standing}
use Rattle.hush_looks.proofs.Theorems.{opened-stays, ended-stays, none-fails}
use Rattle.hush_watch.specs.Served.{ServedSessions, ServedHeld, Holds, Hears, HangsUp}
use Rattle.hush_watch.specs.Watching.{fault_of, shown_by, Shows}
use Rattle.hush_watch.proofs.SessionLemmas.{asks-hung_up, tree-hung_up, asks-turned}

-- a step that is no piece of octets has one place
one_place-opened : (c h n : ℕ) (u : ServedSessions) → places_of_step (rules no_terms) (step_and_hang_up (rules no_terms)) c h u (Opened n)
    ≡ standing_after c h (is_turned_away c u (Opened n)) (step_and_hang_up (rules no_terms) u (Opened n)) ∷ []
unfolding places_of_step answered_of_step
one_place-opened c h n u = refl

one_place-ended : (c h n : ℕ) (u : ServedSessions) → places_of_step (rules no_terms) (step_and_hang_up (rules no_terms)) c h u (Ended n)
    ≡ standing_after c h false (step_and_hang_up (rules no_terms) u (Ended n)) ∷ []
unfolding places_of_step answered_of_step
one_place-ended c h n u = refl

module _ (c : ℕ) (top : RdnSequence) (before : DirectoryEntries) where
  abbrev fails : ServedSessions → Option Part
  fails = failing_standing top before c

  -- what is held tells what fails
  pub fails-held : (u : ServedSessions) (held : ServedHeld) → Holds u held → fails u ≡ failing_look c top before held.tree held.kept
  fails-held u held holds =
      ap₂ (λ tree asks. option_and_then (λ who. failing_twins top before tree who) asks) (sym holds.keeps.tree) (asks_kept u holds.taken held c holds.keeps)

  -- the same tree and who asks
  fails-same : (u v : ServedSessions) → u.tree ≡ v.tree → asker_of (u.of c) ≡ asker_of (v.of c) → fails u ≡ fails v
  fails-same u v tree asks = ap₂ (λ tree asks. option_and_then (λ who. failing_twins top before tree who) asks) tree asks

  fails-hung_up : (n : ℕ) (u : ServedSessions) → fails (hung_up (rules no_terms) n u) ≡ fails u
  fails-hung_up n u = fails-same (hung_up (rules no_terms) n u) u (tree-hung_up (rules no_terms) n u) (asks-hung_up (rules no_terms) n c u)

  fails-hanging_up : (u : ServedSessions) (next : Step) → fails (step_and_hang_up (rules no_terms) u next) ≡ fails (step (rules no_terms) u next)
  fails-hanging_up u next = fails-hung_up (number_of next) (step (rules no_terms) u next)

  -- one place
  fault-one : (h : ℕ) (turned : Bool) (u : ServedSessions) (part : Option Part) → option_or (fails u) (failing_opening turned) ≡ part
      → first_fault (fault_at top before) (standing_after c h turned u ∷ []) ≡ fault_of h part
  fault-one h turned u part is = alone (fault_of h (option_or (fails u) (failing_opening turned))) ∙ ap (fault_of h) is
    where
      alone : (fault : Option Fault) → option_or fault None ≡ fault
      alone None = refl
      alone (Some x) = refl

  pub shown-one : (h : ℕ) (turned : Bool) (u : ServedSessions) (next : Step) (part : Option Part)
      → places_of_step (rules no_terms) (step_and_hang_up (rules no_terms)) c h u next ≡ standing_after c h turned (step_and_hang_up (rules no_terms) u next) ∷ []
      → option_or (fails (step (rules no_terms) u next)) (failing_opening turned) ≡ part → shown_by c top before h u next ≡ fault_of h part
  shown-one h turned u next part places is =
      ap (first_fault (fault_at top before)) places
      ∙ fault-one h turned (step_and_hang_up (rules no_terms) u next) part (ap (λ x. option_or x (failing_opening turned)) (fails-hanging_up u next) ∙ is)

  -- another connection opens
  pub shows-opened_other : (n : ℕ) (old new : ServedHeld) → n ≢ c → Hears (Opened n) old new → Shows c top before (step (rules no_terms)) (Opened n) old None new
  unfolding Shows Hears
  shows-opened_other n old new differs hears u fresh watched =
      let none : fails (step (rules no_terms) u (Opened n)) ≡ None =
      none-fails top before c u (step (rules no_terms) u (Opened n)) (opened-stays no_terms c n u differs) watched.passes in
      let other : (n == c) ≡ false = grind (arith, nat_tests) in
      record {
        part = λ h. shown-one h (is_turned_away c u (Opened n)) u (Opened n) None (one_place-opened c h n u)
            (ap₂ (λ x b. option_or x (failing_opening (b && not (has_room u)))) none other);
        goes_on = λ is. record { holds = hears u fresh watched.holds; passes = none };
      }

  -- the connection opens: it finds no room
  pub shows-turned : (old new : ServedHeld) → Hears (Opened c) old new → ((u : ServedSessions) → Holds u old → has_room u ≡ false)
      → Shows c top before (step (rules no_terms)) (Opened c) old (Some TurnedAway) new
  unfolding Shows
  shows-turned old new hears full u fresh watched =
      let none : fails (step (rules no_terms) u (Opened c)) ≡ None =
      ap (λ asks. option_and_then (λ who. failing_twins top before (step (rules no_terms) u (Opened c)).tree who) asks) (asks-turned (rules no_terms) c u (full u watched.holds)) in
      let own : (c == c) ≡ true = grind (arith, nat_tests) in
      record {
        part = λ h. shown-one h (is_turned_away c u (Opened c)) u (Opened c) (Some TurnedAway) (one_place-opened c h c u)
            (ap (λ x. option_or x (failing_opening ((c == c) && not (has_room u)))) none ∙ ap₂ (λ b room. failing_opening (b && not room)) own (full u watched.holds));
        goes_on = λ is. absurd cc;
      }

  -- or it finds room
  pub shows-greeted : (old new : ServedHeld) (found : Option Part) → Hears (Opened c) old new → ((u : ServedSessions) → Holds u old → has_room u ≡ true)
      → found ≡ failing_look c top before new.tree new.kept → Shows c top before (step (rules no_terms)) (Opened c) old found new
  unfolding Shows Hears
  shows-greeted old new found hears room looked u fresh watched =
      let holds = hears u fresh watched.holds in
      let is : fails (step (rules no_terms) u (Opened c)) ≡ found = fails-held (step (rules no_terms) u (Opened c)) new holds ∙ sym looked in
      record {
        part = λ h. shown-one h (is_turned_away c u (Opened c)) u (Opened c) found (one_place-opened c h c u)
            (ap₂ (λ x room. option_or x (failing_opening ((c == c) && not room))) is (room u watched.holds) ∙ no_more (c == c) found);
        goes_on = λ none. record { holds = holds; passes = is ∙ none };
      }
    where
      no_more : (b : Bool) (part : Option Part) → option_or part (failing_opening (b && not true)) ≡ part
      no_more true None = refl
      no_more true (Some x) = refl
      no_more false None = refl
      no_more false (Some x) = refl

  -- so by the number that opens
  pub shows-turned_at : (n : ℕ) (old new : ServedHeld) → n ≡ c → Hears (Opened n) old new → ((u : ServedSessions) → Holds u old → has_room u ≡ false)
      → Shows c top before (step (rules no_terms)) (Opened n) old (Some TurnedAway) new
  shows-turned_at n old new same hears full =
      subst (λ m. Shows c top before (step (rules no_terms)) (Opened m) old (Some TurnedAway) new) (sym same) (shows-turned old new (subst (λ m. Hears (Opened m) old new) same hears) full)

  pub shows-greeted_at : (n : ℕ) (old new : ServedHeld) (found : Option Part) → n ≡ c → Hears (Opened n) old new → ((u : ServedSessions) → Holds u old → has_room u ≡ true)
      → found ≡ failing_look c top before new.tree new.kept → Shows c top before (step (rules no_terms)) (Opened n) old found new
  shows-greeted_at n old new found same hears room looked =
      subst (λ m. Shows c top before (step (rules no_terms)) (Opened m) old found new) (sym same) (shows-greeted old new found (subst (λ m. Hears (Opened m) old new) same hears) room looked)

  -- a connection's peer sends no more
  pub shows-ended : (n : ℕ) (old new : ServedHeld) → Hears (Ended n) old new → Shows c top before (step (rules no_terms)) (Ended n) old None new
  unfolding Shows Hears
  shows-ended n old new hears u fresh watched =
      let none : fails (step (rules no_terms) u (Ended n)) ≡ None =
      none-fails top before c u (step (rules no_terms) u (Ended n)) (ended-stays no_terms c n u) watched.passes in
      record {
        part = λ h. shown-one h false u (Ended n) None (one_place-ended c h n u) (ap (λ x. option_or x None) none);
        goes_on = λ is. record { holds = hears u fresh watched.holds; passes = none };
      }

  -- and then a connection that is to be hung up is let go
  pub shows-hanging_up : (next : Step) (old mid new : ServedHeld) (found : Option Part) → Shows c top before (step (rules no_terms)) next old found mid → HangsUp (number_of next) mid new
      → Shows c top before (step_and_hang_up (rules no_terms)) next old found new
  unfolding Shows HangsUp
  shows-hanging_up next old mid new found shows hangs u fresh watched =
      let shown = shows u fresh watched in
      record {
        part = shown.part;
        goes_on = λ none.
            let then = shown.goes_on none in
            record { holds = hangs (step (rules no_terms) u next) then.holds; passes = fails-hanging_up u next ∙ then.passes };
      }
