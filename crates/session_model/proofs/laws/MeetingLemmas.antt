-- What a connection meets where each of its places passes tests.
use Rattle.std.proofs.Common.{◌≡◌, ℕ, Bool, true, false, not, ◌&&◌, ◌||◌, cond, List, [], ◌∷◌, map, Option, Some, None, refl, sym, subst, arith}
use Rattle.std.specs.List.{AllByRecursion}
use Rattle.std.specs.Option.{option_map_or}
use Rattle.std.proofs.lemmas.Bool.{and_parts, and_from}
use Rattle.std.proofs.lemmas.Bool.Decides.{nat_tests}
use Rattle.session_model.specs.Rules.{Rules, up_to}
use Rattle.session_model.specs.Run.{Sessions, State, Open, Closing, TurnedAway, Away, Unopened, Step, Opened, Bytes, Ended, Gone, HungUp, step, start, new_messages}
use Rattle.session_model.specs.Replaying.{step_and_hang_up}
use Rattle.session_model.specs.AnsweredMessages.{answered_messages, answered_of_piece, answered_of_step}
use Rattle.session_model.specs.Purging.{is_of, is_opening, has_room, finds_room, finds_room_by, answered_of_connection, answered_of_connection_by, finds_room_in_replay, answered_in_replay}
use Rattle.session_model.specs.Places.{Place, IsPassing, passes, asker, asker_of, standing, standing_after, heard_with, is_turned_away, behind_own, behind_other, places_within, places_of_step, places_from, places, places_of_replay}
use Rattle.session_model.proofs.laws.AlikeLemmas.{all_append, all_both}

-- a connection that isn't turned away finds room if it opens
room_of : (opens room : Bool) → not (opens && not room) ≡ true → (not opens || room) ≡ true
room_of true true h = refl
room_of true false h = cc
room_of false room h = refl

module _ {T W : Type 0} (r : Rules T W) (allows : T → W → Bool) (reads : List ℕ → Bool) (c : ℕ) where
  -- who asks over the tree is allowed to
  abbrev MayAsk : T → Option W → Type 0
  MayAsk t asks = option_map_or (λ w. allows t w) asks true ≡ true

  abbrev Passes : Place T W → Type 0
  Passes place = passes allows reads place ≡ true

  -- what a place that passes tells
  record IsPassed (place : Place T W) : Type 0 where
    pub may : MayAsk place.tree place.asks
    pub readable : option_map_or reads place.message true ≡ true
    pub stays : not place.turned ≡ true

  passed : (place : Place T W) → Passes place → IsPassed place
  passed place h =
      let asks = option_map_or (λ w. allows place.tree w) place.asks true in
      let reading = option_map_or reads place.message true in
      let parts = and_parts (asks && reading) (not place.turned) h in
      let both = and_parts asks reading parts.0 in
      record { may = both.0; readable = both.1; stays = parts.1 }

  -- messages of its own, each by the place before it and behind it
  own_messages : (h : ℕ) (t : T) (w : W) (ms : List (List ℕ)) → allows t w ≡ true
      → AllByRecursion Passes (map (behind_own r h) (answered_messages r t w ms)) → AllByRecursion (IsPassing allows reads) (answered_messages r t w ms)
  unfolding answered_messages
  own_messages h t w [] may all = tt
  own_messages h t w (m ∷ ms) may all =
      let a = r.answer t w m in
      let here = passed (behind_own r h (record { tree = t; who = w; message = m })) all.0 in
      (record { allowed = may; readable = here.readable }, by_close a.closes here.may (λ may. own_messages h a.tree a.who ms may) all.1)
    where
      by_close : (closes : Bool) → let a = r.answer t w m in MayAsk a.tree (cond closes None (Some a.who))
          → (allows a.tree a.who ≡ true → AllByRecursion Passes (map (behind_own r h) (answered_messages r a.tree a.who ms)) → AllByRecursion (IsPassing allows reads) (answered_messages r a.tree a.who ms))
          → AllByRecursion Passes (map (behind_own r h) (cond closes [] (answered_messages r a.tree a.who ms)))
          → AllByRecursion (IsPassing allows reads) (cond closes [] (answered_messages r a.tree a.who ms))
      by_close true may later all = tt
      by_close false may later all = later may all

  own_piece : (st : State) (h : ℕ) (u : Sessions T W) (piece : List ℕ) (cut : Option ℕ) → MayAsk u.tree (asker st (u.of c).who)
      → AllByRecursion Passes (map (behind_own r h) (answered_of_piece r st u c piece cut)) → AllByRecursion (IsPassing allows reads) (answered_of_piece r st u c piece cut)
  own_piece Open h u piece cut may all = own_messages h u.tree (u.of c).who (up_to cut (new_messages (u.of c).stream piece)) may all
  own_piece Closing h u piece cut may all = tt
  own_piece Unopened h u piece cut may all = tt
  own_piece TurnedAway h u piece cut may all = tt
  own_piece Away h u piece cut may all = tt

  own_step : (h : ℕ) (u : Sessions T W) (s : Step) → is_of c s ≡ true → MayAsk u.tree (asker_of (u.of c))
      → AllByRecursion Passes (map (behind_own r h) (answered_of_step r u s)) → AllByRecursion (IsPassing allows reads) (answered_of_step r u s)
  unfolding answered_of_step
  own_step h u (Opened d) own may all = tt
  own_step h u (Bytes d piece cut) own may all =
      let is : d ≡ c = grind (arith, nat_tests) in
      subst (λ n. AllByRecursion Passes (map (behind_own r h) (answered_of_piece r (u.of n).state u n piece cut)) → AllByRecursion (IsPassing allows reads) (answered_of_piece r (u.of n).state u n piece cut))
      (sym is) (λ all. own_piece (u.of c).state h u piece cut may all) all
  own_step h u (Ended d) own may all = tt
  own_step h u (Gone d) own may all = tt
  own_step h u (HungUp d) own may all = tt

  -- what a step meets: there is room if it opens, each message of the connection passes, and who asks afterwards may
  record StepMeets (after : Sessions T W → Step → Sessions T W) (u : Sessions T W) (s : Step) : Type 0 where
    pub room : (not (is_opening c s) || has_room u) ≡ true
    pub messages : AllByRecursion (IsPassing allows reads) (cond (is_of c s) (answered_of_step r u s) [])
    pub may : MayAsk (after u s).tree (asker_of ((after u s).of c))

  step_meets : (after : Sessions T W → Step → Sessions T W) (h : ℕ) (u : Sessions T W) (s : Step) → MayAsk u.tree (asker_of (u.of c))
      → AllByRecursion Passes (places_of_step r after c h u s) → StepMeets after u s
  unfolding places_of_step
  step_meets after h u s may all =
      let parts = all_append Passes (places_within r c h u s) (standing_after c h (is_turned_away c u s) (after u s) ∷ []) all in
      let last = passed (standing_after c h (is_turned_away c u s) (after u s)) parts.1.0 in
      record { room = room_of (is_opening c s) (has_room u) last.stays; messages = by_own (is_of c s) refl parts.0; may = last.may }
    where
      by_own : (own : Bool) → is_of c s ≡ own → AllByRecursion Passes (map (cond own (behind_own r h) (behind_other r h (asker_of (u.of c)))) (answered_of_step r u s))
          → AllByRecursion (IsPassing allows reads) (cond own (answered_of_step r u s) [])
      by_own true own all = own_step h u s own may all
      by_own false own all = tt

  -- steps in their order
  steps_meet : (after : Sessions T W → Step → Sessions T W) (h : ℕ) (u : Sessions T W) (ss : List Step) → MayAsk u.tree (asker_of (u.of c))
      → AllByRecursion Passes (places_from r after c h u ss)
      → (finds_room_by after c u ss ≡ true) × AllByRecursion (IsPassing allows reads) (answered_of_connection_by r after c u ss)
  unfolding places_from finds_room_by answered_of_connection_by
  steps_meet after h u [] may all = (refl, tt)
  steps_meet after h u (s ∷ ss) may all =
      let parts = all_append Passes (places_of_step r after c (heard_with h s) u s) (places_from r after c (heard_with h s) (after u s) ss) all in
      let first = step_meets after (heard_with h s) u s may parts.0 in
      let later = steps_meet after (heard_with h s) (after u s) ss first.may parts.1 in (
        and_from (not (is_opening c s) || has_room u) (finds_room_by after c (after u s) ss) first.room later.0,
        all_both (IsPassing allows reads) (cond (is_of c s) (answered_of_step r u s) []) (answered_of_connection_by r after c (after u s) ss) first.messages later.1,
      )

  -- from the beginning
  pub run-meets : (t : T) (ss : List Step) → AllByRecursion Passes (places r c t ss)
      → (finds_room r c (start r t) ss ≡ true) × AllByRecursion (IsPassing allows reads) (answered_of_connection r c (start r t) ss)
  run-meets t ss all = steps_meet (step r) 0 (start r t) ss (passed (standing c 0 (start r t)) all.0).may all.1

  pub replay-meets : (t : T) (ss : List Step) → AllByRecursion Passes (places_of_replay r c t ss)
      → (finds_room_in_replay r c (start r t) ss ≡ true) × AllByRecursion (IsPassing allows reads) (answered_in_replay r c (start r t) ss)
  replay-meets t ss all = steps_meet (step_and_hang_up r) 0 (start r t) ss (passed (standing c 0 (start r t)) all.0).may all.1
