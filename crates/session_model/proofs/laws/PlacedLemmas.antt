-- How many connections may be on hold: each of them is held, and so are no more than are held at once.
use Rattle.std.proofs.Common.{◌≡◌, ◌≢◌, ◌≤◌, ◌<◌, ◌==◌, ◌||◌, ℕ, Bool, true, false, nat_eq, List, [], ◌∷◌, length, map, Option, Some, refl, ap, sym, ◌∙◌, arith, true≢false}
use Rattle.std.specs.Cmp.{nat_eq_equiv}
use Rattle.std.specs.List.{IsDistinct, AllByRecursion}
use Rattle.std.proofs.lemmas.Bool.Decides.{nat_tests}
use Rattle.std.proofs.lemmas.Map.Made.{length-le_from_is_member}
use Rattle.std.proofs.lemmas.List.{length-map}
use Rattle.wire_io.specs.declared.journal.Item.{Item}
use Rattle.session_model.specs.Rules.{Rules}
use Rattle.session_model.specs.Run.{Session, State, Open, Closing, TurnedAway, Away, Unopened, most_held}
use Rattle.session_model.specs.Run as session
use Rattle.session_model.specs.Kept.{Kept, Held, kept_of, queue_of, is_kept}
use Rattle.session_model.specs.Keeping.{is_listed, shown}
use Rattle.session_model.specs.Working.{Works, Refused}
use Rattle.session_model.proofs.laws.KeptLemmas.{number-found}
use Rattle.session_model.proofs.laws.TrackLemmas.{held_now}

-- whoever has a place is shown, and found among the numbers
found_listed : {W : Type 0} (d taken : ℕ) (st : State) (s : Session W) (ks : List (Kept W)) → kept_of d ks ≡ shown st d taken s → session.is_held st ≡ true → is_listed d (map (λ k. k.number) ks) ≡ true
found_listed d taken Open s ks is there = number-found d ks _ is
found_listed d taken Closing s ks is there = number-found d ks _ is
found_listed d taken Unopened s ks is there = cc
found_listed d taken TurnedAway s ks is there = cc
found_listed d taken Away s ks is there = cc

-- none of the numbers is this one
apart_from : (c : ℕ) (xs : List ℕ) → is_listed c xs ≡ false → AllByRecursion (λ x. nat_eq c x ≡ false) xs
apart_from c [] none = tt
apart_from c (x ∷ xs) none = (grind (arith, nat_tests), apart_from c xs (grind (arith, nat_tests)))

module _ {T W : Type 0} (r : Rules T W) (t : T) where
  -- there is a place for one that takes no more now and isn't on hold
  pub refused_fits : (c : ℕ) (due : List ℕ) (h : Held T W) (on_hold : List ℕ) (journal : List Item) → Refused r t c due h on_hold journal →
      is_listed c on_hold ≡ false → IsDistinct nat_eq on_hold → length on_hold < most_held
  unfolding IsDistinct
  refused_fits c due h on_hold journal refused free distinct =
      let works = refused.works in
      let there : (d : ℕ) → is_listed d (c ∷ on_hold) ≡ true → is_listed d (map (λ k. k.number) h.kept) ≡ true =
      λ d listed. found_listed d _ (works.now.of d).state (works.now.of d) h.kept (works.tracks.keeps.each d) (placed d listed) in
      let fits : length (c ∷ on_hold) ≤ length (map (λ (k : Kept W). k.number) h.kept) =
      length-le_from_is_member nat_eq_equiv (c ∷ on_hold) (map (λ (k : Kept W). k.number) h.kept) (apart_from c on_hold free, distinct) there in
      let as_many = length-map h.kept (λ (k : Kept W). k.number) in
      let few = works.tracks.few in
      omega arith
    where
      placed : (d : ℕ) → is_listed d (c ∷ on_hold) ≡ true → session.is_held (refused.works.now.of d).state ≡ true
      placed d listed = by_number (d == c) refl
        where
          by_number : (b : Bool) → (d == c) ≡ b → session.is_held (refused.works.now.of d).state ≡ true
          by_number true same = let is : d ≡ c = grind (arith, nat_tests) in
              rw is (held_now r t refused.works.steps refused.works.now h on_hold journal refused.works.tracks c refused.queued).0
          by_number false other = refused.works.placed d (grind (arith, nat_tests))
