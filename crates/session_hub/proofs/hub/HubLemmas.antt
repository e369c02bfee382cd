-- What a hub holds after it opened, ended or forgot a connection.
use Rattle.std.proofs.Common.{◌≡◌, ◌≤◌, ◌<◌, ℕ, ◌==◌, true, false, cond, Bool, List, [], ◌∷◌, ◌++◌, length, get_or, set, remove, zero, suc, Option, Some, None, Result, Ok, Err, OnErr, refl, ap, sym, ◌∙◌, arith, slice_get}
use Rattle.std.proofs.lemmas.Bool.Decides.{nat_tests}
use Rattle.std.proofs.lemmas.Option.{slice_get-get_or, get_or_from_slice_get}
use Rattle.session_model.proofs.Theorems.{kept_of-number}
use Rattle.session_model.specs.Run.{most_held}
use Rattle.session_model.specs.Kept.{Kept, kept_of, is_kept, changed, closed, without_front, taken_off, forgotten, heard, opened_kept}
use Rattle.session_model.specs.AnsweredMessages.{answered_of_held}
use Rattle.session_hub.specs.Parties.{Requester}
use Rattle.session_hub.specs.Terms.{Terms}
use Rattle.session_hub.specs.declared.event.Event.TheVariants as came
use Rattle.session_hub.specs.Answering.{rules}
use Rattle.session_hub.proofs.places.PlaceLemmas.{absent_at}
use Rattle.session_hub.specs.hub.Hubs.{HubState, IsAt, IsBounded, AreDistinct, AreHeld, HearsAnywhere}

bounded_changed : (c : ℕ) (f : Kept Requester → Kept Requester) → ((k : Kept Requester) → length (f k).rest ≤ length k.rest) → (ks : List (Kept Requester)) → IsBounded ks → IsBounded (changed c f ks)
bounded_changed c f less [] bounded = tt
bounded_changed c f less (k ∷ ks) bounded =
    elim (k.number == c) as (λ b. IsBounded (cond b (f k ∷ ks) (k ∷ changed c f ks)))
    [ true ↦ (let now : length (f k).rest ≤ length k.rest = less k in omega (arith, bounded.0), bounded.1) | false ↦ (bounded.0, bounded_changed c f less ks bounded.1) ]

pub bounded_closed : (c : ℕ) (ks : List (Kept Requester)) → IsBounded ks → IsBounded (changed c closed ks)
bounded_closed c ks bounded = bounded_changed c closed (λ k. omega arith) ks bounded

pub bounded_taken : (c n : ℕ) (ks : List (Kept Requester)) → IsBounded ks → IsBounded (taken_off c n ks)
bounded_taken c n ks bounded = bounded_changed c (without_front n) (λ k. omega arith) ks bounded

pub bounded_forgotten : (c : ℕ) (ks : List (Kept Requester)) → IsBounded ks → IsBounded (forgotten c ks)
bounded_forgotten c [] bounded = tt
bounded_forgotten c (k ∷ ks) bounded =
    elim (k.number == c) as (λ b. IsBounded (cond b (forgotten c ks) (k ∷ forgotten c ks)))
    [ true ↦ bounded_forgotten c ks bounded.1 | false ↦ (bounded.0, bounded_forgotten c ks bounded.1) ]

-- a change that keeps numbers
kept_of-changed : (n c : ℕ) (f : Kept Requester → Kept Requester) → ((k : Kept Requester) → (f k).number ≡ k.number) → (ks : List (Kept Requester)) → kept_of n ks ≡ None → kept_of n (changed c f ks) ≡ None
kept_of-changed n c f same [] none = refl
kept_of-changed n c f same (k ∷ ks) none =
    let number : (f k).number ≡ k.number = same k in
    grind (arith, nat_tests, kept_of-changed n c f same ks)

distinct_changed : (c : ℕ) (f : Kept Requester → Kept Requester) → ((k : Kept Requester) → (f k).number ≡ k.number) → (ks : List (Kept Requester)) → AreDistinct ks → AreDistinct (changed c f ks)
distinct_changed c f same [] distinct = tt
distinct_changed c f same (k ∷ ks) distinct =
    elim (k.number == c) as (λ b. AreDistinct (cond b (f k ∷ ks) (k ∷ changed c f ks)))
    [ true ↦ (ap (λ n. kept_of n ks) (same k) ∙ distinct.0, distinct.1) | false ↦ (kept_of-changed k.number c f same ks distinct.0, distinct_changed c f same ks distinct.1) ]

-- a connection takes the place of one of its number
kept_of-set : (n at : ℕ) (ks : List (Kept Requester)) (k now : Kept Requester) → kept_of n ks ≡ None → at < length ks → k ≡ get_or ks at k → now.number ≡ k.number → kept_of n (set ks at now) ≡ None
kept_of-set n at [] k now none within is same = refl
kept_of-set n zero (x ∷ xs) k now none within is same =
    let number : now.number ≡ x.number = same ∙ ap (λ (y : Kept Requester). y.number) is in
    grind (arith, nat_tests)
kept_of-set n (suc at) (x ∷ xs) k now none within is same =
    let later : kept_of n xs ≡ None = grind (arith, nat_tests) in
    let rest = kept_of-set n at xs k now later (omega arith) is same in
    grind (arith, nat_tests)

pub distinct_set : (at : ℕ) (ks : List (Kept Requester)) (k now : Kept Requester) → AreDistinct ks → at < length ks → k ≡ get_or ks at k → now.number ≡ k.number → AreDistinct (set ks at now)
distinct_set at [] k now distinct within is same = tt
distinct_set zero (x ∷ xs) k now distinct within is same =
    (ap (λ n. kept_of n xs) (same ∙ ap (λ (y : Kept Requester). y.number) is) ∙ distinct.0, distinct.1)
distinct_set (suc at) (x ∷ xs) k now distinct within is same =
    (kept_of-set x.number at xs k now distinct.0 (omega arith) is same, distinct_set at xs k now distinct.1 (omega arith) is same)

-- what is kept stays so when a connection is closed, loses the front of its queue, is forgotten, or one more is held
pub held_closed : (c : ℕ) (ks : List (Kept Requester)) → AreHeld ks → AreHeld (changed c closed ks)
held_closed c ks held = record { bounded = bounded_closed c ks held.bounded; distinct = distinct_changed c closed (λ k. refl) ks held.distinct }

pub held_taken : (c n : ℕ) (ks : List (Kept Requester)) → AreHeld ks → AreHeld (taken_off c n ks)
held_taken c n ks held = record { bounded = bounded_taken c n ks held.bounded; distinct = distinct_changed c (without_front n) (λ k. refl) ks held.distinct }

kept_of-forgotten : (n c : ℕ) (ks : List (Kept Requester)) → kept_of n ks ≡ None → kept_of n (forgotten c ks) ≡ None
kept_of-forgotten n c [] none = refl
kept_of-forgotten n c (k ∷ ks) none = grind (arith, nat_tests, kept_of-forgotten n c ks)

distinct_forgotten : (c : ℕ) (ks : List (Kept Requester)) → AreDistinct ks → AreDistinct (forgotten c ks)
distinct_forgotten c [] distinct = tt
distinct_forgotten c (k ∷ ks) distinct =
    elim (k.number == c) as (λ b. AreDistinct (cond b (forgotten c ks) (k ∷ forgotten c ks)))
    [ true ↦ distinct_forgotten c ks distinct.1 | false ↦ (kept_of-forgotten k.number c ks distinct.0, distinct_forgotten c ks distinct.1) ]

pub held_forgotten : (c : ℕ) (ks : List (Kept Requester)) → AreHeld ks → AreHeld (forgotten c ks)
held_forgotten c ks held = record { bounded = bounded_forgotten c ks held.bounded; distinct = distinct_forgotten c ks held.distinct }

kept_of-append : (n : ℕ) (new : Kept Requester) (ks : List (Kept Requester)) → kept_of n ks ≡ None → (n == new.number) ≡ false → kept_of n (ks ++ new ∷ []) ≡ None
kept_of-append n new [] none other = grind (arith, nat_tests)
kept_of-append n new (k ∷ ks) none other = grind (arith, nat_tests, kept_of-append n new ks)

distinct_append : (new : Kept Requester) (ks : List (Kept Requester)) → AreDistinct ks → kept_of new.number ks ≡ None → AreDistinct (ks ++ new ∷ [])
distinct_append new [] distinct none = (refl, tt)
distinct_append new (k ∷ ks) distinct none =
    let other : (k.number == new.number) ≡ false = grind (arith, nat_tests) in
    let later : kept_of new.number ks ≡ None = grind (arith, nat_tests) in
    (kept_of-append k.number new ks distinct.0 other, distinct_append new ks distinct.1 later)

bounded_append : (new : Kept Requester) (ks : List (Kept Requester)) → IsBounded ks → new.rest ≡ [] → IsBounded (ks ++ new ∷ [])
bounded_append new [] bounded empty = (rw empty (omega arith), tt)
bounded_append new (k ∷ ks) bounded empty = (bounded.0, bounded_append new ks bounded.1 empty)

pub held_opened : (terms : Terms) (c : ℕ) (ks : List (Kept Requester)) → AreHeld ks → is_kept (kept_of c ks) ≡ false → AreHeld (ks ++ opened_kept (rules terms) c ∷ [])
held_opened terms c ks held absent = record { bounded = bounded_append (opened_kept (rules terms) c) ks held.bounded refl; distinct = distinct_append (opened_kept (rules terms) c) ks held.distinct (none_kept (kept_of c ks) absent) }
  where
    none_kept : (o : Option (Kept Requester)) → is_kept o ≡ false → o ≡ None
    none_kept None e = refl
    none_kept (Some k) e = cc

-- a connection that opens: held already, no room, and room
pub opens_held : (c : ℕ) (hub : HubState) → is_kept (kept_of c hub.kept) ≡ true → HearsAnywhere (came.Opened c) hub hub
unfolding heard answered_of_held
opens_held c hub there = λ entries. record { same = rw there refl; short = tt }

pub opens_full : (c : ℕ) (hub : HubState) → most_held ≤ length hub.kept → HearsAnywhere (came.Opened c) hub hub
unfolding heard answered_of_held
opens_full c hub full = λ entries. record { same = ap (λ ks. record { tree = entries; kept = ks; was_cut = hub.was_cut; unstored = hub.unstored }) (grind (arith, nat_tests)); short = tt }

pub opens_new : (c : ℕ) (hub now : HubState) → is_kept (kept_of c hub.kept) ≡ false → length hub.kept < most_held → now ≡ record hub { kept = hub.kept ++ opened_kept (rules hub.bounds.terms) c ∷ [] } →
    HearsAnywhere (came.Opened c) hub now
unfolding heard answered_of_held
opens_new c hub now absent room is = λ entries. record { same = rw is (ap (λ ks. record { tree = entries; kept = ks; was_cut = hub.was_cut; unstored = hub.unstored }) (rw absent (grind (arith, nat_tests)))); short = tt }

pub ends : (c : ℕ) (hub now : HubState) → now ≡ record hub { kept = changed c closed hub.kept } → HearsAnywhere (came.Ended c) hub now
unfolding heard answered_of_held
ends c hub now is = λ entries. record { same = rw is refl; short = tt }

-- there is something at each place within
nothing_there : (ks : List (Kept Requester)) (at : ℕ) → at < length ks → slice_get ks at ≡ None → ⊥
nothing_there [] at within none = omega arith
nothing_there (k ∷ ks) at within none = let there = slice_get-get_or (k ∷ ks) at k within in absurd (cc)

-- a connection removed that was to be forgotten
forgets_at : (c at : ℕ) (ks : List (Kept Requester)) (k : Kept Requester) → at < length ks → k ≡ get_or ks at k → k.number ≡ c → forgotten c (remove ks at) ≡ forgotten c ks
forgets_at c at [] k within is same = absurd (omega arith)
forgets_at c zero (x ∷ xs) k within is same = grind (arith, nat_tests)
forgets_at c (suc at) (x ∷ xs) k within is same =
    ap (λ ys. cond (x.number == c) ys (x ∷ ys)) (forgets_at c at xs k (omega arith) is same)

pub forgets_one : (c at : ℕ) (ks : List (Kept Requester)) → IsAt c at ks → forgotten c (remove ks at) ≡ forgotten c ks
forgets_one c at ks place = found (kept_of c ks) refl
  where
    found : (o : Option (Kept Requester)) → kept_of c ks ≡ o → forgotten c (remove ks at) ≡ forgotten c ks
    found None e = absurd (nothing_there ks at place.within (place.found ∙ e))
    found (Some k) e =
        let there : slice_get ks at ≡ Some k = place.found ∙ e in
        forgets_at c at ks k place.within (sym (get_or_from_slice_get ks at k k there)) (kept_of-number c ks k e)

-- what stands later has another number
other_number : (c at : ℕ) (x : Kept Requester) (xs : List (Kept Requester)) (k : Kept Requester) → kept_of x.number xs ≡ None → at < length xs → k ≡ get_or xs at k → k.number ≡ c → x.number == c ≡ false
other_number c at x xs k none within is same = by_number (x.number == c) refl
  where
    by_number : (b : Bool) → x.number == c ≡ b → x.number == c ≡ false
    by_number false e = e
    by_number true e =
        let one : x.number ≡ c = grind (arith, nat_tests) in
        absurd (absent_at x.number at xs k none within is (same ∙ sym one))

-- one that was found and removed is kept no more
gone_at : (c at : ℕ) (ks : List (Kept Requester)) (k : Kept Requester) → AreDistinct ks → at < length ks → k ≡ get_or ks at k → k.number ≡ c → kept_of c (remove ks at) ≡ None
gone_at c at [] k distinct within is same = absurd (omega arith)
gone_at c zero (x ∷ xs) k distinct within is same = ap (λ n. kept_of n xs) (sym (ap (λ (y : Kept Requester). y.number) (sym is) ∙ same)) ∙ distinct.0
gone_at c (suc at) (x ∷ xs) k distinct within is same =
    ap (λ b. cond b (Some x) (kept_of c (remove xs at))) (other_number c at x xs k distinct.0 (omega arith) is same) ∙ gone_at c at xs k distinct.1 (omega arith) is same

pub forgets_none : (c : ℕ) (ks : List (Kept Requester)) → kept_of c ks ≡ None → ks ≡ forgotten c ks
forgets_none c [] none = refl
forgets_none c (k ∷ ks) none = grind (arith, nat_tests, forgets_none c ks)

-- the connection found is removed, and nothing else was to be forgotten
pub removes_all : (c at : ℕ) (ks : List (Kept Requester)) → AreDistinct ks → IsAt c at ks → remove ks at ≡ forgotten c ks
removes_all c at ks distinct place = found (kept_of c ks) refl
  where
    found : (o : Option (Kept Requester)) → kept_of c ks ≡ o → remove ks at ≡ forgotten c ks
    found None e = absurd (nothing_there ks at place.within (place.found ∙ e))
    found (Some k) e =
        let there : slice_get ks at ≡ Some k = place.found ∙ e in
        let is : k ≡ get_or ks at k = sym (get_or_from_slice_get ks at k k there) in
        forgets_none c (remove ks at) (gone_at c at ks k distinct place.within is (kept_of-number c ks k e)) ∙ forgets_one c at ks place

-- what holds holds on an error
pub on_err_any : {X E P : Type 0} (r : Result X E) → P → OnErr r P
on_err_any (Ok x) holds = tt
on_err_any (Err e) holds = holds
