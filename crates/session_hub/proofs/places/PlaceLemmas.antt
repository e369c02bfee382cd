-- The first connection with a number, looked for from the front.
use Rattle.std.proofs.Common.{◌≡◌, ◌<◌, ℕ, ◌==◌, cond, Bool, true, false, zero, Option, List, [], ◌∷◌, ◌++◌, length, take, drop, set, get_or, Some, None, refl, ap, sym, ◌∙◌, drop-cons, suc, arith}
use Rattle.std.proofs.lemmas.Bool.Decides.{nat_tests}
use Rattle.std.proofs.lemmas.Option.{slice_get_read}
use Rattle.std.proofs.lemmas.List.{set_split}
use Rattle.session_model.specs.Kept.{Kept, kept_of, queue_of, closing_of, cut_of, changed}
use Rattle.session_model.proofs.Theorems.{queue_in, closing_in, queue_of_is, closing_of_is}
use Rattle.session_hub.specs.Parties.{Requester}
use Rattle.session_hub.specs.hub.Hubs.{IsAt, NoneBefore, AreDistinct}

-- a change of the first connection
changed_first : (c : ℕ) (f : Kept Requester → Kept Requester) (k : Kept Requester) (ks : List (Kept Requester)) → k.number ≡ c → changed c f (k ∷ ks) ≡ f k ∷ ks
changed_first c f k ks same = grind (arith, nat_tests)

-- the number stands at this place, and at none before
pub found_at : (c at : ℕ) (kept : List (Kept Requester)) (k : Kept Requester) → NoneBefore c at kept → at < length kept → k ≡ get_or kept at k → k.number ≡ c → IsAt c at kept
found_at c at kept k none within is same =
    let split : drop at kept ≡ k ∷ drop (suc at) kept = drop-cons kept at k within ∙ ap (λ x. x ∷ drop (suc at) kept) (sym is) in
    let found : kept_of c kept ≡ Some k = none.found ∙ ap (kept_of c) split ∙ grind (arith, nat_tests) in
    record {
      within = within;
      found = slice_get_read kept (length kept) at k refl within is ∙ sym found;
      changes = λ f x e.
          let is_k : x ≡ k = cc in
          none.changes f ∙ ap (λ xs. take at kept ++ changed c f xs) split
          ∙ ap (λ xs. take at kept ++ xs) (changed_first c f k (drop (suc at) kept) same)
          ∙ sym (set_split kept at (f k) within) ∙ ap (λ y. set kept at (f y)) (sym is_k);
    }

-- a number of which nothing is kept stands at no place
pub absent_at : (c at : ℕ) (ks : List (Kept Requester)) (k : Kept Requester) → kept_of c ks ≡ None → at < length ks → k ≡ get_or ks at k → k.number ≡ c → ⊥
absent_at c at [] k none within is same = absurd (omega arith)
absent_at c zero (x ∷ xs) k none within is same =
    let there : kept_of c (x ∷ xs) ≡ Some x = grind (arith, nat_tests) in
    absurd (cc)
absent_at c (suc at) (x ∷ xs) k none within is same =
    let later : kept_of c xs ≡ None = grind (arith, nat_tests) in
    absent_at c at xs k later (omega arith) is same

-- a connection of another number stands before
none_step : (c at : ℕ) (x : Kept Requester) (xs : List (Kept Requester)) (k : Kept Requester) → kept_of x.number xs ≡ None → at < length xs → k ≡ get_or xs at k → k.number ≡ c → NoneBefore c at xs → NoneBefore c (suc at) (x ∷ xs)
none_step c at x xs k none within is same later = by_number (x.number == c) refl
  where
    by_number : (b : Bool) → x.number == c ≡ b → NoneBefore c (suc at) (x ∷ xs)
    by_number true e =
        let one : x.number ≡ c = grind (arith, nat_tests) in
        absurd (absent_at x.number at xs k none within is (same ∙ sym one))
    by_number false e =
        record {
          found = ap (λ b. cond b (Some x) (kept_of c xs)) e ∙ later.found;
          changes = λ f. ap (λ b. cond b (f x ∷ xs) (x ∷ changed c f xs)) e ∙ ap (λ ys. x ∷ ys) (later.changes f);
        }

-- where numbers are distinct, the number at a place stands at none before
pub none_before : (c at : ℕ) (ks : List (Kept Requester)) (k : Kept Requester) → AreDistinct ks → at < length ks → k ≡ get_or ks at k → k.number ≡ c → NoneBefore c at ks
none_before c at [] k distinct within is same = absurd (omega arith)
none_before c zero (x ∷ xs) k distinct within is same = record { found = refl; changes = λ f. refl }
none_before c (suc at) (x ∷ xs) k distinct within is same =
    none_step c at x xs k distinct.0 (omega arith) is same (none_before c at xs k distinct.1 (omega arith) is same)

-- the connection at the place of a number is the one that is kept of it
kept_at : (c at : ℕ) (ks : List (Kept Requester)) (k : Kept Requester) → IsAt c at ks → k ≡ get_or ks at k → kept_of c ks ≡ Some k
kept_at c at ks k place is = sym place.found ∙ slice_get_read ks (length ks) at k refl place.within is

pub queue_at : (c at : ℕ) (ks : List (Kept Requester)) (k : Kept Requester) → IsAt c at ks → k ≡ get_or ks at k → queue_of c ks ≡ k.queue
queue_at c at ks k place is = queue_of_is c ks ∙ ap queue_in (kept_at c at ks k place is)

pub queue_nowhere : (c : ℕ) (ks : List (Kept Requester)) → kept_of c ks ≡ None → queue_of c ks ≡ []
queue_nowhere c ks none = queue_of_is c ks ∙ ap queue_in none

pub closing_at : (c at : ℕ) (ks : List (Kept Requester)) (k : Kept Requester) → IsAt c at ks → k ≡ get_or ks at k → closing_of c ks ≡ k.closing
closing_at c at ks k place is = closing_of_is c ks ∙ ap closing_in (kept_at c at ks k place is)

pub closing_nowhere : (c : ℕ) (ks : List (Kept Requester)) → kept_of c ks ≡ None → closing_of c ks ≡ false
closing_nowhere c ks none = closing_of_is c ks ∙ ap closing_in none

pub changed_at : (c at : ℕ) (f : Kept Requester → Kept Requester) (ks : List (Kept Requester)) (k : Kept Requester) → IsAt c at ks → k ≡ get_or ks at k →
    changed c f ks ≡ set ks at (f k)
changed_at c at f ks k place is = place.changes f k (kept_at c at ks k place is)

pub changed_nowhere : (c : ℕ) (f : Kept Requester → Kept Requester) (ks : List (Kept Requester)) → kept_of c ks ≡ None → changed c f ks ≡ ks
changed_nowhere c f [] none = refl
changed_nowhere c f (k ∷ ks) none = grind (arith, nat_tests, changed_nowhere c f ks)

pub kept_at_is : (c at : ℕ) (ks : List (Kept Requester)) (k : Kept Requester) → IsAt c at ks → k ≡ get_or ks at k → kept_of c ks ≡ Some k
kept_at_is c at ks k place is = kept_at c at ks k place is

-- where the connection found was cut
abbrev cut_in : {W : Type 0} → Option (Kept W) → Option ℕ
cut_in None = None
cut_in (Some k) = k.cut

cut_of_is : (c : ℕ) (ks : List (Kept Requester)) → cut_of c ks ≡ cut_in (kept_of c ks)
cut_of_is c [] = refl
cut_of_is c (k ∷ ks) = elim (k.number == c) as (λ b. cond b k.cut (cut_of c ks) ≡ cut_in (cond b (Some k) (kept_of c ks))) [ true ↦ refl | false ↦ cut_of_is c ks ]

pub cut_at : (c at : ℕ) (ks : List (Kept Requester)) (k : Kept Requester) → IsAt c at ks → k ≡ get_or ks at k → cut_of c ks ≡ k.cut
cut_at c at ks k place is = cut_of_is c ks ∙ ap cut_in (kept_at c at ks k place is)

pub cut_nowhere : (c : ℕ) (ks : List (Kept Requester)) → kept_of c ks ≡ None → cut_of c ks ≡ None
cut_nowhere c ks none = cut_of_is c ks ∙ ap cut_in none

-- and after it was changed
pub cut_changed : (c at : ℕ) (f : Kept Requester → Kept Requester) (ks : List (Kept Requester)) (k : Kept Requester) → IsAt c at ks → k ≡ get_or ks at k → (f k).number ≡ k.number →
    cut_of c (changed c f ks) ≡ (f k).cut
cut_changed c at f ks k place is same = by_place ks (kept_at c at ks k place is)
  where
    by_place : (ks : List (Kept Requester)) → kept_of c ks ≡ Some k → cut_of c (changed c f ks) ≡ (f k).cut
    by_place [] found = cc
    by_place (x ∷ xs) found = grind (arith, nat_tests, by_place xs, same)

pub kept_changed : (c at : ℕ) (f : Kept Requester → Kept Requester) (ks : List (Kept Requester)) (k : Kept Requester) → IsAt c at ks → k ≡ get_or ks at k → (f k).number ≡ k.number →
    kept_of c (changed c f ks) ≡ Some (f k)
kept_changed c at f ks k place is same = by_place ks (kept_at c at ks k place is)
  where
    by_place : (ks : List (Kept Requester)) → kept_of c ks ≡ Some k → kept_of c (changed c f ks) ≡ Some (f k)
    by_place [] found = cc
    by_place (x ∷ xs) found = grind (arith, nat_tests, by_place xs, same)
