-- The messages of a stream and what follows them: one step, and a stream that goes on.
use Rattle.std.proofs.Common.{◌≡◌, ℕ, zero, suc, ◌-◌, ◌≤◌, true, false, List, [], ◌∷◌, ◌++◌, length, take, drop, refl, sym, ap, ◌∙◌, arith}
use Rattle.std.proofs.lemmas.List.{length-drop, take-append-le, drop-append-le}
use Rattle.ldap_msg.specs.declared.kinds.Frame.{Frame}
use Rattle.ldap_msg.specs.declared.kinds.Frame.TheVariants.{Whole, More, Bad}
use Rattle.ldap_msg.specs.Streams.{frame_at, message_and, whole_of, rest_and, rest_behind, whole, rest_of, is_bad, is_broken}
use Rattle.ldap_msg.proofs.framing.StreamLemmas.{frame_again, frame_bound, more_bound}

-- ---- a count of steps that suffices gives the same as any other

same_messages : (f g : List ℕ → List (List ℕ)) (s : List ℕ) (fr : Frame) → frame_at s ≡ fr
    → ((n : ℕ) → frame_at s ≡ Whole n → f (drop n s) ≡ g (drop n s)) → message_and f s fr ≡ message_and g s fr
same_messages f g s (Whole n) e h = ap (λ (ms : List (List ℕ)). take n s ∷ ms) (h n e)
same_messages f g s More e h = refl
same_messages f g s Bad e h = refl

no_messages : (f : List ℕ → List (List ℕ)) (s : List ℕ) (fr : Frame) → frame_at s ≡ fr → length s ≤ 0 → [] ≡ message_and f s fr
no_messages f s (Whole n) e h = let bound = frame_bound s n e in absurd (omega (arith, bound.0, bound.1))
no_messages f s More e h = refl
no_messages f s Bad e h = refl

pub left_behind : (s : List ℕ) (n k : ℕ) → frame_at s ≡ Whole n → length s ≤ suc k → length (drop n s) ≤ k
left_behind s n k e h = let bound = frame_bound s n e in omega (arith, bound.0, bound.1, length-drop n s)

whole_enough : (j k : ℕ) (s : List ℕ) → length s ≤ j → length s ≤ k → whole_of j s ≡ whole_of k s
unfolding whole_of
whole_enough zero zero s hj hk = refl
whole_enough zero (suc k) s hj hk = no_messages (whole_of k) s (frame_at s) refl hj
whole_enough (suc j) zero s hj hk = sym (no_messages (whole_of j) s (frame_at s) refl hk)
whole_enough (suc j) (suc k) s hj hk =
    same_messages (whole_of j) (whole_of k) s (frame_at s) refl
    (λ n e. whole_enough j k (drop n s) (left_behind s n j e hj) (left_behind s n k e hk))

same_rest : (f g : List ℕ → List ℕ) (s : List ℕ) (fr : Frame) → frame_at s ≡ fr
    → ((n : ℕ) → frame_at s ≡ Whole n → f (drop n s) ≡ g (drop n s)) → rest_and f s fr ≡ rest_and g s fr
same_rest f g s (Whole n) e h = h n e
same_rest f g s More e h = refl
same_rest f g s Bad e h = refl

no_step : (f : List ℕ → List ℕ) (s : List ℕ) (fr : Frame) → frame_at s ≡ fr → length s ≤ 0 → s ≡ rest_and f s fr
no_step f s (Whole n) e h = let bound = frame_bound s n e in absurd (omega (arith, bound.0, bound.1))
no_step f s More e h = refl
no_step f s Bad e h = refl

rest_enough : (j k : ℕ) (s : List ℕ) → length s ≤ j → length s ≤ k → rest_behind j s ≡ rest_behind k s
unfolding rest_behind
rest_enough zero zero s hj hk = refl
rest_enough zero (suc k) s hj hk = no_step (rest_behind k) s (frame_at s) refl hj
rest_enough (suc j) zero s hj hk = sym (no_step (rest_behind j) s (frame_at s) refl hk)
rest_enough (suc j) (suc k) s hj hk =
    same_rest (rest_behind j) (rest_behind k) s (frame_at s) refl
    (λ n e. rest_enough j k (drop n s) (left_behind s n j e hj) (left_behind s n k e hk))

-- ---- one step

one_less : (s : List ℕ) (n : ℕ) → frame_at s ≡ Whole n → length s ≡ suc (length s - 1)
one_less s n e = let bound = frame_bound s n e in omega (arith, bound.0, bound.1)

pub whole_step : (s : List ℕ) (n : ℕ) → frame_at s ≡ Whole n → whole s ≡ take n s ∷ whole (drop n s)
unfolding whole whole_of
whole_step s n e =
    let k = length s - 1 in
    let less : length s ≤ suc k = omega (arith, one_less s n e) in
    ap (λ (j : ℕ). whole_of j s) (one_less s n e)
    ∙ ap (message_and (whole_of k) s) e
    ∙ ap (λ (ms : List (List ℕ)). take n s ∷ ms) (whole_enough k (length (drop n s)) (drop n s) (left_behind s n k e less) (omega arith))

pub rest_step : (s : List ℕ) (n : ℕ) → frame_at s ≡ Whole n → rest_of s ≡ rest_of (drop n s)
unfolding rest_of rest_behind
rest_step s n e =
    let k = length s - 1 in
    let less : length s ≤ suc k = omega (arith, one_less s n e) in
    ap (λ (j : ℕ). rest_behind j s) (one_less s n e)
    ∙ ap (rest_and (rest_behind k) s) e
    ∙ rest_enough k (length (drop n s)) (drop n s) (left_behind s n k e less) (omega arith)

pub broken_step : (s : List ℕ) (n : ℕ) → frame_at s ≡ Whole n → is_broken s ≡ is_broken (drop n s)
unfolding is_broken
broken_step s n e = ap (λ (r : List ℕ). is_bad (frame_at r)) (rest_step s n e)

whole_of_more : (k : ℕ) (s : List ℕ) → frame_at s ≡ More → whole_of k s ≡ []
unfolding whole_of
whole_of_more zero s e = refl
whole_of_more (suc k) s e = ap (message_and (whole_of k) s) e

whole_of_bad : (k : ℕ) (s : List ℕ) → frame_at s ≡ Bad → whole_of k s ≡ []
unfolding whole_of
whole_of_bad zero s e = refl
whole_of_bad (suc k) s e = ap (message_and (whole_of k) s) e

rest_behind_more : (k : ℕ) (s : List ℕ) → frame_at s ≡ More → rest_behind k s ≡ s
unfolding rest_behind
rest_behind_more zero s e = refl
rest_behind_more (suc k) s e = ap (rest_and (rest_behind k) s) e

rest_behind_bad : (k : ℕ) (s : List ℕ) → frame_at s ≡ Bad → rest_behind k s ≡ s
unfolding rest_behind
rest_behind_bad zero s e = refl
rest_behind_bad (suc k) s e = ap (rest_and (rest_behind k) s) e

pub whole_more : (s : List ℕ) → frame_at s ≡ More → whole s ≡ []
unfolding whole
whole_more s e = whole_of_more (length s) s e

pub whole_bad : (s : List ℕ) → frame_at s ≡ Bad → whole s ≡ []
unfolding whole
whole_bad s e = whole_of_bad (length s) s e

pub rest_more : (s : List ℕ) → frame_at s ≡ More → rest_of s ≡ s
unfolding rest_of
rest_more s e = rest_behind_more (length s) s e

pub rest_bad : (s : List ℕ) → frame_at s ≡ Bad → rest_of s ≡ s
unfolding rest_of
rest_bad s e = rest_behind_bad (length s) s e

pub broken_more : (s : List ℕ) → frame_at s ≡ More → is_broken s ≡ false
unfolding is_broken
broken_more s e = ap (λ (r : List ℕ). is_bad (frame_at r)) (rest_more s e) ∙ ap is_bad e

pub broken_bad : (s : List ℕ) → frame_at s ≡ Bad → is_broken s ≡ true
unfolding is_broken
broken_bad s e = ap (λ (r : List ℕ). is_bad (frame_at r)) (rest_bad s e) ∙ ap is_bad e

-- ---- a stream that goes on

-- the stream of so many octets, by what stands at its front
whole_goes_on : (k : ℕ) (s p : List ℕ) (fr : Frame) → frame_at s ≡ fr → length s ≤ k → whole (s ++ p) ≡ whole s ++ whole (rest_of s ++ p)
whole_goes_on zero s p (Whole n) e h = let bound = frame_bound s n e in absurd (omega (arith, bound.0, bound.1))
whole_goes_on (suc k) s p (Whole n) e h =
    let there = (frame_bound s n e).1 in
    let first : whole (s ++ p) ≡ take n s ∷ whole (drop n s ++ p) =
    whole_step (s ++ p) n (frame_again s p n e)
    ∙ ap (λ (m : List ℕ). m ∷ whole (drop n (s ++ p))) (take-append-le n s p there)
    ∙ ap (λ (r : List ℕ). take n s ∷ whole r) (drop-append-le n s p there) in
    let others : whole (drop n s ++ p) ≡ whole (drop n s) ++ whole (rest_of (drop n s) ++ p) =
    whole_goes_on k (drop n s) p (frame_at (drop n s)) refl (left_behind s n k e h) in
    first ∙ rw (whole_step s n e, rest_step s n e) (ap (λ (ms : List (List ℕ)). take n s ∷ ms) others)
whole_goes_on k s p More e h = rw (whole_more s e, rest_more s e) refl
whole_goes_on k s p Bad e h = rw (whole_bad s e, rest_bad s e) refl

pub whole_append : (s p : List ℕ) → whole (s ++ p) ≡ whole s ++ whole (rest_of s ++ p)
whole_append s p = whole_goes_on (length s) s p (frame_at s) refl (omega arith)

rest_goes_on : (k : ℕ) (s p : List ℕ) (fr : Frame) → frame_at s ≡ fr → length s ≤ k → rest_of (s ++ p) ≡ rest_of (rest_of s ++ p)
rest_goes_on zero s p (Whole n) e h = let bound = frame_bound s n e in absurd (omega (arith, bound.0, bound.1))
rest_goes_on (suc k) s p (Whole n) e h =
    let there = (frame_bound s n e).1 in
    let first : rest_of (s ++ p) ≡ rest_of (drop n s ++ p) = rest_step (s ++ p) n (frame_again s p n e) ∙ ap rest_of (drop-append-le n s p there) in
    first ∙ rest_goes_on k (drop n s) p (frame_at (drop n s)) refl (left_behind s n k e h) ∙ ap (λ (r : List ℕ). rest_of (r ++ p)) (sym (rest_step s n e))
rest_goes_on k s p More e h = rw (rest_more s e) refl
rest_goes_on k s p Bad e h = rw (rest_bad s e) refl

pub rest_append : (s p : List ℕ) → rest_of (s ++ p) ≡ rest_of (rest_of s ++ p)
rest_append s p = rest_goes_on (length s) s p (frame_at s) refl (omega arith)

-- ---- what follows the messages

no_more_whole : (k : ℕ) (s : List ℕ) (fr : Frame) → frame_at s ≡ fr → length s ≤ k → (n : ℕ) → frame_at (rest_of s) ≡ Whole n → ⊥
no_more_whole zero s (Whole m) e h n w = let bound = frame_bound s m e in absurd (omega (arith, bound.0, bound.1))
no_more_whole (suc k) s (Whole m) e h n w =
    no_more_whole k (drop m s) (frame_at (drop m s)) refl (left_behind s m k e h) n (ap frame_at (sym (rest_step s m e)) ∙ w)
no_more_whole k s More e h n w = let more : More ≡ Whole n = sym e ∙ ap frame_at (sym (rest_more s e)) ∙ w in absurd cc
no_more_whole k s Bad e h n w = let bad : Bad ≡ Whole n = sym e ∙ ap frame_at (sym (rest_bad s e)) ∙ w in absurd cc

-- no whole message is at the front of what follows
pub rest_frame : (s : List ℕ) (n : ℕ) → frame_at (rest_of s) ≡ Whole n → ⊥
rest_frame s n w = no_more_whole (length s) s (frame_at s) refl (omega arith) n w

whole_of_rest : (s : List ℕ) (fr : Frame) → frame_at (rest_of s) ≡ fr → whole (rest_of s) ≡ []
whole_of_rest s (Whole n) e = absurd (rest_frame s n e)
whole_of_rest s More e = whole_more (rest_of s) e
whole_of_rest s Bad e = whole_bad (rest_of s) e

pub whole_rest : (s : List ℕ) → whole (rest_of s) ≡ []
whole_rest s = whole_of_rest s (frame_at (rest_of s)) refl

rest_of_rest : (s : List ℕ) (fr : Frame) → frame_at (rest_of s) ≡ fr → rest_of (rest_of s) ≡ rest_of s
rest_of_rest s (Whole n) e = absurd (rest_frame s n e)
rest_of_rest s More e = rest_more (rest_of s) e
rest_of_rest s Bad e = rest_bad (rest_of s) e

pub rest_rest : (s : List ℕ) → rest_of (rest_of s) ≡ rest_of s
rest_rest s = rest_of_rest s (frame_at (rest_of s)) refl

pub broken_rest : (s : List ℕ) → is_broken s ≡ is_broken (rest_of s)
unfolding is_broken
broken_rest s = ap (λ (r : List ℕ). is_bad (frame_at r)) (sym (rest_rest s))

bound_of_rest : (s : List ℕ) (fr : Frame) → frame_at (rest_of s) ≡ fr → is_bad fr ≡ false → length (rest_of s) ≤ 1048581
bound_of_rest s (Whole n) e b = absurd (rest_frame s n e)
bound_of_rest s More e b = more_bound (rest_of s) e
bound_of_rest s Bad e b = absurd cc

pub rest_bound : (s : List ℕ) → is_broken s ≡ false → length (rest_of s) ≤ 1048581
unfolding is_broken
rest_bound s b = bound_of_rest s (frame_at (rest_of s)) refl b

pub whole_nil : whole [] ≡ []
unfolding whole whole_of
whole_nil = refl

pub rest_nil : rest_of [] ≡ []
unfolding rest_of rest_behind
rest_nil = refl
