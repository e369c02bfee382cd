-- The whole messages at the front up to the first wide one, one step at a time.
use Rattle.std.proofs.Common.{◌≡◌, ℕ, zero, suc, ◌+◌, ◌-◌, ◌≤◌, List, length, take, drop, true, false, refl, sym, ap, ◌∙◌, arith}
use Rattle.std.specs.Prelude.{if◌then◌else◌}
use Rattle.std.proofs.lemmas.List.{length-drop, drop-drop}
use Rattle.ldap_msg.specs.declared.kinds.Frame.{Frame}
use Rattle.ldap_msg.specs.declared.kinds.Frame.TheVariants.{Whole, More, Bad}
use Rattle.ldap_msg.specs.Streams.{frame_at}
use Rattle.ldap_msg.proofs.Theorems.{frame_bound}
use Rattle.fair_pieces.specs.Wide.{is_wide}
use Rattle.fair_pieces.specs.Cuts.{front_and, front_within, front_of}

same_front : (f g : List ℕ → ℕ) (s : List ℕ) (fr : Frame) → frame_at s ≡ fr
    → ((n : ℕ) → frame_at s ≡ Whole n → f (drop n s) ≡ g (drop n s)) → front_and f s fr ≡ front_and g s fr
same_front f g s (Whole n) e h = ap (λ (k : ℕ). if is_wide (take n s) then n else n + k) (h n e)
same_front f g s More e h = refl
same_front f g s Bad e h = refl

no_front : (f : List ℕ → ℕ) (s : List ℕ) (fr : Frame) → frame_at s ≡ fr → length s ≤ 0 → 0 ≡ front_and f s fr
no_front f s (Whole n) e h = let bound = frame_bound s n e in absurd (omega (arith, bound.0, bound.1))
no_front f s More e h = refl
no_front f s Bad e h = refl

-- what is behind a message is shorter
pub shorter : (s : List ℕ) (n k : ℕ) → frame_at s ≡ Whole n → length s ≤ suc k → length (drop n s) ≤ k
shorter s n k e h = let bound = frame_bound s n e in omega (arith, bound.0, bound.1, length-drop n s)

-- a count of messages that suffices gives the same as any other
enough : (j k : ℕ) (s : List ℕ) → length s ≤ j → length s ≤ k → front_within j s ≡ front_within k s
unfolding front_within
enough zero zero s hj hk = refl
enough zero (suc k) s hj hk = no_front (front_within k) s (frame_at s) refl hj
enough (suc j) zero s hj hk = sym (no_front (front_within j) s (frame_at s) refl hk)
enough (suc j) (suc k) s hj hk =
    same_front (front_within j) (front_within k) s (frame_at s) refl
    (λ n e. enough j k (drop n s) (shorter s n j e hj) (shorter s n k e hk))

one_less : (s : List ℕ) (n : ℕ) → frame_at s ≡ Whole n → length s ≡ suc (length s - 1)
one_less s n e = let bound = frame_bound s n e in omega (arith, bound.0, bound.1)

-- a whole message at the front is all where it is wide
pub front_step : (s : List ℕ) (n : ℕ) → frame_at s ≡ Whole n → front_of s ≡ (if is_wide (take n s) then n else n + front_of (drop n s))
unfolding front_of front_within
front_step s n e =
    let k = length s - 1 in
    let less : length s ≤ suc k = omega (arith, one_less s n e) in
    ap (λ (j : ℕ). front_within j s) (one_less s n e)
    ∙ ap (front_and (front_within k) s) e
    ∙ ap (λ (m : ℕ). if is_wide (take n s) then n else n + m) (enough k (length (drop n s)) (drop n s) (shorter s n k e less) (omega arith))

within_more : (k : ℕ) (s : List ℕ) → frame_at s ≡ More → front_within k s ≡ 0
unfolding front_within
within_more zero s e = refl
within_more (suc k) s e = ap (front_and (front_within k) s) e

within_bad : (k : ℕ) (s : List ℕ) → frame_at s ≡ Bad → front_within k s ≡ 0
unfolding front_within
within_bad zero s e = refl
within_bad (suc k) s e = ap (front_and (front_within k) s) e

-- without one there is nothing
pub front_more : (s : List ℕ) → frame_at s ≡ More → front_of s ≡ 0
unfolding front_of
front_more s e = within_more (length s) s e

pub front_bad : (s : List ℕ) → frame_at s ≡ Bad → front_of s ≡ 0
unfolding front_of
front_bad s e = within_bad (length s) s e

-- ---- a loop over the messages where they lie

drop_both : (m n : ℕ) (s : List ℕ) → drop n (drop m s) ≡ drop (m + n) s
drop_both m n s = grind (arith, drop-drop)

-- a message that isn't wide was passed
pub front_passes : (s : List ℕ) (read n : ℕ) → read ≤ length s → front_of s ≡ read + front_of (drop read s)
    → frame_at (drop read s) ≡ Whole n → is_wide (take n (drop read s)) ≡ false
    → (read + n ≤ length s) × (front_of s ≡ read + n + front_of (drop (read + n) s))
front_passes s read n within so_far is narrow =
    let bound = frame_bound (drop read s) n is in
    let step : front_of (drop read s) ≡ n + front_of (drop n (drop read s)) = rw narrow at (front_step (drop read s) n is) in
    let behind : front_of (drop n (drop read s)) ≡ front_of (drop (read + n) s) = ap front_of (drop_both read n s) in
    (omega (arith, bound.1, length-drop read s), omega (arith, so_far, step, behind))

-- a wide message is the last
pub front_ends : (s : List ℕ) (read n : ℕ) → front_of s ≡ read + front_of (drop read s)
    → frame_at (drop read s) ≡ Whole n → is_wide (take n (drop read s)) ≡ true → read + n ≡ front_of s
front_ends s read n so_far is wide =
    let step : front_of (drop read s) ≡ n = rw wide at (front_step (drop read s) n is) in
    omega (arith, so_far, step)

none_left : (s : List ℕ) (fr : Frame) → frame_at s ≡ fr → ((n : ℕ) → fr ≡ Whole n → ⊥) → front_of s ≡ 0
none_left s (Whole n) e none = absurd (none n refl)
none_left s More e none = front_more s e
none_left s Bad e none = front_bad s e

-- no whole message is left
pub front_stops : (s : List ℕ) (read : ℕ) → front_of s ≡ read + front_of (drop read s)
    → ((n : ℕ) → frame_at (drop read s) ≡ Whole n → ⊥) → read ≡ front_of s
front_stops s read so_far none =
    let stops : front_of (drop read s) ≡ 0 = none_left (drop read s) (frame_at (drop read s)) refl none in
    omega (arith, so_far, stops)
