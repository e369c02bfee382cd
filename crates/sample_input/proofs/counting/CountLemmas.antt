-- Counting the messages of a stream one behind the other.
use Rattle.std.proofs.Common.{◌≡◌, ℕ, zero, suc, ◌+◌, ◌≤◌, ◌<◌, ◌-◌, Bool, true, false, cond, List, length, take, drop, refl, sym, ap, ◌∙◌, subst, arith}
use Rattle.std.proofs.lemmas.List.Sums.{sum_by-cons}
use Rattle.ldap_msg.specs.declared.kinds.Frame.TheVariants.{Whole, More, Bad}
use Rattle.ldap_msg.specs.declared.kinds.Reply.{Reply}
use Rattle.ldap_msg.specs.Streams.{frame_at, whole, whole_of}
use Rattle.sample_input.specs.Counting.{says_such, such_in, such_of}

-- at most one more
pub one_more : (more : Bool) → cond more 1 0 ≤ 1
one_more true = omega arith
one_more false = omega arith

-- all are to be counted
pub such_start : (is_such : Reply → Bool) (stream : List ℕ) (left : ℕ) → left ≡ length stream → 0 + such_of is_such left stream ≡ such_in is_such stream
unfolding whole
such_start is_such stream left is =
    let same : such_of is_such left stream ≡ such_in is_such stream = ap (λ most. such_of is_such most stream) is in omega (arith, same)

-- no message is left
pub none_more : (is_such : Reply → Bool) (most : ℕ) (stream : List ℕ) → More ≡ frame_at stream → such_of is_such most stream ≡ 0
unfolding whole_of
none_more is_such zero stream is = refl
none_more is_such (suc most) stream is = rw (sym is) refl

pub none_bad : (is_such : Reply → Bool) (most : ℕ) (stream : List ℕ) → Bad ≡ frame_at stream → such_of is_such most stream ≡ 0
unfolding whole_of
none_bad is_such zero stream is = refl
none_bad is_such (suc most) stream is = rw (sym is) refl

pub none_left : (is_such : Reply → Bool) (most : ℕ) (stream : List ℕ) → most ≡ 0 → such_of is_such most stream ≡ 0
unfolding whole_of
none_left is_such most stream is = rw is refl

-- a message, and those behind it
such_step : (is_such : Reply → Bool) (most count : ℕ) (stream : List ℕ) → Whole count ≡ frame_at stream
    → such_of is_such (suc most) stream ≡ cond (says_such is_such (take count stream)) 1 0 + such_of is_such most (drop count stream)
unfolding whole_of
such_step is_such most count stream is =
    rw (sym is) (sum_by-cons (λ message. cond (says_such is_such message) 1 0) (take count stream) (whole_of most (drop count stream)))

-- what was counted so far, and what is left, is all
pub counted : (is_such : Reply → Bool) (left most count so_far all : ℕ) (stream : List ℕ) → left ≡ suc most → Whole count ≡ frame_at stream
    → so_far + such_of is_such left stream ≡ all → (so_far + cond (says_such is_such (take count stream)) 1 0) + such_of is_such most (drop count stream) ≡ all
counted is_such left most count so_far all stream more is before =
    let this : so_far + such_of is_such (suc most) stream ≡ all = subst (λ n. so_far + such_of is_such n stream ≡ all) more before in
    omega (arith, this, such_step is_such most count stream is)

-- the same, one turn later
pub counted_on : (is_such : Reply → Bool) (len turn count so_far all : ℕ) (stream message others : List ℕ) (more : Bool) (new : ℕ) → turn < len → Whole count ≡ frame_at stream
    → message ≡ take count stream → others ≡ drop count stream → more ≡ says_such is_such message → new ≡ so_far + cond more 1 0
    → so_far + such_of is_such (len - turn) stream ≡ all → new + such_of is_such (len - (turn + 1)) others ≡ all
counted_on is_such len turn count so_far all stream message others more new within is message_is others_are more_is new_is before =
    let left : len - turn ≡ suc (len - (turn + 1)) = omega (arith, within) in
    let this : (so_far + cond (says_such is_such (take count stream)) 1 0) + such_of is_such (len - (turn + 1)) (drop count stream) ≡ all =
    counted is_such (len - turn) (len - (turn + 1)) count so_far all stream left is before in
    let one : more ≡ says_such is_such (take count stream) = more_is ∙ ap (says_such is_such) message_is in
    let sum : new ≡ so_far + cond (says_such is_such (take count stream)) 1 0 = new_is ∙ ap (λ b. so_far + cond b 1 0) one in
    ap (λ n. n + such_of is_such (len - (turn + 1)) others) sum
    ∙ ap (λ rest. (so_far + cond (says_such is_such (take count stream)) 1 0) + such_of is_such (len - (turn + 1)) rest) others_are ∙ this

-- no more was counted than one a turn
pub few_on : (turn so_far : ℕ) (more : Bool) (new : ℕ) → new ≡ so_far + cond more 1 0 → so_far ≤ turn → new ≤ turn + 1
few_on turn so_far more new is few = omega (arith, is, few, one_more more)

-- where nothing is left, all was counted
pub all_counted : (so_far left all : ℕ) → so_far + left ≡ all → left ≡ 0 → so_far ≡ all
all_counted so_far left all is none = omega (arith, is, none)
