-- The messages of a stream are the longest list of outer elements whose octets are a front of it.
use Rattle.std.proofs.Common.{◌≡◌, ℕ, zero, suc, ◌≤◌, true, List, [], ◌∷◌, ◌++◌, length, take, drop, refl, sym, ap, ◌∙◌, arith}
use Rattle.std.proofs.lemmas.List.{append_assoc, take-append-drop, take_at, drop_at, nil_from_length}
use Rattle.std.proofs.lemmas.List.Elements.{All-nil, All-cons, All-head, All-tail}
use Rattle.ldap_msg.specs.declared.kinds.Frame.{Frame}
use Rattle.ldap_msg.specs.declared.kinds.Frame.TheVariants.{Whole, More, Bad}
use Rattle.ldap_msg.specs.Streams.{IsOuter, joined, Parts, IsWhole, IsBroken, frame_at, whole, rest_of, is_bad, is_broken}
use Rattle.ldap_msg.specs.Laws.{OnlyWhole}
use Rattle.ldap_msg.proofs.framing.StreamLemmas.{frame_bound}
use Rattle.ldap_msg.proofs.framing.OuterLemmas.{outer_frame, frame_outer, broken_frame, frame_broken}
use Rattle.ldap_msg.proofs.laws.WholeLemmas.{left_behind, whole_step, rest_step, whole_more, rest_more, whole_bad, rest_bad}

-- the stream is its messages and its rest
parts_by : (k : ℕ) (s : List ℕ) (fr : Frame) → frame_at s ≡ fr → length s ≤ k → Parts s (whole s) (rest_of s)
parts_by zero s (Whole n) e h = let bound = frame_bound s n e in absurd (omega (arith, bound.0, bound.1))
parts_by (suc k) s (Whole n) e h =
    let behind = parts_by k (drop n s) (frame_at (drop n s)) refl (left_behind s n k e h) in
    let joins : s ≡ joined (take n s ∷ whole (drop n s)) ++ rest_of (drop n s) =
    sym (take-append-drop n s) ∙ ap (λ (r : List ℕ). take n s ++ r) behind.joins ∙ sym (append_assoc (take n s) (joined (whole (drop n s))) (rest_of (drop n s))) in
    let parts : Parts s (take n s ∷ whole (drop n s)) (rest_of (drop n s)) =
    record { each = All-cons IsOuter (take n s) (whole (drop n s)) (frame_outer s n e) behind.each; joins = joins } in
    rw (whole_step s n e, rest_step s n e) parts
parts_by k s More e h = rw (whole_more s e, rest_more s e) (record { each = All-nil IsOuter; joins = refl })
parts_by k s Bad e h = rw (whole_bad s e, rest_bad s e) (record { each = All-nil IsOuter; joins = refl })

pub whole_parts : (s : List ℕ) → Parts s (whole s) (rest_of s)
whole_parts s = parts_by (length s) s (frame_at s) refl (omega arith)

-- what a list of outer elements at the front says of the first
record First (s message : List ℕ) (messages : List (List ℕ)) (after : List ℕ) : Type 0 where
  found : frame_at s ≡ Whole (length message)
  front : take (length message) s ≡ message
  behind : Parts (drop (length message) s) messages after

first_of_parts : (s message : List ℕ) (messages : List (List ℕ)) (after : List ℕ) → Parts s (message ∷ messages) after → First s message messages after
first_of_parts s message messages after p =
    let joins : s ≡ message ++ (joined messages ++ after) = p.joins ∙ append_assoc message (joined messages) after in
    record {
      found = ap frame_at joins ∙ outer_frame message (joined messages ++ after) (All-head IsOuter message messages p.each);
      front = ap (take (length message)) joins ∙ take_at message (joined messages ++ after) (length message) refl;
      behind = record {
        each = All-tail IsOuter message messages p.each;
        joins = ap (drop (length message)) joins ∙ drop_at message (joined messages ++ after) (length message) refl;
      };
    }

longest_by : (others : List (List ℕ)) (s after : List ℕ) → Parts s others after → length others ≤ length (whole s)
longest_by [] s after p = omega arith
longest_by (message ∷ others) s after p =
    let first = first_of_parts s message others after p in
    let behind = longest_by others (drop (length message) s) after first.behind in
    rw (whole_step s (length message) first.found) (omega arith)

-- the messages are the longest such list
pub whole_longest : (s : List ℕ) → IsWhole s (whole s) (rest_of s)
whole_longest s = record { parts = whole_parts s; longest = λ others after p. longest_by others s after p }

-- a list that is as long is the same
no_message : (s after : List ℕ) → Parts s [] after → length (whole s) ≡ 0 → OnlyWhole s [] after
no_message s after p none =
    let nothing : whole s ≡ [] = nil_from_length (whole s) none in
    let mine : s ≡ joined (whole s) ++ rest_of s = (whole_parts s).joins in
    let rest : s ≡ rest_of s = mine ∙ ap (λ (ms : List (List ℕ)). joined ms ++ rest_of s) nothing in
    record { messages_are = sym nothing; rest_is = sym p.joins ∙ rest }

same_by : (messages : List (List ℕ)) (s rest : List ℕ) → Parts s messages rest → length (whole s) ≡ length messages → OnlyWhole s messages rest
same_by [] s rest p count = no_message s rest p count
same_by (message ∷ messages) s rest p count =
    let first = first_of_parts s message messages rest p in
    let step = whole_step s (length message) first.found in
    let shorter : length (whole (drop (length message) s)) ≡ length messages = omega (arith, ap length step, count) in
    let behind = same_by messages (drop (length message) s) rest first.behind shorter in
    record {
      messages_are = ap (λ (ms : List (List ℕ)). message ∷ ms) behind.messages_are
          ∙ ap (λ (m : List ℕ). m ∷ whole (drop (length message) s)) (sym first.front) ∙ sym step;
      rest_is = behind.rest_is ∙ sym (rest_step s (length message) first.found);
    }

-- there is one longest list
pub whole_only : (s : List ℕ) (messages : List (List ℕ)) (rest : List ℕ) → IsWhole s messages rest → OnlyWhole s messages rest
whole_only s messages rest h =
    let at_least = h.longest (whole s) (rest_of s) (whole_parts s) in
    let at_most = longest_by messages s rest h.parts in
    same_by messages s rest h.parts (omega arith)

bad_is : (f : Frame) → is_bad f ≡ true → f ≡ Bad
bad_is (Whole n) e = absurd cc
bad_is More e = absurd cc
bad_is Bad e = refl

-- the test for a stream that can't go on
pub broken_sound : (s : List ℕ) → is_broken s ≡ true → IsBroken (rest_of s)
unfolding is_broken
broken_sound s e = frame_broken (rest_of s) (bad_is (frame_at (rest_of s)) e)

pub broken_complete : (s : List ℕ) → IsBroken (rest_of s) → is_broken s ≡ true
unfolding is_broken
broken_complete s h = ap is_bad (broken_frame (rest_of s) h)
