-- The message at the front of octets, by their frame.
use Rattle.std.proofs.Common.{◌≡◌, ◌≤◌, ◌-◌, ◌+◌, ℕ, List, ◌++◌, take, length, Some, None, ap, sym, ◌∙◌, subst, arith}
use Rattle.std.proofs.lemmas.List.{length-append, length-take-le}
use Rattle.session_hub.specs.session_model.ldap_msg.declared.kinds.Frame.TheVariants.{Whole, More, Bad}
use Rattle.session_hub.specs.session_model.ldap_msg.Streams.{frame_at}
use Rattle.hush_watch.specs.declared.next_message.NextMessage.{NextMessage}
use Rattle.hush_watch.specs.NextMessages.{IsFront, IsFirst, IsNextIn}

-- a whole message stands there, or not
pub first-whole : (octets message : List ℕ) (count : ℕ) → Whole count ≡ frame_at octets → count ≤ length octets → message ≡ take count octets → IsFirst octets (Some message)
unfolding IsFirst
first-whole octets message count frame within front = record { count = count; whole = sym frame; within = within; front = front }

pub first-more : (octets : List ℕ) → More ≡ frame_at octets → IsFirst octets None
unfolding IsFirst
first-more octets frame count whole = let is : More ≡ Whole count = frame ∙ whole in cc

pub first-bad : (octets : List ℕ) → Bad ≡ frame_at octets → IsFirst octets None
unfolding IsFirst
first-bad octets frame count whole = let is : Bad ≡ Whole count = frame ∙ whole in cc

-- at the front of octets
pub next-first : (unread piece message : List ℕ) (next : NextMessage) → IsFirst (unread ++ piece) (Some message) → next.octets ≡ message → next.count ≡ length message - length unread
    → IsNextIn unread piece (Some next)
unfolding IsFirst IsNextIn
next-first unread piece message next first octets count = record {
  front = subst (IsFront (unread ++ piece)) (sym octets) first;
  count = count ∙ ap (λ (xs : List ℕ). length xs - length unread) (sym octets);
}

pub next-none : (unread piece : List ℕ) → IsFirst (unread ++ piece) None → IsNextIn unread piece None
unfolding IsFirst IsNextIn
next-none unread piece none = none

-- no more of the piece than it has
pub next-fits : (unread piece message : List ℕ) (count : ℕ) → IsFirst (unread ++ piece) (Some message) → count ≡ length message - length unread → count ≤ length piece
unfolding IsFirst
next-fits unread piece message count first is =
    let long : length message ≡ first.count = ap length first.front ∙ length-take-le first.count (unread ++ piece) first.within in
    let both : length (unread ++ piece) ≡ length unread + length piece = length-append unread piece in
    let within : first.count ≤ length (unread ++ piece) = first.within in
    omega arith
