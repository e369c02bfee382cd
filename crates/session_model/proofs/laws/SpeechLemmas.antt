-- What is said to a stream, message by message from its front.
use Rattle.std.proofs.Common.{◌≡◌, ℕ, suc, Bool, true, false, cond, not, ◌&&◌, ◌||◌, List, [], ◌∷◌, ◌++◌, take, drop, Option, Some, None, refl, ap, ap₂, ◌∙◌, append_assoc, append-nil}
use Rattle.ldap_msg.specs.declared.kinds.Frame.TheVariants.{Whole, More, Bad}
use Rattle.ldap_msg.specs.Streams.{frame_at, whole, is_broken}
use Rattle.ldap_msg.specs.Replies.{notice_octets}
use Rattle.ldap_msg.proofs.Theorems.{whole_step, broken_step, whole_more, broken_more, whole_bad, broken_bad}
use Rattle.session_model.specs.Rules.{Rules, Answered, talk, after_octets, notice_if, ending}
use Rattle.session_model.specs.Kept.{speech}

-- a cut one message later
abbrev pub one_later : Option ℕ → Option ℕ
one_later None = None
one_later (Some count) = Some (suc count)

-- no messages come before a cut at their front
take_none : {A : Type 0} (xs : List A) → take 0 xs ≡ []
take_none [] = refl
take_none (x ∷ xs) = refl

-- what ends the answers to the messages behind one ends them behind it
ends_behind : {T W : Type 0} (a : Answered T W) (closes : Bool) → a.closes ≡ closes → (cut : Option ℕ) (broken : Bool) (b : Answered T W) →
    ending (one_later cut) broken (cond a.closes a (after_octets a.replies a.changes b)) ≡ cond a.closes a (after_octets a.replies a.changes (ending cut broken b))
ends_behind a true e None broken b =
    rw e (ap (λ x. record { replies = x; changes = a.changes; tree = a.tree; who = a.who; closes = true }) (append-nil a.replies))
ends_behind a true e (Some count) broken b = rw e refl
ends_behind a false e None broken b =
    rw e (ap (λ x. record { replies = x; changes = a.changes ++ b.changes; tree = b.tree; who = b.who; closes = b.closes || (not b.closes && broken) }) (append_assoc a.replies b.replies (notice_if (not b.closes && broken))))
ends_behind a false e (Some count) broken b = rw e refl

module _ {T W : Type 0} (r : Rules T W) where
  -- a message at the front is answered, and then the rest unless it closes
  pub speech-whole : (cut : Option ℕ) (t : T) (w : W) (s : List ℕ) (n : ℕ) → frame_at s ≡ Whole n →
      let a = r.answer t w (take n s) in
      speech r (one_later cut) t w s ≡ cond a.closes a (after_octets a.replies a.changes (speech r cut a.tree a.who (drop n s)))
  unfolding speech talk
  speech-whole None t w s n is =
      let a = r.answer t w (take n s) in
      rw (whole_step s n is, broken_step s n is) (ends_behind a a.closes refl None (is_broken (drop n s)) (talk r a.tree a.who (whole (drop n s))))
  speech-whole (Some count) t w s n is =
      let a = r.answer t w (take n s) in
      ap₂ (λ ms b. ending (Some (suc count)) b (talk r t w (take (suc count) ms))) (whole_step s n is) (broken_step s n is)
      ∙ ends_behind a a.closes refl (Some count) (is_broken (drop n s)) (talk r a.tree a.who (take count (whole (drop n s))))

  -- nothing is said to less than a message
  pub speech-more : (t : T) (w : W) (s : List ℕ) → frame_at s ≡ More → speech r None t w s ≡ record { replies = []; changes = []; tree = t; who = w; closes = false }
  unfolding speech talk
  speech-more t w s is = rw (whole_more s is, broken_more s is) refl

  -- the notice is said to what is no message
  pub speech-bad : (t : T) (w : W) (s : List ℕ) → frame_at s ≡ Bad → speech r None t w s ≡ record { replies = notice_octets; changes = []; tree = t; who = w; closes = true }
  unfolding speech talk
  speech-bad t w s is = rw (whole_bad s is, broken_bad s is) refl

  -- nothing is said behind a cut, which closes
  pub speech-cut : (t : T) (w : W) (s : List ℕ) → speech r (Some 0) t w s ≡ record { replies = []; changes = []; tree = t; who = w; closes = true }
  unfolding speech talk
  speech-cut t w s = ap (λ ms. ending (Some 0) (is_broken s) (talk r t w ms)) (take_none (whole s))
