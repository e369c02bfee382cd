-- What is said to the front of a stream, and to the stream.
use Rattle.std.proofs.Common.{◌≡◌, ℕ, ◌≤◌, Bool, true, false, cond, List, [], ◌∷◌, ◌++◌, length, take, Some, None, refl, true≢false, ap, ap₂, sym, ◌∙◌, append-nil}
use Rattle.std.proofs.lemmas.List.{take-append-le}
use Rattle.ldap_msg.specs.Streams.{whole, rest_of, is_broken}
use Rattle.ldap_msg.proofs.Theorems.{whole_append, whole_bad}
use Rattle.session_model.specs.Rules.{Rules, Answered, after_octets, talk, ending}
use Rattle.session_model.specs.AnsweredMessages.{AnsweredMessage, answered_messages}
use Rattle.session_model.specs.Kept.{speech}
use Rattle.session_model.proofs.laws.JoinedLemmas.{then_closed, talk-append, bad_again, stays_broken}

-- nothing ends the answers of messages that close, broken or not
ends_alike : {T W : Type 0} (a : Answered T W) → a.closes ≡ true → (x y : Bool) → ending None x a ≡ ending None y a
ends_alike a e x y = rw e refl

-- what is behind a message that closes doesn't count
behind_closed : {X T W : Type 0} (closes : Bool) (a b : Answered T W) (xs ys : List X) → (b.closes ≡ true → xs ≡ ys) → (cond closes a (after_octets a.replies a.changes b)).closes ≡ true → cond closes [] xs ≡ cond closes [] ys
behind_closed true a b xs ys same shut = refl
behind_closed false a b xs ys same shut = same shut

module _ {T W : Type 0} (r : Rules T W) where
  -- up to a cut among the messages of the front the same is said
  pub speech-front_cut : (count : ℕ) (t : T) (w : W) (s p : List ℕ) → count ≤ length (whole s) → speech r (Some count) t w (s ++ p) ≡ speech r (Some count) t w s
  unfolding speech
  speech-front_cut count t w s p within =
      ap (λ ms. ending (Some count) (is_broken s) (talk r t w ms)) (ap (take count) (whole_append s p) ∙ take-append-le count (whole s) (whole (rest_of s ++ p)) within)

  -- and where what is said to the front closes
  pub speech-front_closed : (t : T) (w : W) (s p : List ℕ) → (speech r None t w s).closes ≡ true → speech r None t w (s ++ p) ≡ speech r None t w s
  unfolding speech
  speech-front_closed t w s p shut = by_messages (talk r t w (whole s)).closes refl
    where
      by_messages : (closes : Bool) → (talk r t w (whole s)).closes ≡ closes → ending None (is_broken (s ++ p)) (talk r t w (whole (s ++ p))) ≡ ending None (is_broken s) (talk r t w (whole s))
      by_messages true e =
          let first = talk r t w (whole s) in
          ap (λ ms. ending None (is_broken (s ++ p)) (talk r t w ms)) (whole_append s p)
          ∙ ap (ending None (is_broken (s ++ p))) (talk-append r t w (whole s) (whole (rest_of s ++ p)) ∙ then_closed first (talk r first.tree first.who (whole (rest_of s ++ p))) e)
          ∙ ends_alike first e (is_broken (s ++ p)) (is_broken s)
      by_messages false e =
          let broken : is_broken s ≡ true = rw e at shut in
          ap₂ (λ ms b. ending None b (talk r t w ms)) (whole_append s p ∙ ap (λ ms. whole s ++ ms) (whole_bad (rest_of s ++ p) (bad_again s p broken)) ∙ append-nil (whole s))
          (stays_broken s p broken ∙ sym broken)

  -- the messages that are answered are those of the front too, where their answers close
  answered-append_closed : (t : T) (w : W) (ms ns : List (List ℕ)) → (talk r t w ms).closes ≡ true → answered_messages r t w (ms ++ ns) ≡ answered_messages r t w ms
  unfolding talk answered_messages
  answered-append_closed t w [] ns shut = absurd (true≢false (sym shut))
  answered-append_closed t w (m ∷ ms) ns shut =
      let a = r.answer t w m in
      ap (λ (rest : List (AnsweredMessage T W)). record { tree = t; who = w; message = m } ∷ rest)
      (behind_closed a.closes a (talk r a.tree a.who ms) (answered_messages r a.tree a.who (ms ++ ns)) (answered_messages r a.tree a.who ms) (answered-append_closed a.tree a.who ms ns) shut)

  -- and where what is said to the front closes
  pub answered-front_closed : (t : T) (w : W) (s p : List ℕ) → (speech r None t w s).closes ≡ true → answered_messages r t w (whole (s ++ p)) ≡ answered_messages r t w (whole s)
  unfolding speech
  answered-front_closed t w s p shut = by_messages (talk r t w (whole s)).closes refl
    where
      by_messages : (closes : Bool) → (talk r t w (whole s)).closes ≡ closes → answered_messages r t w (whole (s ++ p)) ≡ answered_messages r t w (whole s)
      by_messages true e = ap (answered_messages r t w) (whole_append s p) ∙ answered-append_closed t w (whole s) (whole (rest_of s ++ p)) e
      by_messages false e =
          let broken : is_broken s ≡ true = rw e at shut in
          ap (answered_messages r t w) (whole_append s p ∙ ap (λ ms. whole s ++ ms) (whole_bad (rest_of s ++ p) (bad_again s p broken)) ∙ append-nil (whole s))
