-- The texts of the replies of a stream, message by message.
use Rattle.std.proofs.Common.{◌≡◌, ℕ, ◌<◌, ◌≤◌, List, [], ◌++◌, length, take, drop, ap, ◌∙◌, sym, arith, append_assoc, append-nil, length-drop}
use Rattle.std.specs.List.{flat_map}
use Rattle.ldap_msg.specs.declared.kinds.Frame.TheVariants.{Whole}
use Rattle.ldap_msg.specs.Streams.{frame_at, whole}
use Rattle.ldap_msg.proofs.Theorems.{frame_bound, whole_step}
use Rattle.client_core.specs.ReplyTexts.{message_text, replies_text}

-- a message, and those behind it
replies_text-step : (stream : List ℕ) (count : ℕ) → frame_at stream ≡ Whole count → replies_text stream ≡ message_text (take count stream) ++ replies_text (drop count stream)
unfolding replies_text
replies_text-step stream count is = ap (flat_map message_text) (whole_step stream count is)

-- one text more stands before the others
pub texts-step : (before stream all new front behind : List ℕ) (count : ℕ) → frame_at stream ≡ Whole count → front ≡ take count stream → behind ≡ drop count stream
    → new ≡ before ++ message_text front → before ++ replies_text stream ≡ all → new ++ replies_text behind ≡ all
texts-step before stream all new front behind count is front_is behind_is new_is so_far =
    ap (λ text. text ++ replies_text behind) new_is
    ∙ append_assoc before (message_text front) (replies_text behind)
    ∙ ap (λ text. before ++ (message_text text ++ replies_text behind)) front_is
    ∙ ap (λ rest. before ++ (message_text (take count stream) ++ replies_text rest)) behind_is
    ∙ ap (λ text. before ++ text) (sym (replies_text-step stream count is)) ∙ so_far

-- no message is left
pub texts-end : (text stream all : List ℕ) → whole stream ≡ [] → text ++ replies_text stream ≡ all → text ≡ all
unfolding replies_text
texts-end text stream all none so_far = sym (append-nil text) ∙ ap (λ messages. text ++ flat_map message_text messages) (sym none) ∙ so_far

-- a message is there
pub message-within : (stream : List ℕ) (count : ℕ) → frame_at stream ≡ Whole count → count ≤ length stream
message-within stream count is = (frame_bound stream count is).1

-- less is left
pub less-left : (stream behind : List ℕ) (count : ℕ) → frame_at stream ≡ Whole count → behind ≡ drop count stream → length behind < length stream
less-left stream behind count is behind_is = let bound = frame_bound stream count is in omega (arith, bound.0, bound.1, ap length behind_is, length-drop count stream)
