-- A part is taken from either end, and what is left is the one text between them.
use Rattle.std.proofs.Common.{◌≡◌, ℕ, ◌+◌, ◌-◌, false, true, nat_eq, List, ◌++◌, length, take, drop, Option, None, Some, Bor, MatchOption, ap, sym, ◌∙◌}
use Rattle.std.proofs.lemmas.List.{append_cancel_left}
use Rattle.std.specs.Cmp.Lexicographic.{pointwise}
use Rattle.std.specs.Option.{option_copied}
use Rattle.match_rules.specs.substrings.PartsInOrder.{IsTextBetween}
use Rattle.match_rules.proofs.substrings.SubstringsLemmas.{begins-false, begins-true, ends-false, ends-true}
use Rattle.match_rules.proofs.substrings.text_between.Goals as goal

-- what is left of a rest without the last part
by_ends : (key first last rest : List ℕ) (left : Option (Bor (List ℕ))) → key ≡ first ++ rest
    → MatchOption left (pointwise nat_eq (drop (length rest - length last) rest) last ≡ false) (λ text. (pointwise nat_eq (drop (length rest - length last) rest) last ≡ true) × (text.now ≡ take (length rest - length last) rest) × (length text.now + length last ≡ length rest))
    → IsTextBetween key first last (option_copied left)
by_ends key first last rest None begins ends =
    λ between is. ends-false rest between last ends (append_cancel_left first rest (between ++ last) (sym begins ∙ is))
by_ends key first last rest (Some text) begins ends =
    begins ∙ ap (λ octets. first ++ octets) (ends-true rest last ends.0 ∙ ap (λ octets. octets ++ last) (sym ends.1))

pub returns-in_err-strip_prefix : goal.returns-in_err-strip_prefix
returns-in_err-strip_prefix c =
    rw c.from_residual.ensures (λ between. begins-false c.args.key.now c.args.first.now (between ++ c.args.last.now) c.in_err-strip_prefix.ensures.cases)

pub returns : goal.returns
returns c =
    let front = c.in_ok-strip_prefix.ensures.cases in
    let begins = begins-true c.args.key.now c.args.first.now front.0 ∙ ap (λ octets. c.args.first.now ++ octets) (sym front.1) in
    by_ends c.args.key.now c.args.first.now c.args.last.now c.in_ok-strip_prefix.field-0.now c.strip_suffix.result begins c.strip_suffix.ensures.cases
