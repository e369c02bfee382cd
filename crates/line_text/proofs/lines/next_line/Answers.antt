-- The first LF, and what stands before and behind it.
use Rattle.std.proofs.Common.{◌≡◌, ◌<◌, ◌+◌, ◌-◌, ◌∷◌, sym, subst, arith, List, ℕ, length, take, drop}
use Rattle.std.specs.List.{position_or_len}
use Rattle.std.proofs.lemmas.List.{take_rest}
use Rattle.line_text.specs.Lines.{lines_of, rest_of}
use Rattle.line_text.proofs.lines.LineLemmas.{is_end, lines_of-cut, rest_of-cut, lines_of-none, rest_of-none}
use Rattle.line_text.proofs.lines.next_line.Goals as goal

-- the cut at the place of the first LF
lines-at : (text : List ℕ) (place : ℕ) → place ≡ position_or_len is_end text → place < length text
    → lines_of text ≡ take place text ∷ lines_of (take (length text - (place + 1)) (drop (place + 1) text))
lines-at text place is within =
    subst (λ (place : ℕ). place < length text → lines_of text ≡ take place text ∷ lines_of (take (length text - (place + 1)) (drop (place + 1) text))) (sym is)
    (λ within. rw take_rest (lines_of-cut text within)) within

rest-at : (text : List ℕ) (place : ℕ) → place ≡ position_or_len is_end text → place < length text
    → rest_of text ≡ rest_of (take (length text - (place + 1)) (drop (place + 1) text))
rest-at text place is within =
    subst (λ (place : ℕ). place < length text → rest_of text ≡ rest_of (take (length text - (place + 1)) (drop (place + 1) text))) (sym is)
    (λ within. rw take_rest (rest_of-cut text within)) within

pub returns-then-end-text-clause-found : goal.returns-then-end-text-clause-found
returns-then-end-text-clause-found c = lines-at c.args.text.now c.position_of-end.result c.position_of-end.ensures.exact c.if-end-text.true

pub returns-then-end-text-clause-kept : goal.returns-then-end-text-clause-kept
returns-then-end-text-clause-kept c = rest-at c.args.text.now c.position_of-end.result c.position_of-end.ensures.exact c.if-end-text.true

pub returns-else-end-text-clause-none : goal.returns-else-end-text-clause-none
returns-else-end-text-clause-none c = lines_of-none c.args.text.now (omega arith)

pub returns-else-end-text-clause-rest : goal.returns-else-end-text-clause-rest
returns-else-end-text-clause-rest c = rest_of-none c.args.text.now (omega arith)
