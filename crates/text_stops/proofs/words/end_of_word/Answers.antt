-- No octet of the text ends a word.
use Rattle.std.proofs.Common.{length, sym, arith}
use Rattle.std.proofs.lemmas.List.Sums.{position_or_len_is}
use Rattle.text_stops.specs.Stops.{ends_word}
use Rattle.text_stops.proofs.words.end_of_word.Goals as goal

pub returns-clause-exact : goal.returns-clause-exact
returns-clause-exact c =
    sym (position_or_len_is ends_word c.args.text.now (length c.args.text.now) 0 (omega arith)
    (λ k below. c.loop-place.invariant k (omega arith)) (λ within. absurd (omega arith)))
