-- No octet before ends a word.
use Rattle.std.proofs.Common.{◌≡◌, ℕ, ◌<◌, get_or, false}
use Rattle.text_stops.specs.Stops.{ends_word}
use Rattle.text_stops.proofs.words.end_of_word.Given as goal

abbrev pub invariant-loop-place : goal.invariant-loop-place
invariant-loop-place l = (k : ℕ) → k < l.place → ends_word (get_or l.text k 0) ≡ false
