-- What is left, read from the frames so far, gives what the whole gives.
use Rattle.std.proofs.Common.{◌≡◌, drop}
use Rattle.filter_text.specs.Reading.{stack_of, read_from, nothing_yet}
use Rattle.filter_text.proofs.reading.read_filter.Given as goal

abbrev pub invariant-loop-place : goal.invariant-loop-place
invariant-loop-place l = read_from l.place (drop l.place l.text) (stack_of l.frames) ≡ read_from 0 l.text nothing_yet
