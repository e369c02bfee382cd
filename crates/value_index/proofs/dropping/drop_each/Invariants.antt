-- The number is taken out of those under the hashes so far.
use Rattle.std.proofs.Common.{take}
use Rattle.value_index.specs.Postings.{IsDropped}
use Rattle.value_index.proofs.dropping.drop_each.Given as goal

abbrev pub invariant-loop-place : goal.invariant-loop-place
invariant-loop-place l = record { dropped : IsDropped l.number.0 (take l.place l.hashes) l.kept l.fn.postings.keys l.postings.keys }
