-- The number is posted under the hashes so far.
use Rattle.std.proofs.Common.{take}
use Rattle.value_index.specs.Postings.{IsAdded}
use Rattle.value_index.proofs.adding.add_each.Given as goal

abbrev pub invariant-loop-hash : goal.invariant-loop-hash
invariant-loop-hash l = record { added : IsAdded l.number.0 (take l.hash-index l.hashes) l.fn.postings.keys l.postings.keys }
