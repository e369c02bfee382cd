-- The values so far were copied.
use Rattle.std.proofs.Common.{◌≡◌, take, map}
use Rattle.op_read.proofs.root_entry.copies.Given as goal

abbrev pub invariant-loop-value : goal.invariant-loop-value
invariant-loop-value l = l.copies.items ≡ map (λ value. value.now) (take l.value-index l.values)
