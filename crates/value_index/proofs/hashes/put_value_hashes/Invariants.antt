-- The hashes of the values so far were put.
use Rattle.std.proofs.Common.{◌≡◌, ◌++◌, map, take}
use Rattle.value_index.specs.Hashes.{hash_of}
use Rattle.value_index.proofs.hashes.put_value_hashes.Given as goal

abbrev pub invariant-loop-value : goal.invariant-loop-value
invariant-loop-value l = l.hashes.items ≡ l.fn.hashes.items ++ map (λ value. hash_of l.kind.0 value.key) (take l.value-index l.values)
