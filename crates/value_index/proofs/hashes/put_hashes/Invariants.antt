-- The hashes so far, and those of the attributes that are left, are all.
use Rattle.std.proofs.Common.{◌≡◌, ◌++◌}
use Rattle.std.specs.Prelude.{flat_map}
use Rattle.value_index.specs.Hashes.{attribute_hashes, hashes_of}
use Rattle.value_index.proofs.hashes.put_hashes.Given as goal

abbrev pub invariant-loop-kind : goal.invariant-loop-kind
invariant-loop-kind l = l.hashes.items ++ flat_map attribute_hashes l.kind-iterator ≡ l.fn.hashes.items ++ hashes_of l.entry
