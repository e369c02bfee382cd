-- The octets so far.
use Rattle.std.proofs.Common.{◌≡◌, ◌+◌, take, min, length, sum_by}
use Rattle.schema_rules.proofs.values.add_octets.Given as goal

abbrev pub invariant-loop-value : goal.invariant-loop-value
invariant-loop-value l = l.sum ≡ min 67108865 (l.total + sum_by (λ value. length value.octets) (take l.value-index l.values))
