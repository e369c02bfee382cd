-- The octets so far.
use Rattle.std.proofs.Common.{◌≡◌, take, min, length, sum_by}
use Rattle.schema_rules.proofs.values.octets_in.Given as goal

abbrev pub invariant-loop-index : goal.invariant-loop-index
invariant-loop-index l =
    l.total
    ≡ min 67108865 (sum_by (λ attribute. sum_by (λ value. length value.octets) attribute.values) (take l.index l.entry.attributes))
