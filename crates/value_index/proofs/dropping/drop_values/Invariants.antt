-- The number is taken out of those under the hashes of the values so far.
use Rattle.std.proofs.Common.{[], map, take}
use Rattle.value_index.specs.Hashes.{hash_of}
use Rattle.value_index.specs.Postings.{IsDropped}
use Rattle.value_index.proofs.dropping.drop_values.Given as goal

abbrev pub invariant-loop-value : goal.invariant-loop-value
invariant-loop-value l = record {
  dropped : IsDropped l.number.0 (map (λ value. hash_of l.kind.0 value.key) (take l.value-index l.values)) [] l.fn.postings.keys l.postings.keys;
}
