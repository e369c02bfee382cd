-- Where the number is taken out of those under the hashes of the attributes that are left, it is of all.
use Rattle.std.proofs.Common.{List, []}
use Rattle.std.specs.Prelude.{flat_map}
use Rattle.value_index.specs.declared.index.Posting.{Posting}
use Rattle.value_index.specs.Hashes.{attribute_hashes, hashes_of}
use Rattle.value_index.specs.Postings.{IsDropped}
use Rattle.value_index.proofs.dropping.drop_entry.Given as goal

abbrev pub invariant-loop-kind : goal.invariant-loop-kind
invariant-loop-kind l = record {
  left : (new : List Posting) → IsDropped l.number.0 (flat_map attribute_hashes l.kind-iterator) [] l.postings.keys new
      → IsDropped l.number.0 (hashes_of l.entry) [] l.fn.postings.keys new;
}
