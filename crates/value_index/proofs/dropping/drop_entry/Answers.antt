-- One attribute more.
use Rattle.std.proofs.Common.{sym, subst, List, []}
use Rattle.std.specs.Prelude.{flat_map}
use Rattle.dir_tree.specs.Entry.{Attribute}
use Rattle.value_index.specs.Hashes.{attribute_hashes}
use Rattle.value_index.specs.Postings.{IsDropped}
use Rattle.value_index.proofs.index.PostingLemmas.{IsDropped-append}
use Rattle.value_index.proofs.dropping.drop_entry.Goals as goal

pub loop-kind-preserved : goal.loop-kind-preserved
loop-kind-preserved c =
    let number = c.args.number.0 in
    let before = c.loop-kind.postings.keys in
    let after = c.drop_attribute.new.postings.keys in
    let left = c.next.new.self in
    let hashes = attribute_hashes (record { kind = c.in-Some.kind.0; values = c.in-Some.values.now }) in
    record {
      left = λ new dropped. c.loop-kind.invariant.left new
          (subst (λ (attributes : List Attribute). IsDropped number (flat_map attribute_hashes attributes) [] before new) (sym c.in-Some.ensures.steps)
          (IsDropped-append number hashes (flat_map attribute_hashes left) [] before after new c.drop_attribute.ensures.exact dropped));
    }
