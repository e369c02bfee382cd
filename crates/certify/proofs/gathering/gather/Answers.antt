-- Those from others, and its own.
use Rattle.std.proofs.Common.{◌++◌, List, ap, ◌∙◌}
use Rattle.acdf_filters.specs.Tuples.{TaggedTuples, entry_aci}
use Rattle.certify.specs.Making.{items_at}
use Rattle.certify.proofs.gathering.ItemLemmas.{items-own}
use Rattle.certify.proofs.gathering.gather.Goals as goal

pub returns : goal.returns
returns c =
    let rows = c.args.question.now.tree.now in
    record {
      ok = c.in_ok-put_items.ensures.ok
          ∙ ap (λ (items : List TaggedTuples). items ++ items_at rows entry_aci c.args.number.0) c.in_ok-items.ensures.ok
          ∙ items-own rows c.args.question.now.entry.now c.args.number.0 c.requires.entry;
    }
