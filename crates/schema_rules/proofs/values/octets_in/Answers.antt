-- The octets of one attribute more.
use Rattle.std.proofs.Common.{min, length, sym, ap, ◌∙◌}
use Rattle.schema_rules.proofs.values.ListLemmas.{sum_step, min_more}
use Rattle.schema_rules.proofs.values.octets_in.Goals as goal

pub loop-index-preserved : goal.loop-index-preserved
loop-index-preserved c =
    rw c.values_at.ensures.exact at c.add_octets-total.ensures.exact
    ∙ min_more c.loop-index.total _ _ c.loop-index.invariant
    ∙ ap (min 67108865) (sym (sum_step (λ value. length value.octets) (λ attribute. attribute.values) c.args.entry.now.attributes c.loop-index.index))
