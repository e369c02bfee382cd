-- One of the attributes, or none.
use Rattle.std.proofs.Common.{sym, ◌∙◌, arith}
use Rattle.aci_item.specs.Rules.{has_two_values}
use Rattle.schema_rules.proofs.values.ListLemmas.{any_here, none_more, none_at_all}
use Rattle.schema_rules.proofs.values.has_two_values.Goals as goal

pub returns-then-is_doubled_at : goal.returns-then-is_doubled_at
unfolding has_two_values
returns-then-is_doubled_at c = record {
  exact = sym (any_here _ _ c.loop-index.index (sym c.is_doubled_at.ensures.exact ∙ c.if-is_doubled_at.true));
}

pub loop-index-preserved : goal.loop-index-preserved
loop-index-preserved c =
    none_more _ _ c.loop-index.index c.loop-index.invariant (sym c.is_doubled_at.ensures.exact ∙ c.if-is_doubled_at.false)

pub returns : goal.returns
unfolding has_two_values
returns c =
    let past = c.kinds-index-end.ensures.exact in
    record { exact = sym (none_at_all _ _ c.loop-index.index c.loop-index.invariant (omega arith)) }
