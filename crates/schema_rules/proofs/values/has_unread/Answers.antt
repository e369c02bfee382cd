-- One of the attributes, or none.
use Rattle.std.proofs.Common.{sym, ◌∙◌, arith}
use Rattle.aci_item.specs.Rules.{has_unread}
use Rattle.schema_rules.proofs.values.ListLemmas.{any_here, none_more, none_at_all}
use Rattle.schema_rules.proofs.values.has_unread.Goals as goal

pub returns-then-unread : goal.returns-then-unread
unfolding has_unread
returns-then-unread c = record {
  exact = sym (any_here _ _ c.loop-index.index (sym c.in_ok-unread.ensures.exact ∙ c.if-unread.true));
}

pub loop-index-preserved : goal.loop-index-preserved
loop-index-preserved c =
    none_more _ _ c.loop-index.index c.loop-index.invariant (sym c.in_ok-unread.ensures.exact ∙ c.if-unread.false)

pub returns : goal.returns
unfolding has_unread
returns c =
    let past = c.kinds-index-end.ensures.exact in
    record { exact = sym (none_at_all _ _ c.loop-index.index c.loop-index.invariant (omega arith)) }
