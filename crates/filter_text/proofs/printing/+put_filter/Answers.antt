-- One member more was printed.
use Rattle.std.proofs.Common.{◌∙◌}
use Rattle.filter_text.proofs.printing.PrintLemmas.{list_text-more}
use Rattle.filter_text.proofs.printing.+put_filter.Goals as goal

pub put_node-loop-conjunct-preserved : goal.put_node-loop-conjunct-preserved
put_node-loop-conjunct-preserved t c =
    list_text-more c.args.out.now.items 38 c.deref-conjunct-items.result.now c.loop-conjunct.conjunct-index c.conjunct-item.result c.loop-conjunct-test.true c.conjunct-item.is _ _ c.loop-conjunct.invariant c.in_ok-put_filter-in-And.ensures.ok

pub put_node-loop-disjunct-preserved : goal.put_node-loop-disjunct-preserved
put_node-loop-disjunct-preserved t c =
    list_text-more c.args.out.now.items 124 c.deref-disjunct-items.result.now c.loop-disjunct.disjunct-index c.disjunct-item.result c.loop-disjunct-test.true c.disjunct-item.is _ _ c.loop-disjunct.invariant c.in_ok-put_filter-in-Or.ensures.ok
