-- The lists of the number are none, and those of other numbers stay.
use Rattle.std.proofs.Common.{◌∙◌, arith}
use Rattle.aci_lists.proofs.changing.DropLemmas.{lists_at-beyond, lists_at-set_other, lists_at-set_same}
use Rattle.aci_lists.proofs.changing.empty_lists.Goals as goal

pub returns-then-index-kept : goal.returns-then-index-kept
returns-then-index-kept c = record {
  gone = lists_at-set_same c.args.kept.now c.args.number.0 c.no_lists.result (omega arith) ∙ c.no_lists.ensures.exact;
  others = λ id other. lists_at-set_other c.args.kept.now c.args.number.0 c.no_lists.result id other;
}

pub returns-else-index-kept-clause-gone : goal.returns-else-index-kept-clause-gone
returns-else-index-kept-clause-gone c = lists_at-beyond c.args.kept.now c.args.number.0 (omega arith)
