-- At the end the lengths decide.
use Rattle.std.proofs.Common.{sym, ◌∙◌, arith}
use Rattle.dn_names.specs.NameOrder.{pair_cmp}
use Rattle.subtree_spec.proofs.membership.PairOrderLemmas.{slice_cmp-end}
use Rattle.subtree_spec.proofs.membership.compare_rdn.Goals as goal

pub returns : goal.returns
returns c = record {
  exact = c.cmp.ensures
      ∙ sym (slice_cmp-end pair_cmp c.args.one.now c.args.other.now c.loop-index.index (omega arith) (omega arith) c.loop-index.invariant.within)
      ∙ c.loop-index.invariant.exact;
}
