-- By whether a pair follows.
use Rattle.dn_names.proofs.path.PathLemmas.{rdn_part-next, rdn_part-end}
use Rattle.dn_names.proofs.path.after_rdn.Goals as goal

pub returns-then-mark-ne-PAIR : goal.returns-then-mark-ne-PAIR
returns-then-mark-ne-PAIR c = record {
  exact = λ rdn more e.
      (let found = c.loop-mark.invariant rdn more e in
      rdn_part-end c.loop-mark.rest.now c.in-Some.others.now c.in-Some.mark.now found.0 more c.in-Some.ensures.cases.0 c.if-mark-ne-PAIR.true found.1);
}

pub loop-mark-preserved : goal.loop-mark-preserved
loop-mark-preserved c = λ rdn more e.
    (let found = c.loop-mark.invariant rdn more e in
    rdn_part-next c.loop-mark.rest.now c.in-Some.others.now c.after_pair-rest.result.now c.in-Some.mark.now found.0 more c.in-Some.ensures.cases.0 c.if-mark-ne-PAIR.false c.after_pair-rest.ensures.exact found.1)
