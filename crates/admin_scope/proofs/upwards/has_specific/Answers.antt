-- By the front.
use Rattle.std.proofs.Common.{◌≡◌, ◌<◌, sym, ◌∙◌, ap, arith}
use Rattle.admin_scope.specs.Walking.{has_specific}
use Rattle.admin_scope.proofs.subentries.WalkLemmas.{has_specific-here, has_specific-other, has_specific-end}
use Rattle.admin_scope.proofs.upwards.has_specific.Goals as goal

pub returns-then-is_specific_front : goal.returns-then-is_specific_front
returns-then-is_specific_front c =
    let some : 0 < c.loop-len.len = omega arith in
    record {
      exact = sym (ap (λ n. has_specific n c.args.name.now c.args.tree.now) (sym c.len-len.ensures.exact)
          ∙ sym c.loop-len.invariant
          ∙ has_specific-here c.loop-len.len c.args.name.now c.args.tree.now some (sym c.is_specific_front.ensures.exact ∙ c.if-is_specific_front.true));
    }

pub loop-len-preserved : goal.loop-len-preserved
loop-len-preserved c =
    let some : 0 < c.loop-len.len = omega arith in
    sym (has_specific-other c.loop-len.len c.args.name.now c.args.tree.now some (sym c.is_specific_front.ensures.exact ∙ c.if-is_specific_front.false))
    ∙ c.loop-len.invariant

pub returns : goal.returns
returns c =
    let none : c.loop-len.len ≡ 0 = omega arith in
    record {
      exact = sym (ap (λ n. has_specific n c.args.name.now c.args.tree.now) (sym c.len-len.ensures.exact)
          ∙ sym c.loop-len.invariant
          ∙ has_specific-end c.loop-len.len c.args.name.now c.args.tree.now none);
    }
