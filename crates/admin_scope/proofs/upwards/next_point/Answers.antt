-- By what stands at the front.
use Rattle.std.proofs.Common.{◌≡◌, ◌<◌, sym, ◌∙◌, ap, arith}
use Rattle.std.specs.Option.{option_map}
use Rattle.admin_scope.proofs.subentries.WalkLemmas.{points_up-specific, points_up-inner, points_up-other, points_up-nothing, points_up-end}
use Rattle.admin_scope.proofs.upwards.next_point.Goals as goal

pub returns-then-is_specific : goal.returns-then-is_specific
returns-then-is_specific c =
    let some : 0 < c.loop-len.len = omega arith in
    let front = sym c.find_prefix.ensures.exact ∙ ap (option_map (λ no. no.0)) c.in-Some.is in
    record {
      exact = sym c.loop-len.invariant
          ∙ points_up-specific c.loop-len.len c.args.name.now c.args.tree.now c.in-Some.number.0 some front (sym c.is_specific.ensures.exact ∙ c.if-is_specific.true);
    }

pub returns-then-is_inner : goal.returns-then-is_inner
returns-then-is_inner c =
    let some : 0 < c.loop-len.len = omega arith in
    let front = sym c.find_prefix.ensures.exact ∙ ap (option_map (λ no. no.0)) c.in-Some.is in
    record {
      exact = sym c.loop-len.invariant
          ∙ points_up-inner c.loop-len.len c.args.name.now c.args.tree.now c.in-Some.number.0 some front (sym c.is_specific.ensures.exact ∙ c.if-is_specific.false) (sym c.is_inner.ensures.exact ∙ c.if-is_inner.true);
    }

pub loop-len-preserved-else-is_inner : goal.loop-len-preserved-else-is_inner
loop-len-preserved-else-is_inner c =
    let some : 0 < c.loop-len.len = omega arith in
    let front = sym c.find_prefix.ensures.exact ∙ ap (option_map (λ no. no.0)) c.in-Some.is in
    sym (points_up-other c.loop-len.len c.args.name.now c.args.tree.now c.in-Some.number.0 some front (sym c.is_specific.ensures.exact ∙ c.if-is_specific.false) (sym c.is_inner.ensures.exact ∙ c.if-is_inner.false))
    ∙ c.loop-len.invariant

pub loop-len-preserved : goal.loop-len-preserved
loop-len-preserved c =
    let some : 0 < c.loop-len.len = omega arith in
    sym (points_up-nothing c.loop-len.len c.args.name.now c.args.tree.now some (sym c.find_prefix.ensures.exact ∙ ap (option_map (λ no. no.0)) c.in_default.is))
    ∙ c.loop-len.invariant

pub returns : goal.returns
returns c =
    let none : c.loop-len.len ≡ 0 = omega arith in
    let end = points_up-end c.loop-len.len c.args.name.now c.args.tree.now none in
    record { exact = (sym c.loop-len.invariant ∙ end, end) }
