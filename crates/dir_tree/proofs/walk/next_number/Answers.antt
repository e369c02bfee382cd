-- A key that the base does not begin ends the walk, and one at another depth is passed over.
use Rattle.std.proofs.Common.{ℕ, Vec, Global, sym, ap, ◌∙◌}
use Rattle.dir_tree.specs.Walk.{walked}
use Rattle.dir_tree.proofs.walk.WalkLemmas.{walked-out, walked-here, walked-over, walked-none}
use Rattle.dir_tree.proofs.walk.next_number.Goals as goal

pub returns-then-not-starts_with-clause-empty : goal.returns-then-not-starts_with-clause-empty
returns-then-not-starts_with-clause-empty c = λ _.
    let value = rw c.as_slice.ensures.value at c.starts_with.ensures.value in
    sym c.loop-path.invariant
    ∙ ap (walked (λ (key : Vec ℕ Global). key.items) c.args.depth c.args.slots.now c.args.base.now) c.in-Some.ensures.steps
    ∙ walked-out (λ (key : Vec ℕ Global). key.items) c.args.depth c.args.slots.now c.args.base.now _ c.next.new.self (sym value ∙ c.if-not-starts_with.true)

pub returns-then-is_at_depth-clause-found : goal.returns-then-is_at_depth-clause-found
returns-then-is_at_depth-clause-found c =
    let value = rw c.as_slice.ensures.value at c.starts_with.ensures.value in
    sym c.loop-path.invariant
    ∙ ap (walked (λ (key : Vec ℕ Global). key.items) c.args.depth c.args.slots.now c.args.base.now) c.in-Some.ensures.steps
    ∙ walked-here (λ (key : Vec ℕ Global). key.items) c.args.depth c.args.slots.now c.args.base.now _ c.next.new.self (sym value ∙ c.if-not-starts_with.false) (sym c.is_at_depth.ensures.exact ∙ c.if-is_at_depth.true)

pub loop-path-preserved : goal.loop-path-preserved
loop-path-preserved c =
    let value = rw c.as_slice.ensures.value at c.starts_with.ensures.value in
    sym (walked-over (λ (key : Vec ℕ Global). key.items) c.args.depth c.args.slots.now c.args.base.now _ c.next.new.self (sym value ∙ c.if-not-starts_with.false) (sym c.is_at_depth.ensures.exact ∙ c.if-is_at_depth.false))
    ∙ sym (ap (walked (λ (key : Vec ℕ Global). key.items) c.args.depth c.args.slots.now c.args.base.now) c.in-Some.ensures.steps)
    ∙ c.loop-path.invariant

pub returns-clause-empty : goal.returns-clause-empty
returns-clause-empty c = λ _.
    sym c.loop-path.invariant
    ∙ ap (walked (λ (key : Vec ℕ Global). key.items) c.args.depth c.args.slots.now c.args.base.now) c.in_default.ensures.steps.0
    ∙ walked-none (λ (key : Vec ℕ Global). key.items) c.args.depth c.args.slots.now c.args.base.now
