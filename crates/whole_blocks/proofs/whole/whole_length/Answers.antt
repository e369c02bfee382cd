use Rattle.std.proofs.Common.{sym, ◌∙◌, arith}
use Rattle.whole_blocks.proofs.whole.EndLemmas.{nothing-more, whole-to}
use Rattle.whole_blocks.proofs.whole.whole_length.Goals as goal

-- a block ends at the place
pub returns-then-ends_block-clause-exact : goal.returns-then-ends_block-clause-exact
returns-then-ends_block-clause-exact c =
    (whole-to c.args.text.now c.loop-from.from c.loop-from-test.true c.loop-from.invariant.within c.loop-from.invariant.nothing (sym c.ends_block.ensures.exact ∙ c.if-ends_block.true)).exact

pub returns-then-ends_block-clause-within : goal.returns-then-ends_block-clause-within
returns-then-ends_block-clause-within c =
    (whole-to c.args.text.now c.loop-from.from c.loop-from-test.true c.loop-from.invariant.within c.loop-from.invariant.nothing (sym c.ends_block.ensures.exact ∙ c.if-ends_block.true)).within

-- none ends there
pub loop-from-preserved : goal.loop-from-preserved
loop-from-preserved c = record {
  nothing = nothing-more c.args.text.now c.loop-from.from c.loop-from-test.true c.loop-from.invariant.nothing (sym c.ends_block.ensures.exact ∙ c.if-ends_block.false);
  within = omega arith;
}
