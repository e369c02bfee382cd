use Rattle.std.proofs.Common.{◌+◌, ◌*◌, inl, inr, arith}
use Rattle.std.proofs.lemmas.Bool.{cases_lt}
use Rattle.mio_link.proofs.ready.ReadyLemmas.{past, found, has-far}
use Rattle.mio_link.proofs.ready.Ready.first.Goals as goal

-- the lowest bit that is left in the word is the first place
pub returns-then-left-ne0-clause-exact : goal.returns-then-left-ne0-clause-exact
returns-then-left-ne0-clause-exact c =
    found c.args.self.now c.args.from c.loop-index.index c.not_below-left.result c.lowest_bit.result (c.loop-index.index * 64 + c.lowest_bit.result)
    (omega arith) (omega arith) (omega arith) c.lowest_bit.ensures.set c.lowest_bit.ensures.lowest c.not_below-left.ensures.exact
    c.not_below-left.ensures.below c.loop-index.invariant (cases_lt (c.loop-index.index * 64 + c.lowest_bit.result) c.args.from)

-- no bit is left in the word
pub loop-index-preserved : goal.loop-index-preserved
loop-index-preserved c = λ other reached passed.
    past c.args.self.now c.args.from c.loop-index.index c.not_below-left.result (omega arith) c.not_below-left.ensures.exact
    c.loop-index.invariant other reached passed (cases_lt other (c.loop-index.index * 64))

-- no bit is left in any word
pub returns-clause-exact : goal.returns-clause-exact
returns-clause-exact c = λ other reached. elim (cases_lt other 320) [
  | inl few ↦ c.loop-index.invariant other reached (omega arith)
  | inr far ↦ has-far c.args.self.now other far
]
