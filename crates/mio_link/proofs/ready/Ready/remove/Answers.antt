use Rattle.std.proofs.Common.{refl, ◌∙◌, arith}
use Rattle.mio_link.proofs.ready.ReadyLemmas.{has-zero, has-far, has-same, bit_of-set_same, bit_of-set_other}
use Rattle.mio_link.proofs.ready.Ready.remove.Goals as goal

-- the bit of the place is clear, and the others are as they were
pub returns-then-place-lt-MOST : goal.returns-then-place-lt-MOST
returns-then-place-lt-MOST c = record {
  removed = has-zero _ c.args.place (bit_of-set_same c.args.self.now.words c.args.place c.without_bit.result (omega arith) ∙ c.without_bit.ensures.clear);
  others = λ other different. has-same c.args.self.now _ other (bit_of-set_other c.args.self.now.words c.args.place c.without_bit.result other (omega arith) different c.without_bit.ensures.others);
}

-- it never was in the set
pub returns-else-place-lt-MOST : goal.returns-else-place-lt-MOST
returns-else-place-lt-MOST c = record { removed = has-far c.args.self.now c.args.place (omega arith); others = λ other different. refl }
