use Rattle.std.proofs.Common.{◌∙◌, arith}
use Rattle.mio_link.proofs.ready.ReadyLemmas.{has-one, has-same, bit_of-set_same, bit_of-set_other}
use Rattle.mio_link.proofs.ready.Ready.add.Goals as goal

-- the bit of the place is set, and the others are as they were
pub returns-then-place-lt-MOST : goal.returns-then-place-lt-MOST
returns-then-place-lt-MOST c = record {
  added = λ few. has-one _ c.args.place (bit_of-set_same c.args.self.now.words c.args.place c.with_bit.result (omega arith) ∙ c.with_bit.ensures.set) few;
  others = λ other different. has-same c.args.self.now _ other (bit_of-set_other c.args.self.now.words c.args.place c.with_bit.result other (omega arith) different (λ bit few apart. c.with_bit.ensures.others bit apart));
}
