use Rattle.mio_link.proofs.bits.MaskLemmas.{mask_below, mask_inside}
use Rattle.mio_link.proofs.bits.from_bit.Goals as goal

pub returns-clause-below : goal.returns-clause-below
returns-clause-below c = λ other below. mask_below c.args.word c.args.bit other c.requires below

pub returns-clause-others : goal.returns-clause-others
returns-clause-others c = λ other above few. mask_inside c.args.word c.args.bit other c.requires above few
