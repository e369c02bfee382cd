use Rattle.whole_blocks.proofs.laws.FrontLemmas.{whole-tail}
use Rattle.whole_blocks.proofs.laws.TornLemmas.{whole-cut, whole-all}
use Rattle.whole_blocks.proofs.laws.a_torn_text_has_a_front_of_its_blocks.Goals as goal

pub returns : goal.returns
returns c = record { cut = whole-cut; whole = whole-all; tail = whole-tail }
