use Rattle.ber_layout.proofs.Theorems.{writes_says}
use Rattle.ber_layout.proofs.laws.writing_says.Goals as goal

pub returns : goal.returns
returns c = writes_says
