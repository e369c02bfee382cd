use Rattle.ber_layout.proofs.Theorems.{reads_again}
use Rattle.ber_layout.proofs.laws.writing_is_read_again.Goals as goal

pub returns : goal.returns
returns c = reads_again
