use Rattle.ber_layout.proofs.Theorems.{reads_complete}
use Rattle.ber_layout.proofs.laws.reading_is_complete.Goals as goal

pub returns : goal.returns
returns c = reads_complete
