use Rattle.ber_layout.proofs.Theorems.{reads_sound}
use Rattle.ber_layout.proofs.laws.reading_is_sound.Goals as goal

pub returns : goal.returns
returns c = reads_sound
