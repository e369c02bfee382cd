use Rattle.ber_elements.proofs.Theorems.{int_spells, written_integer}
use Rattle.ber_elements.proofs.laws.integers_read_again.Goals as goal

pub returns : goal.returns
returns c value fits = record { stands = (int_spells value fits).0; again = written_integer value fits }
