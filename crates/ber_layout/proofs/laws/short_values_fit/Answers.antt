use Rattle.ber_layout.proofs.Theorems.{fits_within}
use Rattle.ber_layout.proofs.laws.short_values_fit.Goals as goal

pub returns : goal.returns
returns c = fits_within
