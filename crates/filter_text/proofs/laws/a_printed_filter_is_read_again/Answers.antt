-- The printed form is a text of the filter.
use Rattle.filter_text.specs.Printing.{print_filter}
use Rattle.filter_text.proofs.Theorems.{filter_in-Ok}
use Rattle.filter_text.proofs.printing.AgainLemmas.{printed}
use Rattle.filter_text.proofs.laws.a_printed_filter_is_read_again.Goals as goal

pub returns : goal.returns
returns c = λ filter has low. (filter_in-Ok filter (print_filter filter)).1 (printed filter has.0 has.1, low)
