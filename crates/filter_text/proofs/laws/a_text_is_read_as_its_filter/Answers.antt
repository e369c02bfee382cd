-- Both directions.
use Rattle.filter_text.proofs.Theorems.{filter_in-Ok}
use Rattle.filter_text.proofs.laws.a_text_is_read_as_its_filter.Goals as goal

pub returns : goal.returns
returns c = filter_in-Ok
