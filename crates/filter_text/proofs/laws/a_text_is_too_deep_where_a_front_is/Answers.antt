-- Both directions.
use Rattle.filter_text.proofs.Theorems.{filter_in-TooDeep}
use Rattle.filter_text.proofs.laws.a_text_is_too_deep_where_a_front_is.Goals as goal

pub returns : goal.returns
returns c = filter_in-TooDeep
