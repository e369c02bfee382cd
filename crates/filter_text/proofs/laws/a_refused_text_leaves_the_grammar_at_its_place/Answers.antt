-- The place, that there is no filter, and that no front is too deep.
use Rattle.filter_text.proofs.Theorems.{filter_in-place, filter_in-none, filter_in-shallow}
use Rattle.filter_text.proofs.laws.a_refused_text_leaves_the_grammar_at_its_place.Goals as goal

pub returns : goal.returns
returns c = record { place = filter_in-place; none = filter_in-none; shallow = filter_in-shallow }
