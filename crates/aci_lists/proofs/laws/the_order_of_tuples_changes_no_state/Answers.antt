-- The laws are proved of the definitions.
use Rattle.aci_lists.proofs.ordering.OrderLemmas.{highest_first-ordered, filter-highest_first}
use Rattle.aci_lists.proofs.weighing.WeighLemmas.{fold-highest_first}
use Rattle.aci_lists.proofs.laws.the_order_of_tuples_changes_no_state.Goals as goal

pub returns : goal.returns
returns c = record { ordered = highest_first-ordered; same = filter-highest_first; exact = fold-highest_first }
