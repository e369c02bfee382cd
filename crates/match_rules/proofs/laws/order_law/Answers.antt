-- By the first octets, and then by what is behind them.
use Rattle.match_rules.proofs.laws.OrderLemmas.{slice_cmp-IsBefore}
use Rattle.match_rules.proofs.laws.order_law.Goals as goal

pub returns : goal.returns
returns c = slice_cmp-IsBefore
