-- No old entry is below the new one, and the counts are those that the new one was checked with.
use Rattle.schema_rules.proofs.laws.StayLemmas.{AreGood-none, AreGood-put_in}
use Rattle.schema_rules.proofs.laws.a_tree_stays_good.Goals as goal

pub returns : goal.returns
returns c = record { empty = AreGood-none; exact = AreGood-put_in }
