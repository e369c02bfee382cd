-- In place under the same name, or taken out and put in again.
use Rattle.schema_rules.proofs.laws.InPlaceLemmas.{AreGood-same_name}
use Rattle.schema_rules.proofs.laws.MovedLemmas.{AreGood-moved}
use Rattle.schema_rules.proofs.laws.a_tree_stays_good_in_place.Goals as goal

pub returns : goal.returns
returns c = record { same = AreGood-same_name; moved = AreGood-moved }
