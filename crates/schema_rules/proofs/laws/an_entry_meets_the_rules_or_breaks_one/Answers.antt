-- By the theorems.
use Rattle.schema_rules.proofs.Theorems.{Meets-from_broken_rule, broken_rule-from_Meets}
use Rattle.schema_rules.proofs.laws.an_entry_meets_the_rules_or_breaks_one.Goals as goal

pub returns : goal.returns
returns c = record { exact = λ old others entry. (Meets-from_broken_rule old others entry, broken_rule-from_Meets old others entry) }
