-- By the rule.
use Rattle.match_rules.proofs.laws.LawsLemmas.{key_of-key}
use Rattle.match_rules.proofs.laws.own_key_law.Goals as goal

pub returns : goal.returns
returns c = key_of-key
