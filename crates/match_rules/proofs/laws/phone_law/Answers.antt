-- The separators are left out last.
use Rattle.match_rules.proofs.laws.LawsLemmas.{key_of-plain}
use Rattle.match_rules.proofs.laws.phone_law.Goals as goal

pub returns : goal.returns
returns c = key_of-plain
