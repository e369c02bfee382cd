-- Small letters change neither the syntax nor the prepared octets.
use Rattle.match_rules.proofs.laws.LawsLemmas.{key_of-case}
use Rattle.match_rules.proofs.laws.case_law.Goals as goal

pub returns : goal.returns
returns c = key_of-case
