-- Each step is a step of the definition.
use Rattle.std.proofs.Common.{arith}
use Rattle.std.proofs.lemmas.Grind.{common_steps}
use Rattle.match_rules.specs.Keys.{prepared_text}
use Rattle.match_rules.proofs.keys.prepare_text.Goals as goal

pub returns : goal.returns
unfolding prepared_text
returns c = grind (arith, common_steps)
