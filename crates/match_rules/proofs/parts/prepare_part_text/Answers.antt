-- Each step is a step of the definition.
use Rattle.std.proofs.Common.{arith}
use Rattle.std.proofs.lemmas.Grind.{common_steps}
use Rattle.match_rules.specs.Parts.{prepared_part_text}
use Rattle.match_rules.proofs.parts.prepare_part_text.Goals as goal

pub returns : goal.returns
unfolding prepared_part_text
returns c = grind (arith, common_steps)
