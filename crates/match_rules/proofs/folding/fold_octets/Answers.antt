-- ASCII text folds to its small letters, and the octets of any other text are those of its characters.
use Rattle.std.proofs.Common.{arith}
use Rattle.std.proofs.lemmas.Grind.{common_steps}
use Rattle.match_rules.specs.Folding.{folded_octets}
use Rattle.match_rules.proofs.folding.FoldingLemmas.{folded_octets-ascii}
use Rattle.match_rules.proofs.folding.fold_octets.Goals as goal

pub returns-then-is_ascii : goal.returns-then-is_ascii
returns-then-is_ascii c = rw (folded_octets-ascii c.args.octets.now c.if-is_ascii.ensures.cases) c.lower_case.ensures

pub returns-else-is_ascii : goal.returns-else-is_ascii
unfolding folded_octets
returns-else-is_ascii c = grind (arith, common_steps)
