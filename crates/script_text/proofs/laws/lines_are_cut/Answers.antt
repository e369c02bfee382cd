use Rattle.plain_values.proofs.Theorems.{lines-unended, lines-ended}
use Rattle.script_text.proofs.laws.lines_are_cut.Goals as goal

pub returns-clause-last : goal.returns-clause-last
returns-clause-last c = lines-unended

pub returns-clause-first : goal.returns-clause-first
returns-clause-first c = lines-ended
