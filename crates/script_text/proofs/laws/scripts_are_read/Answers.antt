use Rattle.script_text.proofs.laws.LawLemmas.{script_of-ok, IsScript-read, script_of-err, IsFirstBadLine-read}
use Rattle.script_text.proofs.laws.scripts_are_read.Goals as goal

pub returns-clause-ok : goal.returns-clause-ok
returns-clause-ok c = λ text events. (script_of-ok text events, IsScript-read text events)

pub returns-clause-bad : goal.returns-clause-bad
returns-clause-bad c = λ text number. (script_of-err text number, IsFirstBadLine-read text number)
