use Rattle.acl_program.proofs.program.RunLemmas.{Runs-prints, Runs-complete, Runs-usage_cause, Runs-cause, Runs-faults, Runs-link}
use Rattle.acl_program.proofs.program.TwinReplays.{Runs-twins}
use Rattle.acl_program.proofs.program.run.Goals as goal

-- each clause of what is known of the outcome
pub returns-clause-text : goal.returns-clause-text
returns-clause-text g c = Runs-prints _ _ _ _ c.run_words.ensures.runs

pub returns-clause-complete : goal.returns-clause-complete
returns-clause-complete g c = λ outcome due shelf sink.
    Runs-complete _ _ _ _ outcome c.run_words.ensures.runs due shelf sink

pub returns-clause-usage : goal.returns-clause-usage
returns-clause-usage g c = λ is. Runs-usage_cause _ _ _ _ c.run_words.ensures.runs is

pub returns-clause-refused : goal.returns-clause-refused
returns-clause-refused g c = Runs-cause _ _ _ _ c.run_words.ensures.runs

pub returns-clause-faults : goal.returns-clause-faults
returns-clause-faults g c = Runs-faults _ _ _ _ c.run_words.ensures.runs

pub returns-clause-link : goal.returns-clause-link
returns-clause-link g c = λ other. Runs-link _ _ _ _ c.run_words.ensures.runs other

pub returns-clause-twins : goal.returns-clause-twins
returns-clause-twins g c = Runs-twins _ _ _ _ c.run_words.ensures.runs
