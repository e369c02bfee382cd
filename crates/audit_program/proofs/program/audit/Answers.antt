use Rattle.audit_program.proofs.program.PrintLemmas.{Prints-done, Prints-cause, Prints-faults, Prints-complete}
use Rattle.audit_program.proofs.program.audit.Goals as goal

-- each clause of what is known of how it ended
pub returns-clause-text : goal.returns-clause-text
returns-clause-text g c = c.audit_words.ensures.prints

pub returns-clause-done : goal.returns-clause-done
returns-clause-done g c = λ done. Prints-done _ _ _ _ c.audit_words.ensures.prints done

pub returns-clause-complete : goal.returns-clause-complete
returns-clause-complete g c = λ due shelf sink. Prints-complete _ _ _ _ c.audit_words.ensures.prints due shelf sink

pub returns-clause-cause : goal.returns-clause-cause
returns-clause-cause g c = Prints-cause _ _ _ _ c.audit_words.ensures.prints

pub returns-clause-faults : goal.returns-clause-faults
returns-clause-faults g c = Prints-faults _ _ _ _ c.audit_words.ensures.prints
