use Rattle.session_model.proofs.Theorems.{own_steps, events_of}
use Rattle.session_model.proofs.laws.own_steps.Goals as goal

pub returns-clause-uncut : goal.returns-clause-uncut
returns-clause-uncut c = λ journal steps are none. own_steps journal steps are none

pub returns-clause-events : goal.returns-clause-events
returns-clause-events c = λ journal. events_of journal
