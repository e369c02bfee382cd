-- The law is proved of the definitions.
use Rattle.hush_looks.proofs.laws.StayLemmas.{message-stays, none-stays, closed-stays, opened-stays, ended-stays, hung_up-stays}
use Rattle.hush_looks.proofs.laws.a_step_that_is_not_due_shows_nothing_new.Goals as goal

pub returns : goal.returns
returns c = record { message = message-stays; none = none-stays; closed = closed-stays; opened = opened-stays; ended = ended-stays; hung_up = hung_up-stays }
