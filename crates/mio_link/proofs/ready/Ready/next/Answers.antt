use Rattle.mio_link.proofs.ready.ReadyLemmas.{has-far}
use Rattle.mio_link.proofs.ready.Ready.next.Goals as goal

-- no place from 320 on is in the set
pub returns-in-Some-clause-few : goal.returns-in-Some-clause-few
returns-in-Some-clause-few c = λ other far. has-far c.args.self.now other far

pub returns-in-None-clause-few : goal.returns-in-None-clause-few
returns-in-None-clause-few c = λ other far. has-far c.args.self.now other far
