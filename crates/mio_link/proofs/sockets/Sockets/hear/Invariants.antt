use Rattle.mio_link.specs.Numbers.{Stand}
use Rattle.mio_link.specs.Sessions.{BoundsStay}
use Rattle.mio_link.proofs.sockets.Sockets.hear.Given as goal

-- places are asked alone
abbrev pub invariant-loop : goal.invariant-loop
invariant-loop l = BoundsStay l.initial.self l.self × Stand l.initial.self.connections l.self.connections
