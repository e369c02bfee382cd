use Rattle.mio_link.specs.Numbers.{AllStand}
use Rattle.mio_link.specs.Sessions.{BoundsStay}
use Rattle.mio_link.proofs.sockets.Sockets.hear_let_go.Given as goal

-- places alone are taken off
abbrev pub invariant-loop : goal.invariant-loop
invariant-loop l = BoundsStay l.initial.self l.self × AllStand l.initial.self.connections l.self.connections
