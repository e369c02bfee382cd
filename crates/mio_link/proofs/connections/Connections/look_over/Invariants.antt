use Rattle.mio_link.specs.Numbers.{AllStand}
use Rattle.mio_link.proofs.connections.Connections.look_over.Given as goal

-- each connection stands where it stood
abbrev pub invariant-loop-place : goal.invariant-loop-place
invariant-loop-place l = AllStand l.fn.self l.self
