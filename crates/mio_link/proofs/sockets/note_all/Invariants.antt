use Rattle.mio_link.specs.Numbers.{AllStand}
use Rattle.mio_link.proofs.sockets.note_all.Given as goal

-- each connection stands where it stood
abbrev pub invariant-loop-event : goal.invariant-loop-event
invariant-loop-event l = AllStand l.fn.connections l.connections
