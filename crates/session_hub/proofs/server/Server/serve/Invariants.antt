use Rattle.session_hub.specs.serve.Turns.{IsUnderWay}
use Rattle.session_hub.proofs.server.Server.serve.Given as goal

-- the loop has heard as many events as it took turns
abbrev pub invariant-loop-turn : goal.invariant-loop-turn
invariant-loop-turn g l = IsUnderWay l.fn.self l._turn l.self
