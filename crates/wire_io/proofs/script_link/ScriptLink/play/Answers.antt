use Rattle.std.proofs.Common.{length, Some, ap, ◌∙◌}
use Rattle.wire_io.specs.Playing.{next_turn, holds_of}
use Rattle.wire_io.specs.link.Telling.{event_of}
use Rattle.wire_io.proofs.script_link.TurnLemmas.{good_turn, IsPlayable-turned, NextTells-turned}
use Rattle.wire_io.proofs.script_link.ScriptLink.play.Goals as goal

-- the event was noted, and the others may come after it
pub invariant_of-self-2 : goal.invariant_of-self-2
invariant_of-self-2 c =
    IsPlayable-turned (next_turn (holds_of (Some c.self.inside.journal)) (length c.args.buf.now) c.self.inside.script) (event_of c.turn-heard.new.buf c.turn-heard.result)
    (good_turn c.self.inside.journal (length c.args.buf.now) c.self.inside.script c.self.invariant) c.in_ok-hear.ensures.ok c.turn-heard.ensures.event
    (c.pass.ensures.exact ∙ c.turn-heard.ensures.left)

-- the event may come
pub returns-clause-tells : goal.returns-clause-tells
returns-clause-tells c =
    NextTells-turned _ (next_turn (holds_of (Some c.self.inside.journal)) (length c.args.buf.now) c.self.inside.script) c.turn-heard.new.buf c.turn-heard.result
    (ap (λ link. link.journal) c.self.view_is) (good_turn c.self.inside.journal (length c.args.buf.now) c.self.inside.script c.self.invariant)
    c.in_ok-hear.ensures.ok c.turn-heard.ensures.event
