use Rattle.std.proofs.Common.{sym, subst}
use Rattle.session_hub.specs.hub.Hubs.{AreHeld}
use Rattle.session_hub.proofs.hub.HubLemmas.{held_forgotten}
use Rattle.session_hub.proofs.hub.Hub.forget.Goals as goal

-- what is left is bounded, and distinct
pub invariant_of-self : goal.invariant_of-self
invariant_of-self c = subst AreHeld (sym c.forget_at.ensures) (held_forgotten c.args.conn c.self.inside.connections.items c.self.invariant)
