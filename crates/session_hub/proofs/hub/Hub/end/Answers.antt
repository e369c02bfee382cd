use Rattle.std.proofs.Common.{◌≡◌, ◌++◌, length, take, drop, sym, ap, ◌∙◌, subst, arith}
use Rattle.std.proofs.lemmas.Grind.{common_steps}
use Rattle.session_model.specs.Kept.{changed, closed}
use Rattle.session_hub.specs.hub.Hubs.{HubState, AreHeld, IsBounded}
use Rattle.session_hub.proofs.hub.HubLemmas.{held_closed, ends}
use Rattle.session_hub.proofs.hub.Hub.end.Goals as goal

-- the vector is what the slice became
written : (c : goal.After-self-1) →
    take c.self.inside.connections.len (c.end_at.new.connections ++ drop (length c.end_at.new.connections) c.self.inside.connections.items) ≡ changed c.args.conn closed c.self.inside.connections.items
written c = grind (arith, common_steps)

pub invariant_of-self : goal.invariant_of-self
invariant_of-self c = subst AreHeld (sym (written c)) (held_closed c.args.conn c.self.inside.connections.items c.self.invariant)

pub returns-clause-ended : goal.returns-clause-ended
returns-clause-ended c =
    ends c.args.conn c.args.self.now _
    (ap (λ ks. let h : HubState = record { kept = ks; was_cut = c.self.inside.was_cut; unstored = c.self.inside.unstored.items; bounds = c.self.inside.bounds } in h) (written c)
    ∙ ap (λ (h : HubState). let now : HubState = record h { kept = changed c.args.conn closed h.kept } in now) c.self.view_is)

pub returns-clause-bounded : goal.returns-clause-bounded
returns-clause-bounded c = subst IsBounded (sym (written c)) (held_closed c.args.conn c.self.inside.connections.items c.self.invariant).bounded
