use Rattle.std.proofs.Common.{◌≡◌, ◌++◌, length, take, drop, sym, ap, ◌∙◌, subst, arith}
use Rattle.std.proofs.lemmas.Grind.{common_steps}
use Rattle.session_model.specs.Kept.{taken_off}
use Rattle.session_hub.specs.hub.Hubs.{HubState, AreHeld}
use Rattle.session_hub.proofs.hub.FollowingLemmas.{follows_taking}
use Rattle.session_hub.proofs.hub.HubLemmas.{held_taken}
use Rattle.session_hub.proofs.hub.Hub.took.Goals as goal

-- the vector is what the slice became
written : (c : goal.After-self-1) →
    take c.self.inside.connections.len (c.take_off.new.connections ++ drop (length c.take_off.new.connections) c.self.inside.connections.items) ≡ taken_off c.args.conn c.args.count c.self.inside.connections.items
written c = grind (arith, common_steps)

pub invariant_of-self : goal.invariant_of-self
invariant_of-self c = subst AreHeld (sym (written c)) (held_taken c.args.conn c.args.count c.self.inside.connections.items c.self.invariant)

pub returns-clause-exact : goal.returns-clause-exact
returns-clause-exact c =
    ap (λ ks. let h : HubState = record { kept = ks; was_cut = c.self.inside.was_cut; unstored = c.self.inside.unstored.items; bounds = c.self.inside.bounds } in h) (written c)
    ∙ ap (λ (h : HubState). let now : HubState = record h { kept = taken_off c.args.conn c.args.count h.kept } in now) c.self.view_is

pub returns-clause-run : goal.returns-clause-run
returns-clause-run c =
    follows_taking c.args.conn c.args.count c.args.self.now _
    (ap (λ ks. let h : HubState = record { kept = ks; was_cut = c.self.inside.was_cut; unstored = c.self.inside.unstored.items; bounds = c.self.inside.bounds } in h) (written c)
    ∙ ap (λ (h : HubState). let now : HubState = record h { kept = taken_off c.args.conn c.args.count h.kept } in now) c.self.view_is) c.requires
