use Rattle.std.proofs.Common.{◌∙◌, ◌≡◌, subst, None}
use Rattle.session_model.specs.Kept.{kept_of}
use Rattle.session_hub.specs.hub.Hubs.{IsAt}
use Rattle.session_hub.proofs.hub.HubLemmas.{removes_all, forgets_none}
use Rattle.session_hub.proofs.places.forget_at.Goals as goal

-- the one that was to be forgotten is gone
pub returns-in-Some : goal.returns-in-Some
returns-in-Some c =
    let place : IsAt c.args.number c.in-Some.at c.args.connections.now.items = subst (λ ks. IsAt c.args.number c.in-Some.at ks) c.deref.ensures.value c.in-Some.ensures in
    c.remove-gone.ensures.items ∙ removes_all c.args.number c.in-Some.at c.args.connections.now.items c.requires place

-- there was none
pub returns-in-None : goal.returns-in-None
returns-in-None c =
    let none : kept_of c.args.number c.args.connections.now.items ≡ None = subst (λ ks. kept_of c.args.number ks ≡ None) c.deref.ensures.value c.in-None.ensures in
    forgets_none c.args.number c.args.connections.now.items none
