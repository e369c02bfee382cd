use Rattle.std.proofs.Common.{rules, nat_eq, subst}
use Rattle.std.specs.Cmp.{nat_eq_equiv}
use Rattle.std.specs.List.{IsDistinct}
use Rattle.std.proofs.lemmas.Map.Keys.{IsDistinct-push}
use Rattle.session_hub.proofs.waiting.Waiting.hold.Goals as goal

-- it wasn't on hold yet
pub invariant_of-self-clause-once : goal.invariant_of-self-clause-once
invariant_of-self-clause-once c = subst (IsDistinct nat_eq) (search rules) (IsDistinct-push nat_eq_equiv c.args.self.now.on_hold.items c.args.conn c.args.self.now.once c.requires)
