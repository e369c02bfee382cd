-- As the call says.
use Rattle.std.proofs.Common.{◌≡◌, ℕ, List, [], ◌∷◌, subst}
use Rattle.std.specs.Prelude.{MatchOption}
use Rattle.admin_scope.specs.Walking.{points_up}
use Rattle.admin_scope.proofs.upwards.PointWalkIterator.next.Goals as goal

pub returns-clause-steps : goal.returns-clause-steps
returns-clause-steps c =
    subst (λ (left : List ℕ). MatchOption c.next_point.result
    ((left ≡ []) × (points_up c.next_point.new.len c.self.inside.name.now c.self.inside.tree.now ≡ []))
    (λ number. left ≡ number.0 ∷ points_up c.next_point.new.len c.self.inside.name.now c.self.inside.tree.now)) c.self.view_is c.next_point.ensures.exact
