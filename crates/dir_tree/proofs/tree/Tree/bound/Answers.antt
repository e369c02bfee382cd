-- Each number in use is one of a slot.
use Rattle.std.specs.Map.{values_of}
use Rattle.std.proofs.Common.{◌≡◌, ℕ, List, ◌<◌, length, arith, subst}
use Rattle.std.specs.List.{AllByRecursion}
use Rattle.dir_tree.specs.tree.Numbered.{Numbered}
use Rattle.dir_tree.proofs.tree.TreeLemmas.{numbers_below}
use Rattle.dir_tree.proofs.tree.Tree.bound.Goals as goal

pub returns-clause-exact : goal.returns-clause-exact
returns-clause-exact c =
    let same : length c.self.inside.slots.items ≡ c.len.result = omega (arith, c.len.ensures) in
    subst (λ (most : ℕ). AllByRecursion (λ (row : Numbered). row.id < most) c.args.self.now) same
    (subst (λ (rows : List Numbered). AllByRecursion (λ row. row.id < length c.self.inside.slots.items) rows) c.self.view_is
    (numbers_below c.self.inside.slots.items (values_of c.self.inside.places.entries) c.self.invariant.kept))
