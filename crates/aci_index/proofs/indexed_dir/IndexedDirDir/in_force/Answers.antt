-- What is kept is that of the tree, and its numbers are in use.
use Rattle.std.proofs.Common.{ℕ, ◌≡◌, List, Some, sym, subst, map}
use Rattle.std.specs.Option.{IsSome}
use Rattle.std.specs.List.{AllByRecursion}
use Rattle.dir_tree.specs.tree.Numbered.{Numbered, entry_of}
use Rattle.aci_lists.specs.declared.kept.Kept.{Kept}
use Rattle.aci_lists.specs.kept.Lists.{IsKept}
use Rattle.aci_index.proofs.indexed_dir.IndexedDirDir.in_force.Goals as goal

pub returns-clause-live : goal.returns-clause-live
returns-clause-live c = λ entry found.
    let kept = subst (λ (kept : List Kept). IsKept kept c.self.inside.tree) (sym c.deref.ensures.value) c.self.invariant.held.lists in
    let before = subst (λ (rows : List Numbered). entry_of c.args.number.0 rows ≡ Some entry) (sym c.self.view_is) found in
    let live =
    subst (λ (ids : List ℕ). AllByRecursion (λ id. IsSome (entry_of id c.self.inside.tree)) ids) (sym c.in_force_at.ensures.exact)
    (kept c.args.number.0 entry before).live in
    subst (λ (rows : List Numbered). AllByRecursion (λ id. IsSome (entry_of id rows)) (map (λ no. no.0) c.in_force_at.result.now)) c.self.view_is live
