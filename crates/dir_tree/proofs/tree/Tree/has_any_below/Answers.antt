-- The first key after the name's own begins with it where an entry stands below.
use Rattle.std.proofs.Common.{ℕ, sym, ap, ◌∙◌, Vec, Global}
use Rattle.dir_tree.proofs.walk.WalkLemmas.{begins_first, below-first}
use Rattle.dir_tree.proofs.tree.Tree.has_any_below.Goals as goal

pub returns-in-Some : goal.returns-in-Some
returns-in-Some c =
    let value = rw (c.as_slice.ensures.value, c.as_slice-in-Some.ensures.value) at c.starts_with.ensures.value in
    let first = ap (begins_first (λ (key : Vec ℕ Global). key.items) c.path-path.result.now.items) (sym (c.range-after.ensures.between tt) ∙ c.in-Some.ensures.steps) in
    record {
      exact = value ∙ rw (← c.self.view_is) (sym first ∙ below-first (λ (key : Vec ℕ Global). key.items) c.self.inside.slots.items c.path-path.result.now.items c.args.name.now c.path-path.ensures.exact c.self.inside.places.entries c.self.invariant.keyed c.self.invariant.kept.ordered.sorted);
    }

pub returns-in-None : goal.returns-in-None
returns-in-None c =
    let first = ap (begins_first (λ (key : Vec ℕ Global). key.items) c.path-path.result.now.items) (sym (c.range-after.ensures.between tt) ∙ c.in-None.ensures.steps.0) in
    record {
      exact = rw (← c.self.view_is) (sym first ∙ below-first (λ (key : Vec ℕ Global). key.items) c.self.inside.slots.items c.path-path.result.now.items c.args.name.now c.path-path.ensures.exact c.self.inside.places.entries c.self.invariant.keyed c.self.invariant.kept.ordered.sorted);
    }
