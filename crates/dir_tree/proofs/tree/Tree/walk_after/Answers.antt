-- The range from behind the other name's key on.
use Rattle.std.proofs.Common.{ℕ, Vec, Global}
use Rattle.dir_tree.proofs.walk.AfterLemmas.{walked-after}
use Rattle.dir_tree.proofs.tree.Tree.walk_after.Goals as goal

pub returns : goal.returns
returns c = record {
  exact = rw (c.deref.ensures.value, c.deref-2.ensures.value, c.range.ensures.between tt, ← c.self.view_is)
      (walked-after (λ (key : Vec ℕ Global). key.items) c.self.inside.slots.items c.path-path.result.now.items c.path-last.result.now.items c.args.name.now c.args.after.now c.path-path.ensures.exact c.path-last.ensures.exact c.requires c.args.depth c.self.inside.places.entries c.self.invariant.keyed c.self.invariant.kept.ordered.sorted);
}
