-- The range of the name's own key alone.
use Rattle.std.proofs.Common.{ℕ, ap, ◌∙◌, Vec, Global}
use Rattle.std.specs.Ordering.{is_gt}
use Rattle.std.proofs.lemmas.Cmp.{tied_itself}
use Rattle.dn_names.proofs.Theorems.{name_cmp_total}
use Rattle.dir_tree.proofs.tree.MapLemmas.{keys_cmp}
use Rattle.dir_tree.proofs.walk.WalkLemmas.{walked-at}
use Rattle.dir_tree.proofs.tree.Tree.walk_at.Goals as goal

pub range-requires : goal.range-requires
range-requires c =
    ap is_gt (keys_cmp c.path-path.result.now.items c.path-path.result.now.items c.args.name.now c.args.name.now c.path-path.ensures.exact c.path-path.ensures.exact ∙ tied_itself name_cmp_total c.args.name.now)

pub returns : goal.returns
returns c = record {
  exact = rw (c.deref.ensures.value, c.deref-2.ensures.value, c.range.ensures.between tt, ← c.self.view_is)
      (walked-at (λ (key : Vec ℕ Global). key.items) c.self.inside.slots.items c.path-path.result.now.items c.args.name.now c.path-path.ensures.exact c.self.inside.places.entries c.self.invariant.keyed);
}
