-- What is kept is that of the tree.
use Rattle.std.proofs.Common.{List, sym, subst}
use Rattle.aci_lists.specs.declared.kept.Kept.{Kept}
use Rattle.aci_lists.specs.kept.Lists.{IsKept}
use Rattle.aci_index.proofs.indexed_dir.IndexedDir.decide_entry.Goals as goal

pub decide_by-requires-clause-kept : goal.decide_by-requires-clause-kept
decide_by-requires-clause-kept c =
    subst (λ (kept : List Kept). IsKept kept c.self.inside.tree) (sym c.deref.ensures.value) c.self.invariant.held.lists
