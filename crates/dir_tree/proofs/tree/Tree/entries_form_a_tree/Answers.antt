-- What is kept is a tree.
use Rattle.std.specs.Map.{values_of}
use Rattle.std.proofs.Common.{List, subst}
use Rattle.dir_tree.specs.tree.Numbered.{Numbered, IsNumberedTree}
use Rattle.dir_tree.proofs.tree.TreeLemmas.{IsTree-kept}
use Rattle.dir_tree.proofs.tree.Tree.entries_form_a_tree.Goals as goal

pub returns : goal.returns
returns c = record {
  exact = subst (λ (rows : List Numbered). IsNumberedTree rows) c.self.view_is (IsTree-kept c.self.inside.slots.items (values_of c.self.inside.places.entries) c.self.invariant.kept);
}
