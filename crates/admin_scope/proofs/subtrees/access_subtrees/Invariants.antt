-- The subentries so far, and those that are left, are all; each has the subtree of its entry.
use Rattle.std.proofs.Common.{◌≡◌, ◌++◌, map, drop}
use Rattle.std.specs.Prelude.{option_map}
use Rattle.std.specs.List.{AllByRecursion}
use Rattle.dir_tree.specs.tree.Numbered.{ids_of, subentry_rows}
use Rattle.subtree_spec.specs.Subtrees.{subtree_of}
use Rattle.admin_scope.specs.Finding.{subtree_at}
use Rattle.admin_scope.proofs.subtrees.access_subtrees.Given as goal

abbrev pub invariant-loop-number : goal.invariant-loop-number
invariant-loop-number l = record {
  numbers : map (λ one. one.number.0) l.list.items ++ map (λ no. no.0) (drop l.number-index l.numbers) ≡ ids_of (subentry_rows l.tree);
  subtrees : AllByRecursion (λ one. option_map subtree_of one.subtree ≡ subtree_at one.number.0 l.tree) l.list.items;
}
