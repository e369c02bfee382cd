-- The lists that were made are of the first numbers, and those that are left follow.
use Rattle.std.proofs.Common.{◌≡◌, ◌++◌}
use Rattle.std.specs.List.{AllByRecursion}
use Rattle.dir_tree.specs.Scope.{scoped}
use Rattle.dir_tree.specs.declared.scope.Scope.TheVariants.{Sub}
use Rattle.aci_index.specs.Reach.{IsRemade, numbers_of}
use Rattle.aci_index.proofs.anew.remake_below.Given as goal

abbrev pub invariant-loop-number : goal.invariant-loop-number
invariant-loop-number l = record {
  numbers : numbers_of l.list.items ++ l.number-iterator ≡ numbers_of l.fn.list.items ++ scoped Sub l.fn.top.0 l.tree;
  lists : AllByRecursion (IsRemade l.tree) l.list.items;
}
