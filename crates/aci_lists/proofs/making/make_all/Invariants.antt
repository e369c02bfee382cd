-- So many are kept as were counted, each of its entry.
use Rattle.std.proofs.Common.{◌≡◌, length}
use Rattle.aci_lists.specs.kept.Lists.{IsKeptBelow}
use Rattle.aci_lists.proofs.making.make_all.Given as goal

abbrev pub invariant-loop-index : goal.invariant-loop-index
invariant-loop-index l = record {
  counted : length l.kept.items ≡ l.index;
  below : IsKeptBelow l.kept.items l.tree;
}
