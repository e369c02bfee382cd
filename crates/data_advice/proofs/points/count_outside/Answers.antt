-- No more entries are counted than the tree has.
use Rattle.std.proofs.Common.{◌≤◌, length, arith}
use Rattle.dir_tree.specs.Scope.{scoped}
use Rattle.dir_tree.specs.declared.scope.Scope.TheVariants.{Sub}
use Rattle.dir_tree.specs.tree.Numbered.{entries_of}
use Rattle.data_advice.specs.Advice.{is_outside}
use Rattle.data_advice.specs.Walking.{passes}
use Rattle.data_advice.proofs.points.PointLemmas.{kept_most}
use Rattle.data_advice.proofs.points.count_outside.Goals as goal

pub overflow_add-count : goal.overflow_add-count
overflow_add-count c =
    let rows = c.args.tree.now in
    let all = scoped Sub c.args.suffix.0 rows in
    let kept = kept_most (passes (is_outside (entries_of rows)) rows) all in
    let fits : length all ≤ 200000 = rw c.below-no-items.ensures.exact at c.below-no-items.ensures.fits in
    omega (arith, c.loop-no.invariant, kept, fits)
