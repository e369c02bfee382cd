-- All numbers in use are below the bound.
use Rattle.std.proofs.Common.{◌<◌, arith}
use Rattle.dir_tree.proofs.TreeTheorems.{all_known}
use Rattle.value_index.proofs.making.index_of.Goals as goal

pub returns : goal.returns
returns c =
    let bound = c.bound-number-end.result in
    record {
      ok = λ id entry known.
          let within : id < bound = all_known (λ row. row.id < bound) id entry c.args.tree.now c.bound-number-end.ensures.exact known in
          c.loop-number.invariant.below id entry (omega arith) known;
    }
