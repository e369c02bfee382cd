-- `retain` keeps those that come after the name.
use Rattle.std.proofs.Common.{rules}
use Rattle.std.proofs.lemmas.Fn.{filter_same}
use Rattle.op_read.specs.Candidates.{comes_after}
use Rattle.op_read.proofs.candidates.keep_after.Goals as goal

pub returns : goal.returns
returns c = record {
  exact = filter_same _ (comes_after c.args.tree.now c.args.name.now) _ (λ value passes after call. search rules) _ _ c.retain.ensures.filtered;
}
