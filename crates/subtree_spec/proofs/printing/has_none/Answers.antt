-- A set that has members of the first kind is printed.
use Rattle.std.proofs.Common.{arith}
use Rattle.subtree_spec.proofs.printing.PrintedLemmas.{filled_before}
use Rattle.subtree_spec.proofs.printing.has_none.Goals as goal

pub returns-else-is_empty : goal.returns-else-is_empty
returns-else-is_empty c =
    record { exact = filled_before c.args.spec.now.before.items c.args.spec.now.after.items c.is_empty.result _ (omega (arith, c.args.spec.now.before.ok.0)) c.is_empty.ensures c.if-is_empty.false }
