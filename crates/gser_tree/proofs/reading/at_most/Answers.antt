-- A number that the library refuses does not fit.
use Rattle.std.proofs.Common.{sym, arith}
use Rattle.gser_tree.proofs.reading.NumberLemmas.{too_large}
use Rattle.gser_tree.proofs.reading.at_most.Goals as goal

pub returns-in-Err : goal.returns-in-Err
returns-in-Err c = record { exact = sym (too_large c.args.most c.args.digits.now c.in-Err.field-0 (omega arith) c.requires c.in-Err.ensures.value.0) }
