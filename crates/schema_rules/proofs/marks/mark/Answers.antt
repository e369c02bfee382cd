-- The number is one of 256.
use Rattle.std.proofs.Common.{arith}
use Rattle.schema_rules.proofs.contents.ContentLemmas.{marked-one}
use Rattle.schema_rules.proofs.marks.mark.Goals as goal

pub returns : goal.returns
returns c = record { exact = rw c.from.ensures (marked-one c.args.marks.now c.args.kind.0 (omega arith)) }
