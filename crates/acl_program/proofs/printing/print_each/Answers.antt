use Rattle.std.proofs.Common.{◌<◌, length, refl, arith}
use Rattle.command_files.proofs.wire_io_proofs.Theorems.{PutCause-done, PutCause-more, PutCause-refused}
use Rattle.acl_program.proofs.printing.PrintLemmas.{lines_more, lines_refused, lines_done}
use Rattle.acl_program.proofs.printing.print_each.Goals as goal

-- a line more was put
pub loop-index-preserved : goal.loop-index-preserved
loop-index-preserved g c =
    let within : c.loop-index.index < length c.args.conns.now = c.loop-index-test.true in
    record {
      within = omega arith;
      put = lines_more _ _ _ _ _ _ _ _ within refl c.loop-index.invariant.put c.in-Ok.ensures.tells;
      faults = PutCause-more _ _ _ _ c.loop-index.invariant.faults c.in-Ok.ensures.cause;
    }

-- a line was refused
pub returns-in-Err-clause-tells : goal.returns-in-Err-clause-tells
returns-in-Err-clause-tells g c =
    lines_refused _ _ _ _ _ _ _ _ c.loop-index-test.true refl c.loop-index.invariant.put c.in-Err.ensures.tells

pub returns-in-Err-clause-cause : goal.returns-in-Err-clause-cause
returns-in-Err-clause-cause g c = PutCause-refused _ _ _ _ _ _ c.loop-index.invariant.faults c.in-Err.ensures.cause

-- no connection is left
pub returns-clause-tells : goal.returns-clause-tells
returns-clause-tells g c = lines_done _ _ _ _ _ _ c.loop-index-test.false c.loop-index.invariant.put

pub returns-clause-cause : goal.returns-clause-cause
returns-clause-cause g c = PutCause-done _ _ _ c.loop-index.invariant.faults
