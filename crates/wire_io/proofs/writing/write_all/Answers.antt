use Rattle.std.proofs.Common.{arith, refl}
use Rattle.wire_io.proofs.writing.PuttingLemmas.{appended-none, tells-more, PutsAll-refused, PutsAll-whole, PutCause-refused, PutCause-more, PutCause-done}
use Rattle.wire_io.proofs.writing.write_all.Goals as goal

-- before the first call nothing was put
pub loop-done-init : goal.loop-done-init
loop-done-init g c = record { within = omega arith; put = appended-none _; faults = refl }

-- a call took a front of the rest
pub loop-done-preserved : goal.loop-done-preserved
loop-done-preserved g c = record {
  within = omega (arith, c.in-Ok.ensures.fits);
  put = tells-more _ _ _ _ _ _ _ c.split_at.ensures.back c.loop-done.invariant.put c.in-Ok.ensures.tells;
  faults = PutCause-more _ _ _ _ c.loop-done.invariant.faults c.in-Ok.ensures.cause;
}

-- a call was refused
pub returns-in-Err-clause-tells : goal.returns-in-Err-clause-tells
returns-in-Err-clause-tells g c = PutsAll-refused _ _ _ _ _ _ _ _ c.loop-done.invariant.put c.in-Err.ensures.tells

pub returns-in-Err-clause-cause : goal.returns-in-Err-clause-cause
returns-in-Err-clause-cause g c = PutCause-refused _ _ _ _ _ _ c.loop-done.invariant.faults c.in-Err.ensures.cause

-- nothing is left
pub returns-clause-tells : goal.returns-clause-tells
returns-clause-tells g c = PutsAll-whole _ _ _ _ _ (omega arith) c.loop-done.invariant.put

pub returns-clause-cause : goal.returns-clause-cause
returns-clause-cause g c = PutCause-done _ _ _ c.loop-done.invariant.faults
