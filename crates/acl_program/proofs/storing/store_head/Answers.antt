use Rattle.std.proofs.Common.{refl, arith}
use Rattle.command_files.specs.wire_io.Answers.{LinkCause}
use Rattle.command_files.specs.wire_io.link.Telling.{NoteTells}
use Rattle.command_files.proofs.wire_io_proofs.Theorems.{RefusalCause-never_falls}
use Rattle.acl_program.proofs.storing.store_head.Goals as goal

-- the head was to be stored
pub returns-in-Ok : goal.returns-in-Ok
returns-in-Ok g c = record {
  tells = rw (c.as_slice.ensures.value, c.in-Ok.ensures.exact) at c.store.ensures.tells;
  cause = c.store.ensures.cause;
  stays = c.store.ensures.faults;
  plan = c.store.ensures.plan;
  lost = c.store.ensures.lost;
  refusals = RefusalCause-never_falls _ _ _ c.store.ensures.refusals;
}

-- there was no memory for it
pub returns-in-Err : goal.returns-in-Err
unfolding NoteTells LinkCause
returns-in-Err g c = record { tells = refl; cause = refl; stays = refl; plan = refl; lost = record { never_falls = omega arith }; refusals = record { never_falls = omega arith } }
