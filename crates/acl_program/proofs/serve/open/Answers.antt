use Rattle.std.proofs.Common.{◌∙◌}
use Rattle.command_files.proofs.wire_io_proofs.Theorems.{RefusalCause-never_falls}
use Rattle.acl_program.proofs.serve.open.Goals as goal

-- the link opened as it was before it was told of idle connections
pub returns : goal.returns
returns g c = record {
  tells = rw c.end_idle_after.ensures.tells at c.open.ensures.tells;
  cause = rw (c.end_idle_after.ensures.plan, c.end_idle_after.ensures.faults) at c.open.ensures.cause;
  stays = c.open.ensures.store_faults ∙ c.end_idle_after.ensures.store_faults;
  plan = c.open.ensures.plan ∙ c.end_idle_after.ensures.plan;
  lost = rw c.end_idle_after.ensures.lost at c.open.ensures.lost;
  refusals = rw c.end_idle_after.ensures.refusals at (RefusalCause-never_falls _ _ _ c.open.ensures.refusals);
}
