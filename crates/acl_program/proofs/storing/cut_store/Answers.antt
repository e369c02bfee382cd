use Rattle.std.proofs.Common.{inl}
use Rattle.acl_program.specs.program.Outside.{linked}
use Rattle.acl_program.proofs.storing.ReadyLemmas.{Prepares-head, Prepares-whole}
use Rattle.command_files.proofs.wire_io_proofs.Theorems.{RefusalCause-never_falls}
use Rattle.acl_program.proofs.storing.cut_store.Goals as goal

-- nothing of the file is whole
pub returns-then-whole-eq0 : goal.returns-then-whole-eq0
returns-then-whole-eq0 g c = Prepares-head _ _ _ (linked _ _ _ _ _ _) (linked _ _ _ _ _ _) (linked _ _ _ _ _ _) c.if-whole-eq0.true
    (record { tells = c.in-Ok.ensures.tells; cause = c.in-Ok.ensures.cause; stays = c.in-Ok.ensures.faults; plan = c.in-Ok.ensures.plan; lost = c.in-Ok.ensures.lost; refusals = RefusalCause-never_falls _ _ _ c.in-Ok.ensures.refusals }) c.store_head.ensures

-- some is
pub returns-else-whole-eq0 : goal.returns-else-whole-eq0
returns-else-whole-eq0 g c = Prepares-whole _ _ (linked _ _ _ _ _ _) (linked _ _ _ _ _ _) c.if-whole-eq0.false
    (record { tells = c.in-Ok.ensures.tells; cause = c.in-Ok.ensures.cause; stays = c.in-Ok.ensures.faults; plan = c.in-Ok.ensures.plan; lost = c.in-Ok.ensures.lost; refusals = RefusalCause-never_falls _ _ _ c.in-Ok.ensures.refusals })

-- it failed to be cut
pub returns-in-Err : goal.returns-in-Err
returns-in-Err g c = inl (record { tells = c.in-Err.ensures.tells; cause = c.in-Err.ensures.cause; stays = c.in-Err.ensures.faults; plan = c.in-Err.ensures.plan; lost = c.in-Err.ensures.lost; refusals = RefusalCause-never_falls _ _ _ c.in-Err.ensures.refusals })
