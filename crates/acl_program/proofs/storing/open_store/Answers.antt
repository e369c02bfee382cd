use Rattle.std.proofs.Common.{refl, sym}
use Rattle.acl_program.specs.program.Outside.{linked}
use Rattle.acl_program.proofs.storing.ReadyLemmas.{Readies-unopened}
use Rattle.command_files.proofs.wire_io_proofs.Theorems.{RefusalCause-never_falls}
use Rattle.acl_program.proofs.storing.open_store.Goals as goal

-- the store opened
pub returns-in-Ok-clause-readies : goal.returns-in-Ok-clause-readies
returns-in-Ok-clause-readies g c = rw (sym c.outside.view_is) (λ serving count named loads. c.read_store.ensures.readies serving count (linked _ _ _ _ _ _) named loads
    (record { tells = c.in-Ok.ensures.tells; cause = c.in-Ok.ensures.cause; stays = c.in-Ok.ensures.faults; plan = c.in-Ok.ensures.plan; lost = c.in-Ok.ensures.lost; refusals = RefusalCause-never_falls _ _ _ c.in-Ok.ensures.refusals }))

-- it failed to
pub returns-in-Err-clause-readies : goal.returns-in-Err-clause-readies
returns-in-Err-clause-readies g c = rw (sym c.outside.view_is) (λ serving count named loads. Readies-unopened serving _ _ _ _ _ named loads _
    (record { tells = c.in-Err.ensures.tells; cause = c.in-Err.ensures.cause; stays = c.in-Err.ensures.faults; plan = c.in-Err.ensures.plan; lost = c.in-Err.ensures.lost; refusals = RefusalCause-never_falls _ _ _ c.in-Err.ensures.refusals }) refl)
