use Rattle.std.proofs.Common.{ap, sym, ◌∙◌, subst}
use Rattle.session_hub.specs.declared.ended.Ended.TheVariants as ended
use Rattle.session_hub.specs.serve.Servers.{ServerState}
use Rattle.session_hub.specs.serve.Turns.{EndsWith}
use Rattle.session_hub.proofs.serve.CauseLemmas.{ends_starved, ends_unstored}
use Rattle.session_hub.proofs.serve.LoopLemmas.{unfinished_starved, unfinished_unstored}
use Rattle.session_hub.proofs.serve.StarveLemmas.{unstored_apart}
use Rattle.session_hub.proofs.serve.TurnLemmas.{synced_goes_on, synced_ends, turn_unfinished}
use Rattle.session_hub.proofs.server.Server.take_turn.Goals as goal

-- the next event is heard
pub hear_next-requires-clause-stored : goal.hear_next-requires-clause-stored
hear_next-requires-clause-stored g c = ap (λ (server : ServerState). server.hub.unstored) c.in-Ok.ensures.kept ∙ c.requires.stored

pub returns-in-Ok-clause-none : goal.returns-in-Ok-clause-none
returns-in-Ok-clause-none g c = synced_goes_on c.hear_next.result c.args.self.now c.sync_changes.new.self c.hear_next.new.self c.in-Ok.ensures.kept c.in-Ok.ensures.tells c.in-Ok.ensures.stays c.in-Ok.ensures.cause c.hear_next.ensures.none

pub returns-in-Ok-clause-some : goal.returns-in-Ok-clause-some
returns-in-Ok-clause-some g c = synced_ends c.hear_next.result c.args.self.now c.sync_changes.new.self c.hear_next.new.self c.in-Ok.ensures.kept c.in-Ok.ensures.tells c.in-Ok.ensures.stays c.in-Ok.ensures.cause c.hear_next.ensures.some

-- what was stored could not be had on the disk
pub returns-in-Err-Failed-clause-some : goal.returns-in-Err-Failed-clause-some
returns-in-Err-Failed-clause-some g c =
    let stays = c.in-Err-Failed.ensures.stays in
    subst (EndsWith c.args.self.now ended.StoreFault) (sym c.in-Err-Failed.ensures.kept)
    (turn_unfinished c.args.self.now c.sync_changes.new.self.link ended.StoreFault unfinished_unstored (record { journal = c.in-Err-Failed.ensures.tells; plan = stays.plan; lost = stays.lost; refusals = stays.refusals })
    (ends_unstored _ _ _ _ _ _ (rw c.in-Err-Failed.field-0-is at c.in-Err-Failed.ensures.cause) stays.faults) (λ starved. absurd (unstored_apart starved)))

-- there was no memory for that
pub returns-in-Err-NoMemory-clause-some : goal.returns-in-Err-NoMemory-clause-some
returns-in-Err-NoMemory-clause-some g c =
    let stays = c.in-Err-NoMemory.ensures.stays in
    subst (EndsWith c.args.self.now ended.NoMemory) (sym c.in-Err-NoMemory.ensures.kept)
    (turn_unfinished c.args.self.now c.sync_changes.new.self.link ended.NoMemory unfinished_starved (record { journal = c.in-Err-NoMemory.ensures.tells; plan = stays.plan; lost = stays.lost; refusals = stays.refusals })
    (ends_starved _ _ _ _ _ _ stays.faults (rw c.in-Err-NoMemory.field-0-is at c.in-Err-NoMemory.ensures.cause).0) (λ starved. (rw c.in-Err-NoMemory.field-0-is at c.in-Err-NoMemory.ensures.cause).1))
