use Rattle.std.proofs.Common.{◌≡◌, ap, rules}
use Rattle.dir_tree.specs.tree.Numbered.{entries_of}
use Rattle.session_hub.specs.hub.Hubs.{HubState}
use Rattle.session_hub.specs.serve.Servers.{state_of}
use Rattle.session_hub.proofs.serve.TurnLemmas.{not_begun}
use Rattle.session_hub.proofs.serve.TwinServingLemmas.{serves_twins, starved_twins}
use Rattle.session_hub.proofs.serve.serve_loop.Goals as goal

-- there was no memory to hold connections
pub returns-in_default : goal.returns-in_default
returns-in_default g c =
    let ended = not_begun c.args.bounds (entries_of (g.D.Dir.rows c.args.dir.now)) (state_of g.L.Link c.args.link.now) c.args.turns in
    record { served = ended.served; twins = starved_twins _ _ _ _; plays = ended.plays; cause = ended.cause; memory = ended.memory; refusals = ended.refusals; lost = ended.lost }

-- there was no memory to wait for them
pub returns-in_default-new : goal.returns-in_default-new
returns-in_default-new g c =
    let ended = not_begun c.args.bounds (entries_of (g.D.Dir.rows c.args.dir.now)) (state_of g.L.Link c.args.link.now) c.args.turns in
    record { served = ended.served; twins = starved_twins _ _ _ _; plays = ended.plays; cause = ended.cause; memory = ended.memory; refusals = ended.refusals; lost = ended.lost }

-- there was no memory for a buffer
pub returns-in_default-new_buffer : goal.returns-in_default-new_buffer
returns-in_default-new_buffer g c =
    let ended = not_begun c.args.bounds (entries_of (g.D.Dir.rows c.args.dir.now)) (state_of g.L.Link c.args.link.now) c.args.turns in
    record { served = ended.served; twins = starved_twins _ _ _ _; plays = ended.plays; cause = ended.cause; memory = ended.memory; refusals = ended.refusals; lost = ended.lost }

-- it was served
pub returns-clause-served : goal.returns-clause-served
returns-clause-served g c =
    let same : c.in-Ok.hub.bounds.terms ≡ c.args.bounds.terms = ap (λ (hub : HubState). hub.bounds.terms) c.in-Ok.ensures.ok in rw (← same) (search rules)

pub returns-clause-twins : goal.returns-clause-twins
returns-clause-twins g c = serves_twins _ _ _ _ _ _ _ (returns-clause-served g c)

pub returns-clause-memory : goal.returns-clause-memory
returns-clause-memory g c =
    let same : c.in-Ok.hub.bounds.terms ≡ c.args.bounds.terms = ap (λ (hub : HubState). hub.bounds.terms) c.in-Ok.ensures.ok in rw (← same) (search rules)
