-- What is told by what is held is told of the sessions too.
use Rattle.std.proofs.Common.{◌≡◌, None}
use Rattle.std.specs.Prelude.{IfOk}
use Rattle.std.proofs.lemmas.Result.{IfOk-weaker}
use Rattle.dir_tree.specs.tree.Numbered.{entries_of}
use Rattle.hush_looks.specs.Looks.{failing_look}
use Rattle.hush_looks.proofs.looks.LookLemmas.{looks-held, looks-nobody, looks-asker}
use Rattle.hush_looks.proofs.looks.look.Goals as goal

-- nobody asks
pub returns-in-None : goal.returns-in-None
returns-in-None g c =
    let top = c.args.top.now in
    let before = entries_of (g.D.Dir.rows c.args.before.now) in
    let now = entries_of (g.E.Dir.rows c.args.now.now) in
    let hub = c.args.hub.now in
    let held = looks-nobody top before now c.args.number hub.kept c.in-None.ensures.exact in
    record { held = held; ok = looks-held top before now hub c.args.number None held }

-- the requester asks
pub returns-in-Some : goal.returns-in-Some
returns-in-Some g c =
    let top = c.args.top.now in
    let before = entries_of (g.D.Dir.rows c.args.before.now) in
    let now = entries_of (g.E.Dir.rows c.args.now.now) in
    let hub = c.args.hub.now in
    let held : IfOk c.failing_twins.result (λ part. part ≡ failing_look c.args.number top before now hub.kept) =
    IfOk-weaker c.failing_twins.result _ _ (λ part is. looks-asker top before now c.args.number hub.kept c.in-Some.who.now part c.in-Some.ensures.exact is) c.failing_twins.ensures.ok in
    record { held = held; ok = IfOk-weaker c.failing_twins.result _ _ (λ part is. looks-held top before now hub c.args.number part is) held }
