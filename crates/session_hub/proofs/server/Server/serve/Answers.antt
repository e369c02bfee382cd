use Rattle.std.proofs.Common.{◌≡◌, arith}
use Rattle.session_hub.proofs.serve.TurnLemmas.{under_way_start, turns_spent}
use Rattle.session_hub.proofs.server.Server.serve.Goals as goal

-- nothing was heard yet
pub loop-turn-init : goal.loop-turn-init
loop-turn-init g c = under_way_start c.args.self.now c.requires.empty c.requires.free

-- a turn is taken where all changes are stored
pub take_turn-requires-clause-stored : goal.take_turn-requires-clause-stored
take_turn-requires-clause-stored g c = c.loop-turn.invariant.stored

-- the loop goes on
pub loop-turn-preserved : goal.loop-turn-preserved
loop-turn-preserved g c = c.in-None.ensures.none c.args.self.now c.loop-turn._turn c.loop-turn.invariant

-- it ended in a turn
pub returns-in-Some : goal.returns-in-Some
returns-in-Some g c = c.in-Some.ensures.some c.args.self.now c.loop-turn._turn c.args.turns c.loop-turn-test.true c.loop-turn.invariant

-- the turns are spent
pub returns : goal.returns
returns g c = turns_spent c.args.self.now c.loop-turn.self c.loop-turn._turn c.args.turns _ (let all : c.loop-turn._turn ≡ c.args.turns = omega arith in all) c.loop-turn.invariant c.end_of.ensures
