use Rattle.std.proofs.Common.{refl}
use Rattle.session_hub.specs.Terms.{no_terms}
use Rattle.acl_program.proofs.replay.PlayLemmas.{Plays-link, Good-link}
use Rattle.acl_program.proofs.replay.serve.Goals as goal

-- the loop's clauses at a link that has only the script
pub returns-clause-plays : goal.returns-clause-plays
returns-clause-plays c = Plays-link _ _ c.args.turns c.serve_loop.result c.args.link.now c.serve_loop.new.link c.requires.fresh c.serve_loop.ensures.served c.serve_loop.ensures.plays c.serve_loop.ensures.cause

-- and the entries that it leaves of good ones
pub returns-clause-good : goal.returns-clause-good
returns-clause-good c = Good-link (c.sessions_keep_a_directory_good.ensures.good no_terms) _ _ c.args.turns c.serve_loop.result _ c.args.link.now.journal c.serve_loop.new.link.journal refl c.requires.good c.serve_loop.ensures.served
