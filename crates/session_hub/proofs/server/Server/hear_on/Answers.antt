use Rattle.dir_tree.specs.tree.Numbered.{entries_of}
use Rattle.session_hub.proofs.block.BlockLemmas.{heard_on, hears_unkept, nothing_opens}
use Rattle.session_hub.proofs.server.Server.hear_on.Goals as goal

-- its block begins
pub returns-in-Ok-clause-adds : goal.returns-in-Ok-clause-adds
returns-in-Ok-clause-adds g c =
    rw (← c.self.view_is)
    (λ entries. heard_on entries c.args.conn c.args.heard _ c.hear.new.self (entries_of (g.D.Dir.rows c.hear.new.dir)) _ _ c.requires c.in-Ok.ensures.exact c.hear.ensures.bounds c.begin_with.ensures.on_hold c.begin_with.ensures.covers)

pub returns-in-Ok-clause-hears : goal.returns-in-Ok-clause-hears
returns-in-Ok-clause-hears g c =
    rw (← c.self.view_is) (hears_unkept c.args.heard _ c.hear.new.self (entries_of (g.D.Dir.rows c.hear.new.dir)) _ _ c.in-Ok.ensures.exact c.hear.ensures.bounds)

-- octets and their end open no connection
pub returns-in-Err-clause-adds : goal.returns-in-Err-clause-adds
returns-in-Err-clause-adds g c = absurd (nothing_opens c.args.conn c.args.heard _ c.requires c.in-Err.ensures.cause)

pub returns-in-Err-clause-hears : goal.returns-in-Err-clause-hears
returns-in-Err-clause-hears g c = absurd (nothing_opens c.args.conn c.args.heard _ c.requires c.in-Err.ensures.cause)

pub returns-in-Err-clause-never : goal.returns-in-Err-clause-never
returns-in-Err-clause-never g c = nothing_opens c.args.conn c.args.heard _ c.requires c.in-Err.ensures.cause
