-- The cookie is no name.
use Rattle.std.proofs.Common.{◌∙◌, sym}
use Rattle.op_read.proofs.paging.StartLemmas.{start-lost}
use Rattle.op_read.proofs.paging.read_start.Goals as goal

pub returns-in-None : goal.returns-in-None
returns-in-None c = record { ok = start-lost c.args.cookie.now (sym c.in-None.is ∙ c.in_ok-name.ensures.ok) }
