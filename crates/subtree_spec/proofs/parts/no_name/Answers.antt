-- The empty text is that of the name of no RDN.
use Rattle.subtree_spec.proofs.parts.PartsLemmas.{empty_name}
use Rattle.subtree_spec.proofs.parts.no_name.Goals as goal

pub returns-in-Ok : goal.returns-in-Ok
returns-in-Ok c = record { ok = empty_name c.in-Ok.name c.in-Ok.ensures.exact }
