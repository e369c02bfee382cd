-- The octets are those of the value.
use Rattle.fault_places.proofs.classes.put_missing.Goals as goal

pub returns : goal.returns
returns c = record { ok = rw c.octets.ensures.exact at c.put_said_both.ensures.ok }
