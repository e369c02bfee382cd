use Rattle.wire_io.proofs.log.LogLemmas.{items-none}
use Rattle.wire_io.proofs.log.Log.new.Goals as goal

pub returns : goal.returns
returns c = record { empty = items-none c.new.result.items c.new-2.result.items c.new-3.result.items c.new.ensures.items }
