-- The law is proved of the definitions.
use Rattle.hush_laws.proofs.laws.RequestLemmas.{reads_outside-is}
use Rattle.hush_laws.proofs.laws.a_request_reads_outside_where_it_asks_for_neither.Goals as goal

pub returns : goal.returns
returns c = record { exact = reads_outside-is }
