-- The law is proved of the definitions.
use Rattle.loading_laws.proofs.laws.LayoutLemmas.{message-octets}
use Rattle.loading_laws.proofs.laws.what_is_read_of_octets_is_of_octets.Goals as goal

pub returns : goal.returns
returns c = record { exact = message-octets }
