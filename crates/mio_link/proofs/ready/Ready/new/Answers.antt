use Rattle.mio_link.proofs.ready.ReadyLemmas.{has-zero, bit_of-zeros}
use Rattle.mio_link.proofs.ready.Ready.new.Goals as goal

pub returns : goal.returns
returns c = record { none = λ place. has-zero _ place (bit_of-zeros place) }
