use Rattle.wire_io.specs.declared.answers.NextFault.{NextFault}
use Rattle.wire_io.proofs.link.LinkLemmas.{Plays-heard}
use Rattle.wire_io.proofs.laws.events_bring_scripts_on.Goals as goal

pub returns : goal.returns
returns c = record { law = λ journal plan after buf given. Plays-heard NextFault journal plan after buf given }
