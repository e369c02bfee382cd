-- The content's integer is compared with both bounds.
use Rattle.std.proofs.Common.{rules}
use Rattle.session_model.specs.ber_layout.element.Pieces.{number_in}
use Rattle.session_hub.proofs.simple.number_of.Goals as goal

pub returns-then-value-from-clause-exact : goal.returns-then-value-from-clause-exact
unfolding number_in
returns-then-value-from-clause-exact c = search rules

pub returns-then-value-from-2-clause-exact : goal.returns-then-value-from-2-clause-exact
unfolding number_in
returns-then-value-from-2-clause-exact c = search rules

pub returns-in-None-clause-exact : goal.returns-in-None-clause-exact
unfolding number_in
returns-in-None-clause-exact c = search rules

pub returns-else-value-from-2-clause-exact : goal.returns-else-value-from-2-clause-exact
unfolding number_in
returns-else-value-from-2-clause-exact c = search rules
