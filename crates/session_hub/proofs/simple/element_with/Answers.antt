-- What was found is the element at the front, whatever its tag.
use Rattle.std.proofs.Common.{rules}
use Rattle.session_model.specs.ber_layout.element.Pieces.{tagged_at}
use Rattle.session_hub.proofs.simple.element_with.Goals as goal

pub returns-in_err-found : goal.returns-in_err-found
unfolding tagged_at
returns-in_err-found c = search rules

pub returns-then-found-tag : goal.returns-then-found-tag
unfolding tagged_at
returns-then-found-tag c = search rules

pub returns-else-found-tag : goal.returns-else-found-tag
unfolding tagged_at
returns-else-found-tag c = search rules
