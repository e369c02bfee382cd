-- A flag is read where nothing stands behind it.
use Rattle.std.proofs.Common.{rules}
use Rattle.session_model.specs.ber_layout.Layouts.{reads_into}
use Rattle.session_hub.proofs.controls.flag_alone.Goals as goal

-- no flag was read
pub returns-in_err-found : goal.returns-in_err-found
unfolding reads_into
returns-in_err-found c = search rules

-- something stands behind it
pub returns-then-not-is_empty : goal.returns-then-not-is_empty
unfolding reads_into
returns-then-not-is_empty c = search rules

-- nothing does
pub returns : goal.returns
unfolding reads_into
returns c = search rules
