-- The law is proved of the definitions.
use Rattle.certify.proofs.laws.ScopeLaw.{lines-in_force}
use Rattle.certify.proofs.laws.the_subentries_that_hold_the_entry_are_in_force.Goals as goal

pub returns : goal.returns
returns c = record { exact = lines-in_force }
