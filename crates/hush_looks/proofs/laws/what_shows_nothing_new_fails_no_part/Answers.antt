-- The law is proved of the definitions.
use Rattle.hush_looks.proofs.laws.StayLemmas.{none-fails}
use Rattle.hush_looks.proofs.laws.what_shows_nothing_new_fails_no_part.Goals as goal

pub returns : goal.returns
returns c = record { exact = none-fails }
