-- The law is proved of the definitions.
use Rattle.hush_laws.proofs.laws.EqualityLemmas.{are_all_equal-decide}
use Rattle.hush_laws.proofs.laws.entries_pass_the_test_where_they_are_the_same.Goals as goal

pub returns : goal.returns
returns c = record { exact = are_all_equal-decide }
