-- The law is proved of the definitions.
use Rattle.page_laws.proofs.laws.ListingLemmas.{pages_join}
use Rattle.page_laws.proofs.laws.pages_join_to_the_answer.Goals as goal

pub returns : goal.returns
returns c = pages_join
