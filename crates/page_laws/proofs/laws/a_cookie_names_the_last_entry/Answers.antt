-- The law is proved of the definitions.
use Rattle.page_laws.proofs.laws.LastLemmas.{names_last}
use Rattle.page_laws.proofs.laws.a_cookie_names_the_last_entry.Goals as goal

pub returns : goal.returns
returns c = names_last
