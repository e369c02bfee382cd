use Rattle.page_core.proofs.laws.AgainLemmas.{page_says, page_again, end_says, end_again}
use Rattle.page_core.proofs.laws.a_written_page_is_read_again.Goals as goal

pub returns : goal.returns
returns c = record { says = page_says; exact = page_again; ends = end_says; reply = end_again }
