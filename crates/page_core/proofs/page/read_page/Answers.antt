-- What is read is what the value says, and what it says is read.
use Rattle.page_core.proofs.page.ReadLemmas.{says_read, only_read, none_read}
use Rattle.page_core.proofs.page.read_page.Goals as goal

pub returns-in-Ok-clause-found : goal.returns-in-Ok-clause-found
returns-in-Ok-clause-found c = says_read c.args.value.now c.in-Ok.page c.in-Ok.ensures.exact

pub returns-in-Ok-clause-only : goal.returns-in-Ok-clause-only
returns-in-Ok-clause-only c other says = only_read c.args.value.now c.in-Ok.page other c.in-Ok.ensures.exact says

pub returns-in-Err-BadMessage-clause-only : goal.returns-in-Err-BadMessage-clause-only
returns-in-Err-BadMessage-clause-only c other says = none_read c.args.value.now other (rw c.in-Err-BadMessage.field-0-is at c.in-Err-BadMessage.ensures.exact) says
