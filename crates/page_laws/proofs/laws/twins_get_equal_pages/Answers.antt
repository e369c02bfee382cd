-- The law is proved of the definitions.
use Rattle.page_laws.proofs.laws.PageTwins.{page_replies-twins}
use Rattle.page_laws.proofs.laws.twins_get_equal_pages.Goals as goal

pub returns : goal.returns
returns c = page_replies-twins
