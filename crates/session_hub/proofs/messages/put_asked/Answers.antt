use Rattle.std.proofs.Common.{sym, ap, ◌∙◌}
use Rattle.session_hub.specs.Controls.{page_asked}
use Rattle.session_hub.proofs.messages.AnswerLemmas.{page_sent}
use Rattle.session_hub.proofs.messages.put_asked.Goals as goal

-- a page was asked for
pub returns-in-Ok-Some-clause-ok : goal.returns-in-Ok-Some-clause-ok
returns-in-Ok-Some-clause-ok g c =
    page_sent c.search_page.result _ _ _ _ _ _ _ _
    (ap page_asked (sym c.as_slice.ensures.exact) ∙ (rw c.in-Ok-Some.field-0-is at c.in-Ok-Some.ensures.exact)) c.search_page.ensures.ok
