use Rattle.std.proofs.Common.{sym, ◌∙◌}
use Rattle.command_words.proofs.number.Numbers.{number_of-parsed}
use Rattle.command_words.proofs.number.number_of.Goals as goal

-- a text of one to twenty digits
pub returns-then-has_form : goal.returns-then-has_form
returns-then-has_form c =
    c.ok.ensures.value ∙ number_of-parsed _ c.parse.result (sym c.has_form.ensures ∙ c.if-has_form.true) c.parse.ensures.value.0
