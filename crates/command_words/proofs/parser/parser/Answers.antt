use Rattle.std.proofs.Common.{◌∙◌, get_or, sym, ap, take, arith}
use Rattle.std.proofs.lemmas.List.{take_more}
use Rattle.clap.specs.Simple.{App, with_rule}
use Rattle.clap.specs.Walk.{rule_of}
use Rattle.command_words.specs.declared.table.OptionName.TheVariants.{Sessions}
use Rattle.command_words.specs.parser.Parser.{app_with}
use Rattle.command_words.specs.Table.{row_of}
use Rattle.command_words.proofs.command.Commands.{app-more}
use Rattle.command_words.proofs.parser.parser.Goals as goal

-- one more option
pub loop-option-preserved : goal.loop-option-preserved
loop-option-preserved c =
    let options = c.options-option-items.result.now in
    let i = c.loop-option.option-index in
    let name = (row_of c.args.command).name in
    c.in_ok-parser-2.ensures.shape c.option_arg.ensures.local
    ∙ ap (λ (app : App). with_rule app (rule_of c.option_arg.result)) c.loop-option.invariant
    ∙ ap (with_rule (app_with name (take i options))) c.option_arg.ensures.rule
    ∙ app-more name (take i options) (get_or options i Sessions)
    ∙ ap (app_with name) (sym (take_more options i Sessions (omega arith)))
