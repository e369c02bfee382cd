use Rattle.std.proofs.Common.{map, option_map, sym, ◌∙◌}
use Rattle.std.specs.Prelude.{string_bytes}
use Rattle.std.proofs.lemmas.Result.{IfOk-weaker}
use Rattle.command_words.specs.command.Command.{view}
use Rattle.command_words.proofs.command.Commands.{named-reading}
use Rattle.command_words.proofs.command.read_rest.Goals as goal

-- the first word names a command
pub returns-in-Some : goal.returns-in-Some
returns-in-Some c =
    IfOk-weaker c.read_line.result _ _
    (λ read is. named-reading c.args.first.now (map string_bytes c.args.words.now) c.in-Some.command (option_map view read) (sym c.named.ensures ∙ c.in-Some.is) is)
    c.read_line.ensures
