use Rattle.std.proofs.Common.{map, ◌∙◌}
use Rattle.std.specs.Prelude.{string_bytes}
use Rattle.command_words.proofs.command.Commands.{all-utf8, error-parse, matches-parse}
use Rattle.command_words.proofs.parser.parse.Goals as goal

-- the words are a line of the parser
pub returns-in-Ok : goal.returns-in-Ok
returns-in-Ok c =
    matches-parse c.args.command _ (map string_bytes c.args.words.now) c.in-Ok.matches (all-utf8 c.args.words.now) c.in_ok-parser.ensures c.in-Ok.ensures.kinds c.in-Ok.ensures.matches

-- they are none
pub returns : goal.returns
returns c =
    error-parse c.args.command _ (map string_bytes c.args.words.now) c.in-Err.error c.in_ok-parser.ensures c.in-Err.ensures.kinds (λ memory. c.in_default.not-OutOfMemory (c.kind.ensures ∙ memory))
