-- The parser has the rules of the options so far.
use Rattle.std.proofs.Common.{◌≡◌, take}
use Rattle.clap.specs.Simple.{app_of}
use Rattle.command_words.specs.parser.Parser.{app_with}
use Rattle.command_words.specs.Table.{row_of}
use Rattle.command_words.proofs.parser.parser.Given as goal

abbrev pub invariant-loop-option : goal.invariant-loop-option
invariant-loop-option l = app_of l.parser ≡ app_with (row_of l.fn.command).name (take l.option-index l.option-items)
