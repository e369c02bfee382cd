-- The tokens so far, and those of what is left, are the tokens of the text.
use Rattle.std.proofs.Common.{◌≡◌, ◌++◌, drop}
use Rattle.std.specs.Prelude.{option_map}
use Rattle.gser_tree.specs.declared.lexing.Mode.TheVariants.{Between}
use Rattle.gser_tree.specs.Lexing.{lex_from}
use Rattle.gser_tree.proofs.lexing.lex.Given as goal

abbrev pub invariant-loop-place : goal.invariant-loop-place
invariant-loop-place l =
    option_map (λ more. l.tokens.items ++ more) (lex_from l.mode l.place (drop l.place l.text)) ≡ lex_from Between 0 l.text
