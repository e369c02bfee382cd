-- The value of a text is the one for which it is written.
use Rattle.std.proofs.Common.{◌≡◌, ◌≤◌, ℕ, List, refl, sym, ap, ◌∙◌}
use Rattle.std.specs.Prelude.{Option, Some, None, option_and_then}
use Rattle.gser_tree.specs.declared.token.Token.{Token}
use Rattle.gser_tree.specs.looking.Shapes.{Shape, nest}
use Rattle.gser_tree.specs.TextOf.{IsTextOf}
use Rattle.gser_tree.specs.Lexing.{lex}
use Rattle.gser_tree.specs.Growing.{value_of, tree_of}
use Rattle.gser_tree.proofs.looking.LexemesLemmas.{lexed_text}
use Rattle.gser_tree.proofs.looking.LexesLemmas.{lex-lexemes}
use Rattle.gser_tree.proofs.looking.GrownLemmas.{value_of-tokens}
use Rattle.gser_tree.proofs.looking.WholeLemmas.{value_of-whole}

-- a text that has a value is written for it
pub tree_of-IsTextOf : (text : List ℕ) (shape : Shape) → tree_of text ≡ Some shape → IsTextOf shape text
unfolding tree_of
tree_of-IsTextOf text shape h = inner (lex text) refl h
  where
    inner : (found : Option (List Token)) → lex text ≡ found → option_and_then value_of found ≡ Some shape → IsTextOf shape text
    inner None is h = cc
    inner (Some tokens) is h =
        let found = lexed_text text tokens is in
        record { lexemes = found.0; proper = found.1; joined = found.2; shaped = found.3 ∙ value_of-tokens tokens shape h }

-- a text that is written for a value has it, where its braces are at most a hundred deep
pub IsTextOf-tree_of : (text : List ℕ) (shape : Shape) → IsTextOf shape text → nest shape ≤ 100 → tree_of text ≡ Some shape
unfolding tree_of
IsTextOf-tree_of text shape written deep =
    ap (λ t. option_and_then value_of (lex t)) (sym written.joined)
    ∙ ap (option_and_then value_of) (lex-lexemes written.lexemes written.proper)
    ∙ ap value_of written.shaped
    ∙ value_of-whole shape deep
