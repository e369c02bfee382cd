-- Which text is written for which value: lexemes whose tokens are the value's.
use Rattle.std.specs.Prelude.{◌≡◌, ℕ, ◌+◌, List, [], ◌∷◌, length, flat_map}
use Rattle.gser_tree.specs.declared.part.Part.{Part}
use Rattle.gser_tree.specs.declared.token.Token.{Token}
use Rattle.gser_tree.specs.declared.token.Token.TheVariants as token
use Rattle.gser_tree.specs.Lexemes.{Lexeme, Space, Marked, Word, Quoted, show, AreLexemes}
use Rattle.gser_tree.specs.looking.Shapes.{Shape, tokens_of}

-- a word or a string at a place, before other tokens
abbrev pub part_at : ℕ → List ℕ → Part
part_at place text = record { place = place; text = text }

-- the tokens of lexemes, the first of which stands at the place: spaces are none
abbrev pub tokens_at : ℕ → List Lexeme → List Token
tokens_at place [] = []
tokens_at place (Space ∷ rest) = tokens_at (place + 1) rest
tokens_at place (Marked mark ∷ rest) = token.Sign mark ∷ tokens_at (place + 1) rest
tokens_at place (Word text ∷ rest) = token.Word (part_at place text) ∷ tokens_at (place + length text) rest
tokens_at place (Quoted text ∷ rest) =
    token.Quoted (part_at place text) ∷ tokens_at (place + length (show (Quoted text))) rest

-- the text is lexemes one behind the other, and their tokens, each with its place, are those of the value
pub record IsTextOf (shape : Shape) (text : List ℕ) : Type 0 where
  pub lexemes : List Lexeme
  pub proper : AreLexemes lexemes
  pub joined : flat_map show lexemes ≡ text
  pub shaped : tokens_at 0 lexemes ≡ tokens_of shape
