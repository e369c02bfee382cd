-- The shapes of values in the generic string encoding rules (RFC 3641 section 3), and the tokens that they are
-- written with.
use Rattle.std.specs.Prelude.{ℕ, suc, max, List, [], ◌∷◌, ◌++◌}
use Rattle.gser_tree.specs.declared.marks.Mark.TheVariants.{Open, Close, Comma, Colon}
use Rattle.gser_tree.specs.declared.part.Part.{Part}
use Rattle.gser_tree.specs.declared.token.Token.{Token}
use Rattle.gser_tree.specs.declared.token.Token.TheVariants as token

-- a word or a string with its place; values in braces; a value behind an identifier, as a component of a
-- sequence has it; a value behind an identifier and a colon, as a choice has it
mutual
  pub data Shape : Type 0 where
    Word : Part → Shape
    Quoted : Part → Shape
    Braces : Shapes → Shape
    Named : Part → Shape → Shape
    Chosen : Part → Shape → Shape

  pub data Shapes : Type 0 where
    None : Shapes
    Some : Shape → Shapes → Shapes

-- as a list
abbrev pub listed : Shapes → List Shape
listed None = []
listed (Some shape shapes) = shape ∷ listed shapes

-- a list of shapes
abbrev pub gathered : List Shape → Shapes
gathered [] = None
gathered (shape ∷ shapes) = Some shape (gathered shapes)

abbrev mutual
  -- the tokens of a value
  pub tokens_of : Shape → List Token
  tokens_of (Word part) = token.Word part ∷ []
  tokens_of (Quoted part) = token.Quoted part ∷ []
  tokens_of (Braces shapes) = token.Sign Open ∷ tokens_in shapes
  tokens_of (Named part shape) = token.Word part ∷ tokens_of shape
  tokens_of (Chosen part shape) = token.Word part ∷ token.Sign Colon ∷ tokens_of shape

  -- the tokens behind an opening brace
  pub tokens_in : Shapes → List Token
  tokens_in None = token.Sign Close ∷ []
  tokens_in (Some shape shapes) = tokens_of shape ++ tokens_behind shapes

  -- the tokens behind a value in braces
  pub tokens_behind : Shapes → List Token
  tokens_behind None = token.Sign Close ∷ []
  tokens_behind (Some shape shapes) = token.Sign Comma ∷ (tokens_of shape ++ tokens_behind shapes)

abbrev mutual
  -- how deep braces stand in braces
  pub nest : Shape → ℕ
  nest (Word part) = 0
  nest (Quoted part) = 0
  nest (Braces shapes) = suc (nest_in shapes)
  nest (Named part shape) = nest shape
  nest (Chosen part shape) = nest shape

  -- the same of several values: the deepest
  pub nest_in : Shapes → ℕ
  nest_in None = 0
  nest_in (Some shape shapes) = max (nest shape) (nest_in shapes)
