-- The value of tokens, from the last token to the first.
use Rattle.std.specs.Prelude.{ℕ, nat_lt, List, [], ◌∷◌, length, Option, option_and_then, if◌then◌else◌}
use Rattle.std.specs.Prelude as std
use Rattle.gser_tree.specs.declared.marks.Mark.TheVariants.{Open, Close, Comma, Colon}
use Rattle.gser_tree.specs.declared.part.Part.{Part}
use Rattle.gser_tree.specs.declared.token.Token.{Token}
use Rattle.gser_tree.specs.declared.token.Token.TheVariants as token
use Rattle.gser_tree.specs.looking.Shapes.{Shape, Shapes, Word, Quoted, Braces, Named, Chosen, None, Some}
use Rattle.gser_tree.specs.Lexing.{lex}

-- what has come of values in braces, from their end: nothing, values behind a comma, a value before others, or one
-- behind a colon
pub data Frame : Type 0 where
  Fresh : Frame
  Wanting : Shapes → Frame
  Holding : Shape → Shapes → Frame
  Choosing : Shape → Shapes → Frame

-- the innermost braces that are open, and those around them, from the inside
pub record Stack : Type 0 where
  pub top : Frame
  pub below : List Frame

-- a word before what has come
abbrev pub with_word : Part → Frame → Frame
with_word part Fresh = Holding (Word part) None
with_word part (Wanting shapes) = Holding (Word part) shapes
with_word part (Holding shape shapes) = Holding (Named part shape) shapes
with_word part (Choosing shape shapes) = Holding (Chosen part shape) shapes

-- a whole value, where one may stand
abbrev pub with_value : Shape → Frame → Option Frame
with_value value Fresh = std.Some (Holding value None)
with_value value (Wanting shapes) = std.Some (Holding value shapes)
with_value value (Holding shape shapes) = std.None
with_value value (Choosing shape shapes) = std.None

-- a comma
abbrev pub with_comma : Frame → Option Frame
with_comma Fresh = std.None
with_comma (Wanting shapes) = std.None
with_comma (Holding shape shapes) = std.Some (Wanting (Some shape shapes))
with_comma (Choosing shape shapes) = std.None

-- a colon
abbrev pub with_colon : Frame → Option Frame
with_colon Fresh = std.None
with_colon (Wanting shapes) = std.None
with_colon (Holding shape shapes) = std.Some (Choosing shape shapes)
with_colon (Choosing shape shapes) = std.None

-- the values in braces, all of which have come
abbrev pub all_of : Frame → Option Shapes
all_of Fresh = std.Some None
all_of (Wanting shapes) = std.None
all_of (Holding shape shapes) = std.Some (Some shape shapes)
all_of (Choosing shape shapes) = std.None

-- braces that stand in others
abbrev pub with_braces : Shapes → List Frame → Option Stack
with_braces shapes [] = std.None
with_braces shapes (frame ∷ below) =
    option_and_then (λ top. std.Some (record { top = top; below = below })) (with_value (Braces shapes) frame)

-- the same braces, with another top
abbrev pub on_top : Stack → Option Frame → Option Stack
on_top stack frame = option_and_then (λ top. std.Some (record { top = top; below = stack.below })) frame

-- a token before what has come; at most a hundred braces are open at once
unfoldable pub grow : Token → Stack → Option Stack
grow (token.Word part) stack = on_top stack (std.Some (with_word part stack.top))
grow (token.Quoted part) stack = on_top stack (with_value (Quoted part) stack.top)
grow (token.Sign Comma) stack = on_top stack (with_comma stack.top)
grow (token.Sign Colon) stack = on_top stack (with_colon stack.top)
grow (token.Sign Close) stack =
    if nat_lt (length stack.below) 100 then std.Some (record { top = Fresh; below = stack.top ∷ stack.below }) else std.None
grow (token.Sign Open) stack = option_and_then (λ shapes. with_braces shapes stack.below) (all_of stack.top)

-- tokens, the last first
abbrev pub grow_all : List Token → Stack → Option Stack
grow_all [] stack = std.Some stack
grow_all (token ∷ tokens) stack = option_and_then (grow token) (grow_all tokens stack)

-- nothing has come
abbrev pub fresh : Stack
fresh = record { top = Fresh; below = [] }

-- one value, and no braces are open
abbrev pub value_at : Frame → List Frame → Option Shape
value_at (Holding shape None) [] = std.Some shape
value_at frame frames = std.None

abbrev pub value_in : Stack → Option Shape
value_in stack = value_at stack.top stack.below

-- the value of tokens
unfoldable pub value_of : List Token → Option Shape
value_of tokens = option_and_then value_in (grow_all tokens fresh)

-- the value of a text
unfoldable pub tree_of : List ℕ → Option Shape
tree_of text = option_and_then value_of (lex text)
