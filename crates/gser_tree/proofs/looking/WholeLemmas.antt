-- The tokens of a value give the value, where its braces are at most a hundred deep.
use Rattle.std.proofs.Common.{◌≡◌, ◌≤◌, ◌<◌, ◌+◌, suc, List, [], ◌∷◌, ◌++◌, length, refl, ap, ◌∙◌, arith}
use Rattle.std.specs.Prelude.{Option, option_and_then, nat_lt, if◌then◌else◌, true}
use Rattle.std.specs.Prelude as std
use Rattle.std.proofs.lemmas.Bool.Decides.{nat_tests}
use Rattle.gser_tree.specs.declared.marks.Mark.TheVariants.{Open, Close, Comma, Colon}
use Rattle.gser_tree.specs.declared.token.Token.{Token}
use Rattle.gser_tree.specs.declared.token.Token.TheVariants as token
use Rattle.gser_tree.specs.looking.Shapes.{Shape, Shapes, Word, Quoted, Braces, Named, Chosen, None, Some, tokens_of, tokens_in, tokens_behind, nest, nest_in}
use Rattle.gser_tree.specs.Growing.{Frame, Stack, Fresh, Wanting, Holding, grow, grow_all, value_of}

abbrev stack : Frame → List Frame → Stack
stack top below = record { top = top; below = below }

-- where a value may come before others
abbrev ready : Shapes → Frame
ready None = Fresh
ready (Some shape shapes) = Wanting (Some shape shapes)

-- where values have come
abbrev content : Shapes → Frame
content None = Fresh
content (Some shape shapes) = Holding shape shapes

-- a token after others
next_one : (one : Token) (tokens : List Token) (start middle end : Stack) → grow_all tokens start ≡ std.Some middle
    → grow one middle ≡ std.Some end → grow_all (one ∷ tokens) start ≡ std.Some end
next_one one tokens start middle end h k = ap (option_and_then (grow one)) h ∙ k

-- tokens after others
next_all : (front back : List Token) (start middle end : Stack) → grow_all back start ≡ std.Some middle
    → grow_all front middle ≡ std.Some end → grow_all (front ++ back) start ≡ std.Some end
next_all [] back start middle end h k = h ∙ k
next_all (one ∷ front) back start middle end h k = inner (grow_all front middle) refl k (λ last. next_all front back start middle last h)
  where
    inner : (found : Option Stack) → grow_all front middle ≡ found → option_and_then (grow one) found ≡ std.Some end
        → ((last : Stack) → grow_all front middle ≡ std.Some last → grow_all (front ++ back) start ≡ std.Some last)
        → grow_all (one ∷ (front ++ back)) start ≡ std.Some end
    inner std.None is k again = cc
    inner (std.Some last) is k again = next_one one (front ++ back) start last end (again last is) k

-- braces that close, where fewer than a hundred are open
closing : (top : Frame) (below : List Frame) → length below < 100
    → grow (token.Sign Close) (stack top below) ≡ std.Some (stack Fresh (top ∷ below))
unfolding grow
closing top below h = let test : nat_lt (length below) 100 ≡ true = grind (arith, nat_tests) in rw test refl

word_at : (part : _) (shapes : Shapes) (below : List Frame)
    → grow (token.Word part) (stack (ready shapes) below) ≡ std.Some (stack (Holding (Word part) shapes) below)
unfolding grow
word_at part None below = refl
word_at part (Some shape shapes) below = refl

string_at : (part : _) (shapes : Shapes) (below : List Frame)
    → grow (token.Quoted part) (stack (ready shapes) below) ≡ std.Some (stack (Holding (Quoted part) shapes) below)
unfolding grow
string_at part None below = refl
string_at part (Some shape shapes) below = refl

braces_at : (inner shapes : Shapes) (below : List Frame)
    → grow (token.Sign Open) (stack (content inner) (ready shapes ∷ below)) ≡ std.Some (stack (Holding (Braces inner) shapes) below)
unfolding grow
braces_at None None below = refl
braces_at None (Some shape shapes) below = refl
braces_at (Some value inner) None below = refl
braces_at (Some value inner) (Some shape shapes) below = refl

named_at : (part : _) (shape : Shape) (shapes : Shapes) (below : List Frame)
    → grow (token.Word part) (stack (Holding shape shapes) below) ≡ std.Some (stack (Holding (Named part shape) shapes) below)
unfolding grow
named_at part shape shapes below = refl

chosen_at : (part : _) (shape : Shape) (shapes : Shapes) (below : List Frame)
    → grow_all (token.Word part ∷ token.Sign Colon ∷ []) (stack (Holding shape shapes) below)
    ≡ std.Some (stack (Holding (Chosen part shape) shapes) below)
unfolding grow
chosen_at part shape shapes below = refl

comma_at : (shape : Shape) (shapes : Shapes) (below : List Frame)
    → grow (token.Sign Comma) (stack (Holding shape shapes) below) ≡ std.Some (stack (ready (Some shape shapes)) below)
unfolding grow
comma_at shape shapes below = refl

mutual
  grows : (shape : Shape) (shapes : Shapes) (below : List Frame) → nest shape + length below ≤ 100
      → grow_all (tokens_of shape) (stack (ready shapes) below) ≡ std.Some (stack (Holding shape shapes) below)
  grows (Word part) shapes below h = word_at part shapes below
  grows (Quoted part) shapes below h = string_at part shapes below
  grows (Braces inner) shapes below h =
      next_one (token.Sign Open) (tokens_in inner) (stack (ready shapes) below) _ _ (grows_in inner (ready shapes) below h) (braces_at inner shapes below)
  grows (Named part shape) shapes below h =
      next_one (token.Word part) (tokens_of shape) (stack (ready shapes) below) _ _ (grows shape shapes below h) (named_at part shape shapes below)
  grows (Chosen part shape) shapes below h =
      next_all (token.Word part ∷ token.Sign Colon ∷ []) (tokens_of shape) (stack (ready shapes) below) _ _ (grows shape shapes below h)
      (chosen_at part shape shapes below)

  grows_in : (inner : Shapes) (top : Frame) (below : List Frame) → suc (nest_in inner) + length below ≤ 100
      → grow_all (tokens_in inner) (stack top below) ≡ std.Some (stack (content inner) (top ∷ below))
  grows_in None top below h = closing top below (omega arith)
  grows_in (Some shape shapes) top below h =
      next_all (tokens_of shape) (tokens_behind shapes) (stack top below) _ _ (grows_behind shapes top below (omega arith))
      (grows shape shapes (top ∷ below) (omega arith))

  grows_behind : (inner : Shapes) (top : Frame) (below : List Frame) → suc (nest_in inner) + length below ≤ 100
      → grow_all (tokens_behind inner) (stack top below) ≡ std.Some (stack (ready inner) (top ∷ below))
  grows_behind None top below h = closing top below (omega arith)
  grows_behind (Some shape shapes) top below h =
      next_one (token.Sign Comma) (tokens_of shape ++ tokens_behind shapes) (stack top below) _ _
      (next_all (tokens_of shape) (tokens_behind shapes) (stack top below) _ _ (grows_behind shapes top below (omega arith))
      (grows shape shapes (top ∷ below) (omega arith)))
      (comma_at shape shapes (top ∷ below))

-- a value's tokens have this value
pub value_of-whole : (shape : Shape) → nest shape ≤ 100 → value_of (tokens_of shape) ≡ std.Some shape
unfolding value_of
value_of-whole shape h = rw (grows shape None [] (omega arith)) refl
