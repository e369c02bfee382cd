-- Tokens that are taken from the end.
use Rattle.std.proofs.Common.{◌≡◌, List, [], ◌∷◌, ◌++◌, refl, ap, ◌∙◌, arith}
use Rattle.std.proofs.lemmas.List.{reverse-append, map_push}
use Rattle.std.proofs.lemmas.Bool.Decides.{nat_tests}
use Rattle.std.specs.Prelude.{◌==◌, ◌&&◌, Bool, false, length, map, reverse, Option, Some, option_and_then, if◌then◌else◌}
use Rattle.std.specs.Prelude as std
use Rattle.gser_tree.specs.declared.token.Token.{Token}
use Rattle.gser_tree.specs.declared.tree.Tree.{Tree}
use Rattle.gser_tree.specs.declared.growing.Level.{Level}
use Rattle.gser_tree.specs.looking.Shapes.{Shape, None, gathered}
use Rattle.gser_tree.specs.Tree.{shape_of, from_end, frame_of}
use Rattle.gser_tree.specs.Growing.{Frame, Stack, Holding, value_at, grow, grow_all}

-- the last token comes first
pub grow_all-push : (tokens : List Token) (token : Token) (stack : Stack)
    → grow_all (tokens ++ token ∷ []) stack ≡ option_and_then (grow_all tokens) (grow token stack)
grow_all-push [] token stack = unit (grow token stack)
  where
    unit : (found : Option Stack) → found ≡ option_and_then (λ stack. Some stack) found
    unit std.None = refl
    unit (Some stack) = refl
grow_all-push (first ∷ tokens) token stack = ap (option_and_then (grow first)) (grow_all-push tokens token stack) ∙ joined (grow token stack)
  where
    joined : (found : Option Stack) → option_and_then (grow first) (option_and_then (grow_all tokens) found)
        ≡ option_and_then (λ stack. option_and_then (grow first) (grow_all tokens stack)) found
    joined std.None = refl
    joined (Some stack) = refl

-- something stands behind a list
not_empty : (shapes : List Shape) (last : Shape) (value : Shape) (frames : List Frame)
    → std.None ≡ value_at (Holding value (gathered (shapes ++ last ∷ []))) frames
not_empty [] last value frames = refl
not_empty (first ∷ shapes) last value frames = refl

not_outermost : (value : Shape) (frames : List Frame) (last : Frame) → std.None ≡ value_at (Holding value None) (frames ++ last ∷ [])
not_outermost value [] last = refl
not_outermost value (first ∷ frames) last = refl

-- a value alone, where no other values and no other braces are
pub alone : (value : Shape) (trees : List Tree) (below : List Level) (empty : Bool) → empty ≡ ((length trees == 0) && (length below == 0))
    → (if empty then std.Some value else std.None) ≡ value_at (Holding value (from_end trees)) (map frame_of (reverse below))
alone value [] [] empty h = rw h refl
alone value [] (level ∷ below) empty h =
    let frames : map frame_of (reverse (level ∷ below)) ≡ map frame_of (reverse below) ++ frame_of level ∷ [] =
    ap (map frame_of) (reverse-append (level ∷ []) below) ∙ map_push frame_of (reverse below) level in
    let no_value : empty ≡ false = grind (arith, nat_tests) in
    rw (no_value, frames) (not_outermost value (map frame_of (reverse below)) (frame_of level))
alone value (tree ∷ trees) below empty h =
    let shapes : map shape_of (reverse (tree ∷ trees)) ≡ map shape_of (reverse trees) ++ shape_of tree ∷ [] =
    ap (map shape_of) (reverse-append (tree ∷ []) trees) ∙ map_push shape_of (reverse trees) tree in
    let no_value : empty ≡ false = grind (arith, nat_tests) in
    rw (no_value, shapes) (not_empty (map shape_of (reverse trees)) (shape_of tree) value (map frame_of (reverse below)))
