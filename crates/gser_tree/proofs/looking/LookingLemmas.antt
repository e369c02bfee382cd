-- Members as a list, and what a text that was read says.
use Rattle.std.proofs.Common.{◌≡◌, ◌≤◌, ℕ, List, [], ◌∷◌, refl, sym, ap, ◌∙◌}
use Rattle.std.specs.Prelude.{Option, IfSome, option_map, map, Vec}
use Rattle.std.specs.Prelude as std
use Rattle.std.specs.declared.alloc.Global.{Global}
use Rattle.gser_tree.specs.declared.tree.Tree.{Tree}
use Rattle.gser_tree.specs.declared.tree.Tree.TheFolds.{fold-roll-Tree}
use Rattle.gser_tree.specs.declared.tree.Tree.TheOpen.{Tree-F}
use Rattle.gser_tree.specs.declared.tree.Tree.TheVariants as tree
use Rattle.gser_tree.specs.declared.tree.Tree.TheVariants.{rolls-Braces}
use Rattle.gser_tree.specs.looking.Shapes.{Shape, Braces, listed, gathered, nest}
use Rattle.gser_tree.specs.TextOf.{IsTextOf}
use Rattle.gser_tree.specs.Growing.{tree_of}
use Rattle.gser_tree.specs.Tree.{shape_of, level_shape}
use Rattle.gser_tree.proofs.looking.TextLemmas.{tree_of-IsTextOf, IsTextOf-tree_of}

-- a list of shapes is listed as it was gathered
pub listed_gathered : (shapes : List Shape) → listed (gathered shapes) ≡ shapes
listed_gathered [] = refl
listed_gathered (shape ∷ shapes) = ap (λ rest. shape ∷ rest) (listed_gathered shapes)

-- what was read is what the text is written for
pub found_text : (text : List ℕ) (found : Option Tree) → option_map shape_of found ≡ tree_of text
    → IfSome found (λ tree. IsTextOf (shape_of tree) text)
found_text text std.None h = tt
found_text text (std.Some tree) h = tree_of-IsTextOf text (shape_of tree) (sym h)

-- nothing else is read
pub only_text : (text : List ℕ) (found : Option Tree) → option_map shape_of found ≡ tree_of text
    → (shape : Shape) → IsTextOf shape text → nest shape ≤ 100 → option_map shape_of found ≡ std.Some shape
only_text text found h shape written deep = h ∙ IsTextOf-tree_of text shape written deep

-- the value of a tree of braces
pub braces_shape : (trees : Vec Tree Global) → shape_of (tree.Braces trees) ≡ Braces (gathered (map shape_of trees.items))
braces_shape trees = ap shape_of (sym (rolls-Braces trees)) ∙ fold-roll-Tree Shape level_shape (Tree-F.Braces trees)
