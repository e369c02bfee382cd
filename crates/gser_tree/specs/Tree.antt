-- The value that a tree of the program is.
use Rattle.std.specs.Prelude.{List, map, reverse}
use Rattle.std.specs.Borrow.{Bor}
use Rattle.gser_tree.specs.looking.Looking.{Behind}
use Rattle.gser_tree.specs.declared.tree.Tree.{Tree, fold-Tree}
use Rattle.gser_tree.specs.declared.tree.Tree.TheOpen.{Tree-F}
use Rattle.gser_tree.specs.declared.growing.Level.{Level}
use Rattle.gser_tree.specs.declared.growing.Level.TheVariants as level
use Rattle.gser_tree.specs.declared.growing.Growing.{Growing}
use Rattle.gser_tree.specs.looking.Shapes.{Shape, Shapes, Word, Quoted, Braces, Named, Chosen, gathered}
use Rattle.gser_tree.specs.Growing.{Frame, Stack, Fresh, Wanting, Holding, Choosing}

-- one level, with the values within already seen
abbrev pub level_shape : Tree-F Shape → Shape
level_shape (Tree-F.Word part) = Word part
level_shape (Tree-F.Quoted part) = Quoted part
level_shape (Tree-F.Braces trees) = Braces (gathered trees.items)
level_shape (Tree-F.Named part tree) = Named part tree.value
level_shape (Tree-F.Chosen part tree) = Chosen part tree.value

-- the value
abbrev pub shape_of : Tree → Shape
shape_of = fold-Tree Shape level_shape

-- a value and the members behind it
abbrev pub behind_of : Bor Tree × Bor (List Tree) → Behind Shape
behind_of found = record { value = shape_of found.0.now; rest = map shape_of found.1.now }

-- trees that came from the end, in the order of the text
abbrev pub from_end : List Tree → Shapes
from_end trees = gathered (map shape_of (reverse trees))

-- what has come of values in braces
abbrev pub frame_of : Level → Frame
frame_of level.Fresh = Fresh
frame_of (level.Wanting trees) = Wanting (from_end trees.items)
frame_of (level.Holding tree trees) = Holding (shape_of tree) (from_end trees.items)
frame_of (level.Choosing tree trees) = Choosing (shape_of tree) (from_end trees.items)

-- the braces that are open
abbrev pub stack_of : Growing → Stack
stack_of growing = record { top = frame_of growing.top; below = map frame_of (reverse growing.below.items) }
