-- The value is alone where no other values and no other braces are.
use Rattle.std.proofs.Common.{◌≡◌, ◌∙◌, sym, ap, length, false}
use Rattle.std.specs.Prelude.{◌==◌, ◌&&◌, map, reverse}
use Rattle.gser_tree.specs.Tree.{shape_of, frame_of}
use Rattle.gser_tree.specs.Growing.{value_at}
use Rattle.gser_tree.proofs.growing.GrowingLemmas.{alone}
use Rattle.gser_tree.proofs.growing.value_in.Goals as goal

pub returns-in-Holding : goal.returns-in-Holding
returns-in-Holding c =
    let trees = c.in-Holding.trees.items in
    let below = c.args.growing.below.items in
    let empty : false ≡ ((length trees == 0) && (length below == 0)) = cc in
    record {
      exact = alone (shape_of c.in-Holding.tree) trees below false empty
          ∙ ap (λ level. value_at (frame_of level) (map frame_of (reverse below))) (sym c.in-Holding.is);
    }
