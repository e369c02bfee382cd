-- A refinement at some depth.
use Rattle.std.proofs.Common.{◌≡◌, ℕ, ◌<◌, ◌-◌, suc, refl, ap, sym, arith}
use Prim.Native.Nat.{zero}
use Rattle.std.specs.Prelude.{Option, None}
use Rattle.gser_tree.specs.looking.Shapes.{Shape}
use Rattle.gser_tree.specs.looking.Looking.{chosen_in}
use Rattle.gser_tree.specs.Reading.{expect, ◌>>=◌}
use Rattle.subtree_spec.specs.SubtreeText.{alternative, refinement}

-- no depth is left
pub no_level : (depth : ℕ) (shape : Shape) (bad : Option ℕ) → depth ≡ 0 → refinement depth shape bad ≡ None
unfolding refinement
no_level zero shape bad h = refl
no_level (suc depth) shape bad h = absurd (omega arith)

-- one level, and the depth that is left
pub one_level : (depth : ℕ) (shape : Shape) (bad : Option ℕ) → 0 < depth
    → refinement depth shape bad ≡ (expect (chosen_in shape) >>= λ chosen. alternative (refinement (depth - 1)) chosen.0.text chosen.1) bad
unfolding refinement
one_level zero shape bad h = absurd (omega arith)
one_level (suc depth) shape bad h =
    let left : suc depth - 1 ≡ depth = omega arith in
    ap (λ d. (expect (chosen_in shape) >>= λ chosen. alternative (refinement d) chosen.0.text chosen.1) bad) (sym left)
