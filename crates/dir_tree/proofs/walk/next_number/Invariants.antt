-- What was passed over is not at the depth.
use Rattle.std.proofs.Common.{◌≡◌, ℕ, Vec, Global}
use Rattle.dir_tree.specs.Walk.{walked}
use Rattle.dir_tree.proofs.walk.next_number.Given as goal

abbrev pub invariant-loop-path : goal.invariant-loop-path
invariant-loop-path l = walked (λ (key : Vec ℕ Global). key.items) l.depth l.slots l.base l.range ≡ walked (λ (key : Vec ℕ Global). key.items) l.depth l.slots l.base l.fn.range
