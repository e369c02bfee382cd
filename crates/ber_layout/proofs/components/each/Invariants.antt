-- The values so far stand before those that are left.
use Rattle.std.proofs.Common.{◌≡◌, map, length}
use Rattle.ber_layout.specs.components.Components.{behind, each_of}
use Rattle.ber_layout.specs.Layouts.{reads}
use Rattle.ber_layout.proofs.components.each.Given as goal

abbrev pub invariant-loop-alloc : goal.invariant-loop-alloc
invariant-loop-alloc g l =
    each_of l.tag (reads g.T.Laid.layout) l.bytes ≡ behind (map g.T.Laid.parts l.values.items) (each_of l.tag (reads g.T.Laid.layout) l.rest)

abbrev pub decreases-loop-alloc : goal.decreases-loop-alloc
decreases-loop-alloc g l = length l.rest
