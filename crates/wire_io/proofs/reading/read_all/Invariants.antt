use Rattle.std.proofs.Common.{vec_len, ◌-◌, ◌≡◌, ◌≤◌}
use Rattle.wire_io.specs.ReadWhole.{HasRead}
use Rattle.wire_io.proofs.reading.read_all.Given as goal

abbrev pub invariant-loop-content : goal.invariant-loop-content
invariant-loop-content g l = record {
  within : vec_len l.content ≤ l.limit;
  front : HasRead (g.H.Shelf.files l.shelf) l.name l.content.items;
  same : g.H.Shelf.files l.shelf ≡ g.H.Shelf.files l.initial.shelf;
  faults : g.H.Shelf.faults l.shelf ≡ g.H.Shelf.faults l.initial.shelf;
}

abbrev pub decreases-loop-content : goal.decreases-loop-content
decreases-loop-content g l = l.limit - vec_len l.content
