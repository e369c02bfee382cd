-- What is put so far, and the items that are left.
use Rattle.std.proofs.Common.{◌≡◌, ◌++◌, map, drop}
use Rattle.std.specs.Prelude.{flat_map}
use Rattle.acdf_filters.specs.weighing.Weighing.{tagged_of}
use Rattle.certify.specs.Lines.{line_of}
use Rattle.certify.specs.Making.{item_lines}
use Rattle.certify.proofs.tuples.put_items.Given as goal

abbrev pub invariant-loop-item : goal.invariant-loop-item
invariant-loop-item l =
    map line_of l.lines.items ++ flat_map (item_lines l.question l.seen) (map tagged_of (drop l.item-index l.items))
    ≡ map line_of l.initial.lines.items ++ flat_map (item_lines l.question l.seen) (map tagged_of l.items)
