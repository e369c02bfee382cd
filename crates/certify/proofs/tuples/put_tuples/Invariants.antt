-- What is put so far, and the tuples that are left.
use Rattle.std.proofs.Common.{◌≡◌, ◌++◌, map, drop}
use Rattle.acdf_filters.specs.aci_item.item.Views.{tuple_of}
use Rattle.certify.specs.Lines.{line_of}
use Rattle.certify.specs.Making.{tuple_line_for}
use Rattle.certify.proofs.tuples.put_tuples.Given as goal

abbrev pub invariant-loop-tuple : goal.invariant-loop-tuple
invariant-loop-tuple l =
    map line_of l.lines.items ++ map (tuple_line_for l.question l.seen l.tag) (map tuple_of (drop l.tuple-index l.tuples))
    ≡ map line_of l.initial.lines.items ++ map (tuple_line_for l.question l.seen l.tag) (map tuple_of l.tuples)
