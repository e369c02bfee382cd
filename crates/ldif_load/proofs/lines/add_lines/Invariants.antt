use Rattle.std.proofs.Common.{◌≡◌}
use Rattle.std.specs.Vec.Iter.{into_iter_items}
use Rattle.ldif_load.specs.load.Loading.{with_lines}
use Rattle.ldif_load.proofs.lines.add_lines.Given as goal

-- the lines that are left, put in the entry so far, give what all lines give
abbrev pub invariant-loop-line : goal.invariant-loop-line
invariant-loop-line l = with_lines l.initial.entry l.fn.lines.items ≡ with_lines l.entry (into_iter_items l.line-iterator)
