-- The lines that are left, put in the entry so far, give what all lines give.
use Rattle.std.proofs.Common.{◌≡◌, drop}
use Rattle.fault_places.specs.Making.{with_all}
use Rattle.fault_places.proofs.making.add_lines.Given as goal

abbrev pub invariant-loop-line : goal.invariant-loop-line
invariant-loop-line l = with_all l.entry (drop l.line-index l.lines) ≡ with_all l.initial.entry l.lines
