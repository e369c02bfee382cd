-- What is written so far, and the lines that are left.
use Rattle.std.proofs.Common.{◌≡◌, ◌++◌, map, drop}
use Rattle.std.specs.Prelude.{flat_map}
use Rattle.certify.specs.Lines.{line_of, line_text}
use Rattle.certify.proofs.printing.put_lines.Given as goal

abbrev pub invariant-loop-line : goal.invariant-loop-line
invariant-loop-line l =
    l.out.items ++ flat_map line_text (map line_of (drop l.line-index l.lines))
    ≡ l.initial.out.items ++ flat_map line_text (map line_of l.lines)
