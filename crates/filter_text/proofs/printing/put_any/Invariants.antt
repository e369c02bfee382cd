-- The parts so far were printed.
use Rattle.std.proofs.Common.{◌≡◌, ◌++◌, take}
use Rattle.filter_text.specs.Printing.{print_any}
use Rattle.filter_text.proofs.printing.put_any.Given as goal

abbrev pub invariant-loop-part : goal.invariant-loop-part
invariant-loop-part l = l.out.items ≡ l.fn.out.items ++ print_any (take l.part-index l.parts)
