-- The octets so far were printed.
use Rattle.std.proofs.Common.{◌≡◌, ◌++◌, take}
use Rattle.filter_text.specs.Printing.{print_value}
use Rattle.filter_text.proofs.printing.put_value.Given as goal

abbrev pub invariant-loop-octet : goal.invariant-loop-octet
invariant-loop-octet l = l.out.items ≡ l.fn.out.items ++ print_value (take l.octet-index l.value)
