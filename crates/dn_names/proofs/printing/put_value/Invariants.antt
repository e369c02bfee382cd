-- What is written and what is left to print are the whole.
use Rattle.std.proofs.Common.{◌≡◌, ◌++◌, true, drop}
use Rattle.std.specs.Prelude.{◌==◌}
use Rattle.dn_names.specs.Printing.{print_from}
use Rattle.dn_names.proofs.printing.put_value.Given as goal

abbrev pub invariant-loop-index : goal.invariant-loop-index
invariant-loop-index l =
    l.out.items ++ print_from (l.index == 0) (drop l.index l.octets) ≡ l.initial.out.items ++ print_from true l.octets
