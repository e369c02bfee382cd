-- What is left of the value is asked of what is left of the octets.
use Rattle.std.proofs.Common.{◌≡◌, true, drop}
use Rattle.std.specs.Prelude.{◌==◌}
use Rattle.dn_names.specs.Printing.{print_from}
use Rattle.dn_names.specs.KeyReading.{strip}
use Rattle.dn_names.proofs.is_key.after_value.Given as goal

abbrev pub invariant-loop-index : goal.invariant-loop-index
invariant-loop-index l = strip (print_from (l.index == 0) (drop l.index l.value)) l.rest ≡ strip (print_from true l.value) l.octets
