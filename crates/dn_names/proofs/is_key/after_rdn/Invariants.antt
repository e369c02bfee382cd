-- What is left of the RDN is asked of what is left of the octets.
use Rattle.std.proofs.Common.{◌≡◌, drop}
use Rattle.std.specs.Prelude.{◌==◌}
use Rattle.dn_names.specs.declared.printing.Shown.TheVariants.{Key}
use Rattle.dn_names.specs.Printing.{join_from, print_pair, print_rdn, shown_of}
use Rattle.dn_names.specs.KeyReading.{strip}
use Rattle.dn_names.proofs.is_key.after_rdn.Given as goal

abbrev pub invariant-loop-index : goal.invariant-loop-index
invariant-loop-index l = strip (join_from 43 (print_pair (shown_of Key)) (l.index == 0) (drop l.index l.rdn)) l.rest ≡ strip (print_rdn (shown_of Key) l.rdn) l.octets
