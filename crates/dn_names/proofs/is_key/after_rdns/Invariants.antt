-- What is left of the name is asked of what is left of the octets.
use Rattle.std.proofs.Common.{◌≡◌, true, drop, reverse}
use Rattle.std.specs.Prelude.{◌==◌}
use Rattle.dn_names.specs.declared.printing.Shown.TheVariants.{Key}
use Rattle.dn_names.specs.name.Names.{rdns_of}
use Rattle.dn_names.specs.Printing.{join_from, print_rdn, shown_of}
use Rattle.dn_names.specs.KeyReading.{strip}
use Rattle.dn_names.proofs.is_key.after_rdns.Given as goal

abbrev pub invariant-loop-index : goal.invariant-loop-index
invariant-loop-index l =
    strip (join_from 44 (print_rdn (shown_of Key)) (l.index == 0) (drop l.index (reverse (rdns_of l.rdns)))) l.rest
    ≡ strip (join_from 44 (print_rdn (shown_of Key)) true (reverse (rdns_of l.rdns))) l.octets
