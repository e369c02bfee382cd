-- What is written and what is left to print are the whole, and the values so far are texts.
use Rattle.std.proofs.Common.{◌≡◌, ◌++◌, true, take, drop, reverse}
use Rattle.std.specs.Prelude.{◌==◌}
use Rattle.dn_names.specs.name.Names.{IsTextName, rdns_of}
use Rattle.dn_names.specs.Printing.{join_from, print_rdn, shown_of}
use Rattle.dn_names.proofs.printing.put_rdns.Given as goal

abbrev pub invariant-loop-index : goal.invariant-loop-index
invariant-loop-index l = record {
  exact : l.out.items ++ join_from 44 (print_rdn (shown_of l.shown)) (l.index == 0) (drop l.index (reverse (rdns_of l.rdns)))
      ≡ l.initial.out.items ++ join_from 44 (print_rdn (shown_of l.shown)) true (reverse (rdns_of l.rdns));
  text : IsTextName (take l.index (reverse (rdns_of l.rdns)));
}
