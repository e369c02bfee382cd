-- What is written and what is left to print are the whole, and the values so far are texts.
use Rattle.std.proofs.Common.{◌≡◌, ◌++◌, take, drop}
use Rattle.std.specs.Prelude.{◌==◌}
use Rattle.dn_names.specs.name.Names.{IsTextRdn}
use Rattle.dn_names.specs.Printing.{join_from, print_pair, print_rdn, shown_of}
use Rattle.dn_names.proofs.printing.put_rdn.Given as goal

abbrev pub invariant-loop-index : goal.invariant-loop-index
invariant-loop-index l = record {
  exact : l.out.items ++ join_from 43 (print_pair (shown_of l.shown)) (l.index == 0) (drop l.index l.rdn)
      ≡ l.initial.out.items ++ print_rdn (shown_of l.shown) l.rdn;
  text : IsTextRdn (take l.index l.rdn);
}
