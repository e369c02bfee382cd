-- One RDN more is written.
use Rattle.std.proofs.Common.{reverse, take}
use Rattle.dn_names.specs.name.Names.{IsTextRdn, rdns_of}
use Rattle.dn_names.specs.Printing.{print_rdn, shown_of}
use Rattle.dn_names.proofs.printing.PrintLemmas.{drop-reverse, take-reverse, next_item}
use Rattle.dn_names.proofs.printing.put_rdns.Goals as goal
use Rattle.base_laws.proofs.Theorems.{all_push}

pub loop-index-preserved : goal.loop-index-preserved
loop-index-preserved c =
    let l = c.loop-index in
    let rdns = c.args.rdns.now in
    let rdn = c.index-rdns-rdns.result in
    let text = rw (c.as_slice.ensures.exact, c.deref.ensures) at c.in_ok-put_rdn.ensures.text in
    let more = rw (c.as_slice.ensures.exact, c.deref.ensures) at c.in_ok-put_rdn.ensures.ok in
    record {
      exact = next_item 44 (print_rdn (shown_of c.args.shown)) (reverse (rdns_of rdns)) l.index rdn.value l.out.items c.put_mark.new.out.items c.put_rdn.new.out.items _
          (drop-reverse rdns l.index rdn c.loop-index-test.true c.index-rdns-rdns.is) c.in_ok-put_mark.ensures.ok more l.invariant.exact;
      text = rw (take-reverse rdns l.index rdn c.loop-index-test.true c.index-rdns-rdns.is) (all_push IsTextRdn (take l.index (reverse (rdns_of rdns))) rdn.value l.invariant.text text);
    }
