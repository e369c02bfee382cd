-- One RDN more, or none.
use Rattle.std.proofs.Common.{reverse, sym}
use Rattle.dn_names.specs.declared.printing.Shown.TheVariants.{Key}
use Rattle.dn_names.specs.name.Names.{rdns_of}
use Rattle.dn_names.specs.Printing.{print_rdn, print_by, shown_of}
use Rattle.dn_names.proofs.printing.PrintLemmas.{drop-reverse}
use Rattle.dn_names.proofs.is_key.StripLemmas.{strip_next, strip_stop}
use Rattle.dn_names.proofs.is_key.after_rdns.Goals as goal

pub loop-index-preserved : goal.loop-index-preserved
loop-index-preserved c =
    let l = c.loop-index in
    let rdns = c.args.rdns.now in
    let rdn = c.index-rdns-rdns.result in
    let there = rw (c.as_slice.ensures.exact, c.deref.ensures) at c.in-Some.ensures.exact in
    strip_next 44 (print_rdn (shown_of Key)) (reverse (rdns_of rdns)) l.index rdn.value l.rest.now _ (drop-reverse rdns l.index rdn c.loop-index-test.true c.index-rdns-rdns.is) l.invariant c.in-Some.others.now (sym there)

pub returns-in-None : goal.returns-in-None
unfolding print_by
returns-in-None c =
    let l = c.loop-index in
    let rdns = c.args.rdns.now in
    let rdn = c.index-rdns-rdns.result in
    let there = rw (c.as_slice.ensures.exact, c.deref.ensures) at c.in-None.ensures.exact in
    record { exact = strip_stop 44 (print_rdn (shown_of Key)) (reverse (rdns_of rdns)) l.index rdn.value l.rest.now _ (drop-reverse rdns l.index rdn c.loop-index-test.true c.index-rdns-rdns.is) l.invariant (sym there) }
