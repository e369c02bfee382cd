-- One octet more, or none.
use Rattle.std.proofs.Common.{sym}
use Rattle.dn_names.specs.Printing.{print_value}
use Rattle.dn_names.proofs.is_key.StripLemmas.{strip_octet, strip_no_octet}
use Rattle.dn_names.proofs.is_key.after_value.Goals as goal

pub loop-index-preserved : goal.loop-index-preserved
loop-index-preserved c =
    let l = c.loop-index in
    strip_octet c.args.value.now l.index c.loop-index-test.true l.rest.now _ l.invariant c.in-Some.others.now (sym c.in-Some.ensures.exact)

pub returns-in-None : goal.returns-in-None
unfolding print_value
returns-in-None c =
    let l = c.loop-index in
    record { exact = strip_no_octet c.args.value.now l.index c.loop-index-test.true l.rest.now _ l.invariant (sym c.in-None.ensures.exact) }
