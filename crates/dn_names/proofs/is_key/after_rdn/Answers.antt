-- One pair more, or none.
use Rattle.std.proofs.Common.{◌∷◌, ◌+◌, drop, sym, ◌∙◌, ap, arith}
use Rattle.std.proofs.lemmas.List.{drop_more}
use Rattle.dn_names.specs.declared.printing.Shown.TheVariants.{Key}
use Rattle.dn_names.specs.Printing.{print_pair, shown_of}
use Rattle.dn_names.proofs.is_key.StripLemmas.{strip_next, strip_stop}
use Rattle.dn_names.proofs.is_key.after_rdn.Goals as goal

pub loop-index-preserved : goal.loop-index-preserved
loop-index-preserved c =
    let l = c.loop-index in
    let rdn = c.args.rdn.now in
    let pair = c.index-rdn-index.result in
    let left = drop_more rdn l.index pair (omega arith) ∙ ap (λ x. x ∷ drop (l.index + 1) rdn) (sym c.index-rdn-index.is) in
    strip_next 43 (print_pair (shown_of Key)) rdn l.index pair l.rest.now _ left l.invariant c.in-Some.others.now (sym c.in-Some.ensures.exact)

pub returns-in-None : goal.returns-in-None
returns-in-None c =
    let l = c.loop-index in
    let rdn = c.args.rdn.now in
    let pair = c.index-rdn-index.result in
    let left = drop_more rdn l.index pair (omega arith) ∙ ap (λ x. x ∷ drop (l.index + 1) rdn) (sym c.index-rdn-index.is) in
    record { exact = strip_stop 43 (print_pair (shown_of Key)) rdn l.index pair l.rest.now _ left l.invariant (sym c.in-None.ensures.exact) }
