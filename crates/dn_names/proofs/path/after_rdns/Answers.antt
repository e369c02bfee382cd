-- One RDN more is passed.
use Rattle.std.proofs.Common.{◌≡◌, ℕ, ◌+◌, suc, drop, ap, ◌∙◌, arith}
use Rattle.dn_names.specs.path.PathKeys.{path_key}
use Rattle.dn_names.proofs.path.PathLemmas.{path_key-next}
use Rattle.dn_names.proofs.path.after_rdns.Goals as goal

pub loop-taken-preserved : goal.loop-taken-preserved
loop-taken-preserved c = λ name whole few.
    (let taken = c.loop-taken._taken in
    let next = path_key-next taken name (omega arith) in
    let more : suc taken ≡ taken + 1 = omega arith in
    c.after_rdn-rest.ensures.exact next.0 (path_key (drop (suc taken) name)) (c.loop-taken.invariant name whole few ∙ next.1)
    ∙ ap (λ (n : ℕ). path_key (drop n name)) more)
