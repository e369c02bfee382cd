-- By whether the pair goes among the others, and whether more follow.
use Rattle.std.proofs.Common.{[], length, sym, ap, ◌∙◌, arith}
use Rattle.dn_names.specs.Reading.{pair_of, rdn_of}
use Rattle.dn_names.specs.Resolving.{rdn_from}
use Rattle.dn_names.proofs.resolve.ResolveLemmas.{rdn_of-last, rdn_of-more, rdn_of-first, rdn_from-add, rdn_from-cause}
use Rattle.dn_names.proofs.parsing.read_pairs.Goals as goal

pub returns-in-Err-clause-exact : goal.returns-in-Err-clause-exact
returns-in-Err-clause-exact c =
    let l = c.pairs in
    let first = rdn_of-first l.rest.now c.cut.result.0.now (λ x. x.now) c.cut.result.1 c.cut.ensures.exact in
    rdn_from-cause c.in-Err.error l.index l.pairs.items (pair_of c.cut.result.0.now) first.0 _ c.in-Err.ensures.part
    (sym (ap (λ ws. rdn_from l.index l.pairs.items ws) first.1) ∙ l.invariant.exact)

pub pairs-preserved : goal.pairs-preserved
pairs-preserved c =
    let l = c.pairs in
    let is = rw c.in-Some.is at c.cut.ensures.exact in
    let more = rdn_of-more l.rest.now c.cut.result.0.now c.in-Some.others.now is in
    let added = rdn_from-add l.index l.pairs.items c.add.new.pairs.items (pair_of c.cut.result.0.now) (rdn_of c.in-Some.others.now) c.in-Ok.ensures.ok in
    let fits = rw c.in-Some.is at c.cut.ensures.fits in
    record {
      exact = sym added ∙ sym (ap (λ ws. rdn_from l.index l.pairs.items ws) more) ∙ l.invariant.exact;
      count = omega (arith, l.invariant.count, ap length more, c.in-Ok.ensures.len);
      fits = omega (arith, l.invariant.fits, fits);
    }

pub returns-in-None-clause-exact : goal.returns-in-None-clause-exact
returns-in-None-clause-exact c =
    let l = c.pairs in
    let is = rw c.in-None.is at c.cut.ensures.exact in
    let last = rdn_of-last l.rest.now c.cut.result.0.now is in
    let added = rdn_from-add l.index l.pairs.items c.add.new.pairs.items (pair_of c.cut.result.0.now) [] c.in-Ok.ensures.ok in
    sym l.invariant.exact ∙ ap (λ ws. rdn_from l.index l.pairs.items ws) last ∙ added

pub returns-in-None-clause-len : goal.returns-in-None-clause-len
returns-in-None-clause-len c =
    let l = c.pairs in
    let is = rw c.in-None.is at c.cut.ensures.exact in
    let last = rdn_of-last l.rest.now c.cut.result.0.now is in
    omega (arith, l.invariant.count, ap length last, c.in-Ok.ensures.len)
