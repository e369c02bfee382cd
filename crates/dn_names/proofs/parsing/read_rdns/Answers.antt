-- By whether the RDN is good, and whether others follow.
use Rattle.std.proofs.Common.{◌≡◌, ◌+◌, ◌++◌, ◌∷◌, [], length, sym, ap, ◌∙◌, arith}
use Rattle.dn_names.specs.name.Names.{rdns_of}
use Rattle.dn_names.specs.Reading.{rdn_of}
use Rattle.dn_names.proofs.resolve.ResolveLemmas.{after_rdns, rdns_at, rdns_at-more, length-rdn_of, rdns_of-push}
use Rattle.dn_names.proofs.parsing.read_rdns.Goals as goal

pub rdns-preserved : goal.rdns-preserved
rdns-preserved c =
    let l = c.rdns in
    let is = rw c.in-Some.is at c.cut.ensures.exact in
    let fits = rw c.in-Some.is at c.cut.ensures.fits in
    let size = length c.as_slice-count.result.now in
    let count : size ≡ length (rdn_of c.cut.result.0.now) = ap length c.as_slice-count.ensures.exact ∙ c.in-Ok.ensures.len in
    let more = rdns_at-more l.index l.rest.now c.cut.result.0.now (rdns_of l.rdns.items) c.in-Some.others.now c.in-Ok.pairs is c.in-Ok.ensures.exact in
    let put = rw c.in_ok-new.ensures.ok at (rdns_of-push l.rdns.items c.in_ok-new.field-0 c.push.new.self.items c.in_ok-push.ensures.items) in
    record {
      exact =
          ap (λ t. after_rdns t (rdns_at (l.index + size) c.in-Some.others.now)) put
          ∙ ap (λ n. after_rdns (rdns_of l.rdns.items ++ c.in-Ok.pairs ∷ []) (rdns_at (l.index + n) c.in-Some.others.now)) count
          ∙ sym more ∙ l.invariant.exact;
      fits = omega (arith, l.invariant.fits, fits, count, length-rdn_of c.cut.result.0.now);
    }
