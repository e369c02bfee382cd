-- One RDN is replaced by an equal one.
use Rattle.std.proofs.Common.{◌≡◌, ℕ, zero, suc, List, [], ◌∷◌, get_or, refl, ap, ◌∙◌}
use Rattle.std.specs.Prelude.{slice_set}
use Rattle.dn_names.specs.name.Names.{SharedRdn, rdns_of}
use Rattle.dn_names.proofs.sharing.share_rdns.Goals as goal

-- RDNs with an equal one in the place of one
rdns_of-set : {Z : Type 0} (rdns : List (SharedRdn Z)) (index : ℕ) (default new : SharedRdn Z) → new.value ≡ (get_or rdns index default).value → rdns_of (slice_set rdns index new) ≡ rdns_of rdns
rdns_of-set [] index default new same = refl
rdns_of-set (rdn ∷ rdns) zero default new same = ap (λ pairs. pairs ∷ rdns_of rdns) same
rdns_of-set (rdn ∷ rdns) (suc index) default new same = ap (λ rest. rdn.value ∷ rest) (rdns_of-set rdns index default new same)

pub loop-index-preserved : goal.loop-index-preserved
loop-index-preserved c =
    rdns_of-set c.loop-index.rdns c.loop-index.index c.index-rdns-index.result c.share_rdn.new.rdn c.share_rdn.ensures.exact
    ∙ c.loop-index.invariant
