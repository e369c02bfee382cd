-- The RDNs of a name from one on.
use Rattle.std.proofs.Common.{◌≡◌, ℕ, List, length, drop, sym, ap, ◌∙◌, min}
use Rattle.std.proofs.lemmas.List.{drop-map, drop_min}
use Rattle.dn_names.specs.name.Names.{SharedRdn, rdns_of}

-- the RDNs from one on
pub rdns_of-drop : {Z : Type 0} (first : ℕ) (xs : List (SharedRdn Z)) → rdns_of (drop (min first (length xs)) xs) ≡ drop first (rdns_of xs)
rdns_of-drop {Z} first xs = ap rdns_of (drop_min first xs) ∙ sym (drop-map (λ (rdn : SharedRdn Z). rdn.value) first xs)
