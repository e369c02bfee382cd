-- What stands behind a key, a pair and an RDN in a path key, and in front of the RDNs that are left.
use Rattle.std.proofs.Common.{◌≡◌, ◌≢◌, ℕ, ◌-◌, ◌<◌, zero, suc, Bool, false, List, [], ◌∷◌, ◌++◌, length, take, drop, refl, sym, ap, subst, ◌∙◌, arith, append_assoc}
use Rattle.std.specs.Prelude.{◌==◌, ◌&&◌, if◌then◌else◌}
use Rattle.std.specs.List.{AllByRecursion}
use Rattle.std.proofs.lemmas.List.{take_at, length-append}
use Rattle.base_laws.proofs.Theorems.{suc_not_zero}
use Rattle.dn_names.specs.name.Names.{TypeAndValue, RdnSequence, SharedRdn, rdns_of}
use Rattle.dn_names.specs.name.GoodNames.{IsGoodRdn}
use Rattle.dn_names.specs.path.PathKeys.{escape, rdn_part, path_key, IsKept}
use Rattle.dn_names.specs.path.PathReading.{after_from, after_key}
use Rattle.dn_names.proofs.order.PathKeyLaws.{path_key-cut}

other_octet : (zero_before is_zero : Bool) (octets : List ℕ) → is_zero ≡ false → (if is_zero && zero_before then octets else after_from is_zero octets) ≡ after_from false octets
other_octet zero_before is_zero octets e = ap (λ b. if b && zero_before then octets else after_from b octets) e

-- behind the octets of a key and its end stands what was put behind them
pub after_key-escape : (key more : List ℕ) → after_key (escape key ++ more) ≡ more
after_key-escape [] more = refl
after_key-escape (zero ∷ key) more = after_key-escape key more
after_key-escape (suc n ∷ key) more = other_octet false (suc n == 0) (escape key ++ more) (suc_not_zero n) ∙ after_key-escape key more

-- behind a pair's part stands a part of an RDN again
pub rdn_part-next : (rest others left : List ℕ) (mark : ℕ) (rdn : List TypeAndValue) (more : List ℕ) → rest ≡ mark ∷ others → mark ≡ 2 → ((kind : ℕ) (key after : List ℕ) → others ≡ kind ∷ (escape key ++ after) → left ≡ after) → rest ≡ rdn_part rdn ++ more → (later : List TypeAndValue) × (left ≡ rdn_part later ++ more)
rdn_part-next rest others left mark [] more is pair behind e = absurd cc
rdn_part-next rest others left mark (p ∷ ps) more is pair behind e =
    let there : others ≡ p.kind ∷ ((escape p.value.key ++ rdn_part ps) ++ more) = cc in
    (ps, behind p.kind p.value.key (rdn_part ps ++ more) (there ∙ ap (λ t. p.kind ∷ t) (append_assoc (escape p.value.key) (rdn_part ps) more)))

-- another octet than a pair's ends the RDN
pub rdn_part-end : (rest others : List ℕ) (mark : ℕ) (rdn : List TypeAndValue) (more : List ℕ) → rest ≡ mark ∷ others → mark ≢ 2 → rest ≡ rdn_part rdn ++ more → others ≡ more
rdn_part-end rest others mark [] more is end e = cc
rdn_part-end rest others mark (p ∷ ps) more is end e = absurd (end cc)

-- the path key of the RDNs from one on, and that of the RDNs behind it
pub path_key-next : (n : ℕ) (name : RdnSequence) → n < length name → (rdn : List TypeAndValue) × (path_key (drop n name) ≡ rdn_part rdn ++ path_key (drop (suc n) name))
unfolding path_key
path_key-next n [] h = absurd (omega arith)
path_key-next zero (x ∷ xs) h = (x, refl)
path_key-next (suc n) (x ∷ xs) h = path_key-next n xs (omega arith)

-- what stands in front of the RDNs that are left
pub path_key-front : (count : ℕ) (name : RdnSequence) (octets rest : List ℕ) → octets ≡ path_key name → rest ≡ path_key (drop count name) → take (length octets - length rest) octets ≡ path_key (take count name)
path_key-front count name octets rest whole left =
    let cut = whole ∙ path_key-cut count name in
    let size : length (path_key (take count name)) ≡ length octets - length rest =
    omega (arith, ap length cut, ap length left, length-append (path_key (take count name)) (path_key (drop count name))) in
    ap (take (length octets - length rest)) cut
    ∙ take_at (path_key (take count name)) (path_key (drop count name)) (length octets - length rest) size

-- what holds of no RDN holds of the empty name
pub kept_empty : {Z : Type 0} (rdns : List (SharedRdn Z)) (octets : List ℕ) → rdns ≡ [] → octets ≡ [] → IsKept (rdns_of rdns) octets
unfolding path_key
kept_empty {Z} rdns octets none nothing = record {
  good = record { fits = omega (arith, ap length (ap rdns_of none)); good = subst (λ (t : List (SharedRdn Z)). AllByRecursion IsGoodRdn (rdns_of t)) (sym none) tt };
  path = nothing ∙ ap (λ t. path_key (rdns_of t)) (sym none);
}
