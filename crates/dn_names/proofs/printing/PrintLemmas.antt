-- A name is printed from its last RDN on, and what is printed of texts is a text.
use Rattle.std.proofs.Common.{◌≡◌, ℕ, ◌+◌, ◌-◌, ◌<◌, false, List, [], ◌∷◌, ◌++◌, length, take, drop, get_or, reverse, refl, sym, ap, ◌∙◌, arith, append_assoc}
use Rattle.std.specs.Prelude.{◌==◌, if◌then◌else◌}
use Rattle.std.proofs.lemmas.List.{drop_more, take_more, drop-map, take-map, get_or-reverse, length-reverse}
use Rattle.std.proofs.lemmas.Bool.Decides.{nat_tests}
use Rattle.dn_names.specs.Printing.{join_from}
use Rattle.dn_names.specs.name.Names.{SharedRdn, rdns_of}
use Rattle.dn_names.proofs.resolve.ResolveLemmas.{rdns_of-reverse, rdns_of-push}

module _ {Z : Type 0} (rdns : List (SharedRdn Z)) (index : ℕ) (rdn : SharedRdn Z) (within : index < length rdns) (is : rdn ≡ get_or rdns (length rdns - 1 - index) rdn) where
  from_end : get_or (reverse rdns) index rdn ≡ rdn
  from_end = get_or-reverse rdns index rdn within ∙ sym is

  inside : index < length (reverse rdns)
  inside = omega (arith, within, length-reverse rdns)

  -- the RDNs that are left, root last
  pub drop-reverse : drop index (reverse (rdns_of rdns)) ≡ rdn.value ∷ drop (index + 1) (reverse (rdns_of rdns))
  drop-reverse =
      ap (drop index) (sym (rdns_of-reverse rdns))
      ∙ drop-map (λ (r : SharedRdn Z). r.value) index (reverse rdns)
      ∙ ap rdns_of (drop_more (reverse rdns) index rdn inside ∙ ap (λ x. x ∷ drop (index + 1) (reverse rdns)) from_end)
      ∙ ap (λ t. rdn.value ∷ t) (sym (drop-map (λ (r : SharedRdn Z). r.value) (index + 1) (reverse rdns)) ∙ ap (drop (index + 1)) (rdns_of-reverse rdns))

  -- those that have come
  pub take-reverse : take (index + 1) (reverse (rdns_of rdns)) ≡ take index (reverse (rdns_of rdns)) ++ rdn.value ∷ []
  take-reverse =
      ap (take (index + 1)) (sym (rdns_of-reverse rdns))
      ∙ take-map (λ (r : SharedRdn Z). r.value) (index + 1) (reverse rdns)
      ∙ ap rdns_of (take_more (reverse rdns) index rdn inside ∙ ap (λ x. take index (reverse rdns) ++ x ∷ []) from_end)
      ∙ rdns_of-push (take index (reverse rdns)) rdn (take index (reverse rdns) ++ rdn ∷ []) refl
      ∙ ap (λ t. t ++ rdn.value ∷ []) (sym (take-map (λ (r : SharedRdn Z). r.value) index (reverse rdns)) ∙ ap (take index) (rdns_of-reverse rdns))

not_first : (i : ℕ) → (i + 1 == 0) ≡ false
not_first i = grind (arith, nat_tests)

-- one item more is written
pub next_item : {A : Type 0} (mark : ℕ) (show : A → List ℕ) (xs : List A) (i : ℕ) (x : A) (out mid new total : List ℕ) → drop i xs ≡ x ∷ drop (i + 1) xs → mid ≡ out ++ (if i == 0 then [] else mark ∷ []) → new ≡ mid ++ show x → out ++ join_from mark show (i == 0) (drop i xs) ≡ total → new ++ join_from mark show (i + 1 == 0) (drop (i + 1) xs) ≡ total
next_item mark show xs i x out mid new total left marked more e =
    let rest = join_from mark show false (drop (i + 1) xs) in
    ap (λ b. new ++ join_from mark show b (drop (i + 1) xs)) (not_first i)
    ∙ ap (λ t. t ++ rest) (more ∙ ap (λ t. t ++ show x) marked)
    ∙ append_assoc (out ++ (if i == 0 then [] else mark ∷ [])) (show x) rest
    ∙ append_assoc out (if i == 0 then [] else mark ∷ []) (show x ++ rest)
    ∙ ap (λ t. out ++ join_from mark show (i == 0) t) (sym left)
    ∙ e
