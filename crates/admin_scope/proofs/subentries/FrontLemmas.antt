-- Names that are fronts of one name.
use Rattle.std.proofs.Common.{◌≡◌, ℕ, ◌<◌, ◌≤◌, true, map, length, take, sym, ap, subst, ◌∙◌, arith, inl, inr}
use Rattle.std.specs.Ordering.{ordering_reverse, is_eq}
use Rattle.std.specs.declared.cmp.Ordering.TheVariants.{Less, Greater}
use Rattle.std.proofs.lemmas.Bool.{cases_lt}
use Rattle.std.proofs.lemmas.List.{length-take-le, take-map, take-take}
use Rattle.dir_tree.specs.dn_names.name.Names.{RdnSequence}
use Rattle.dir_tree.specs.dn_names.NameOrder.{name_cmp, is_same, is_prefix_of, type_and_key, types_and_keys}
use Rattle.dir_tree.proofs.dn_names_proofs.Theorems.{name_cmp_total, is_same-types_and_keys, name_cmp-prefix}
use Rattle.dir_tree.proofs.TreeTheorems.{length-same}

-- the front of so many RDNs, by its types and keys
types_and_keys-take : (k : ℕ) (name : RdnSequence) → types_and_keys (take k name) ≡ take k (types_and_keys name)
types_and_keys-take k name = sym (take-map (map type_and_key) k name)

types_and_keys-front : (front name : RdnSequence) → is_prefix_of front name ≡ true → types_and_keys front ≡ take (length front) (types_and_keys name)
unfolding is_prefix_of
types_and_keys-front front name e = sym ((is_same-types_and_keys (take (length front) name) front).0 e) ∙ types_and_keys-take (length front) name

-- of two fronts the one that is no longer is a front of the other
front_of_front : (x y name : RdnSequence) → is_prefix_of x name ≡ true → is_prefix_of y name ≡ true → length y ≤ length x → is_prefix_of y x ≡ true
unfolding is_prefix_of
front_of_front x y name e f h =
    (is_same-types_and_keys (take (length y) x) y).1 (types_and_keys-take (length y) x
    ∙ ap (take (length y)) (types_and_keys-front x name e)
    ∙ take-take (length y) (length x) (types_and_keys name) h
    ∙ sym (types_and_keys-front y name f))

-- two fronts of as many RDNs are the same
pub same_fronts : (x y name : RdnSequence) → is_prefix_of x name ≡ true → is_prefix_of y name ≡ true → length x ≡ length y → is_same x y ≡ true
same_fronts x y name e f h =
    (is_same-types_and_keys x y).1 (types_and_keys-front x name e
    ∙ ap (λ n. take n (types_and_keys name)) h
    ∙ sym (types_and_keys-front y name f))

not_both : (x y : RdnSequence) → is_same x y ≡ true → name_cmp x y ≡ Less → ⊥
unfolding is_same
not_both x y s l = let clash = sym s ∙ ap is_eq l in cc

-- the later of two fronts is the longer one
pub longer_front : (x y name : RdnSequence) → is_prefix_of x name ≡ true → is_prefix_of y name ≡ true → name_cmp x y ≡ Less → length x < length y
longer_front x y name e f less = elim (cases_lt (length x) (length y)) [
  | inl h ↦ h
  | inr h ↦ (absurd (elim (cases_lt (length y) (length x)) [
    | inl shorter ↦ (let turned : name_cmp y x ≡ Greater = name_cmp_total.antisymm y x ∙ ap ordering_reverse less in let before : name_cmp y x ≡ Less = name_cmp-prefix y x (front_of_front x y name e f h) shorter in let clash = sym turned ∙ before in cc)
    | inr other ↦ (let alike : length x ≡ length y = omega arith in not_both x y (same_fronts x y name e f alike) less)
  ]))
]

-- what is the same as the front of so many RDNs has as many, and is a front
pub length-named : (k : ℕ) (name front : RdnSequence) → k ≤ length name → is_same (take k name) front ≡ true → length front ≡ k
length-named k name front h e = sym (length-same (take k name) front e) ∙ length-take-le k name h

pub front-named : (k : ℕ) (name front : RdnSequence) → k ≤ length name → is_same (take k name) front ≡ true → is_prefix_of front name ≡ true
unfolding is_prefix_of
front-named k name front h e = subst (λ (n : ℕ). is_same (take n name) front ≡ true) (sym (length-named k name front h e)) e

pub named-front : (k : ℕ) (name front : RdnSequence) → is_prefix_of front name ≡ true → length front ≡ k → is_same (take k name) front ≡ true
unfolding is_prefix_of
named-front k name front e h = subst (λ (n : ℕ). is_same (take n name) front ≡ true) h e
