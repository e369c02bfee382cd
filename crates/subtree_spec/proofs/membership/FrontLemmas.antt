-- A name begins with another exactly where that is a prefix of it.
use Rattle.std.proofs.Common.{◌≡◌, ℕ, ◌<◌, ◌+◌, Bool, true, false, ◌&&◌, [], ◌∷◌, ◌++◌, length, take, drop, get_or, length-drop, ◌-◌, refl, sym, ap, ◌∙◌, arith, add-one}
use Rattle.std.proofs.Math.Seq.{drop-cons}
use Rattle.std.proofs.lemmas.List.{drop_all}
use Rattle.std.specs.Ordering.{ordering_then, is_eq, is_ne}
use Rattle.std.specs.Cmp.Lexicographic.{slice_cmp}
use Rattle.std.specs.declared.cmp.Ordering.{Ordering}
use Rattle.std.specs.declared.cmp.Ordering.TheVariants.{Less, Equal, Greater}
use Rattle.dn_names.specs.name.Names.{RdnSequence}
use Rattle.dn_names.specs.NameOrder.{rdn_cmp, name_cmp, is_same, is_prefix_of}
use Rattle.subtree_spec.specs.membership.Fronts.{begins}

both_equal : (one other : Ordering) → is_eq (ordering_then one other) ≡ (is_eq one && is_eq other)
both_equal Less other = refl
both_equal Equal other = refl
both_equal Greater other = refl

pub begins-prefix : (front name : RdnSequence) → begins front name ≡ is_prefix_of front name
unfolding is_prefix_of is_same name_cmp
begins-prefix [] name = refl
begins-prefix (rdn ∷ front) [] = refl
begins-prefix (rdn ∷ front) (first ∷ name) =
    ap (λ b. is_eq (rdn_cmp first rdn) && b) (begins-prefix front name)
    ∙ sym (both_equal (rdn_cmp first rdn) (slice_cmp rdn_cmp (take (length front) name) front))

-- a shorter name begins with no longer one
pub begins-short : (front name : RdnSequence) → length name < length front → begins front name ≡ false
begins-short [] name h = absurd (omega arith)
begins-short (rdn ∷ front) [] h = refl
begins-short (rdn ∷ front) (first ∷ name) h = and_false (is_eq (rdn_cmp first rdn)) (begins front name) (begins-short front name (omega arith))
  where
    and_false : (a b : Bool) → b ≡ false → (a && b) ≡ false
    and_false true b h = h
    and_false false b h = refl

-- a front of two parts
begins-append : (front more name : RdnSequence) → begins (front ++ more) name ≡ (begins front name && begins more (drop (length front) name))
begins-append [] more name = refl
begins-append (rdn ∷ front) [] [] = refl
begins-append (rdn ∷ front) (other ∷ more) [] = refl
begins-append (rdn ∷ front) more (first ∷ name) =
    ap (λ b. is_eq (rdn_cmp first rdn) && b) (begins-append front more name)
    ∙ sym (and_assoc (is_eq (rdn_cmp first rdn)) (begins front name) (begins more (drop (length front) name)))
  where
    and_assoc : (a b c : Bool) → ((a && b) && c) ≡ (a && (b && c))
    and_assoc true b c = refl
    and_assoc false b c = refl

-- the same of prefixes
pub prefix_append : (front more name : RdnSequence)
    → is_prefix_of (front ++ more) name ≡ (is_prefix_of front name && is_prefix_of more (drop (length front) name))
prefix_append front more name =
    sym (begins-prefix (front ++ more) name) ∙ begins-append front more name
    ∙ ap (λ b. b && begins more (drop (length front) name)) (begins-prefix front name)
    ∙ ap (λ b. is_prefix_of front name && b) (begins-prefix more (drop (length front) name))

-- a longer name is no prefix
pub prefix_short : (front name : RdnSequence) → length name < length front → is_prefix_of front name ≡ false
prefix_short front name h = sym (begins-prefix front name) ∙ begins-short front name h

-- the RDN at a place, before what follows it
at_place : (name : RdnSequence) (place : ℕ) → place < length name → drop place name ≡ get_or name place [] ∷ drop (place + 1) name
at_place name place h = rw add-one (drop-cons name place [] h)

-- one RDN more, or one that differs
pub begins_step : (front name : RdnSequence) (place index : ℕ) → place + index < length name → index < length front
    → begins (drop index front) (drop (place + index) name)
    ≡ (is_eq (rdn_cmp (get_or name (place + index) []) (get_or front index [])) && begins (drop (index + 1) front) (drop (place + (index + 1)) name))
begins_step front name place index here there =
    let next : place + index + 1 ≡ place + (index + 1) = omega arith in
    ap (λ f. begins f (drop (place + index) name)) (at_place front index there)
    ∙ ap (begins (get_or front index [] ∷ drop (index + 1) front)) (at_place name (place + index) here)
    ∙ ap (λ p. is_eq (rdn_cmp (get_or name (place + index) []) (get_or front index [])) && begins (drop (index + 1) front) (drop p name)) next

-- what a test of the step says
pub step_equal : (order : Ordering) (rest : Bool) → false ≡ is_ne order → (is_eq order && rest) ≡ rest
step_equal Less rest h = cc
step_equal Equal rest h = refl
step_equal Greater rest h = cc

pub step_other : (order : Ordering) (rest : Bool) → true ≡ is_ne order → (is_eq order && rest) ≡ false
step_other Less rest h = refl
step_other Equal rest h = cc
step_other Greater rest h = refl

-- all RDNs of the front
pub begins_all : (front name : RdnSequence) → begins (drop (length front) front) name ≡ true
begins_all front name = rw (drop_all (length front) front (omega arith)) refl

-- how many RDNs are left
pub drop_length : (name : RdnSequence) (at : ℕ) → length (drop at name) ≡ length name - at
drop_length name at = omega (arith, length-drop at name)
