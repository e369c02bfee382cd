-- Which of two names comes first, whether they are the same, and what superiors and names below have to do with it.
use Rattle.std.proofs.Common.{◌≡◌, ◌≢◌, ◌⊎◌, inl, inr, ℕ, ◌-◌, ◌<◌, ◌≤◌, zero, suc, Bool, true, false, not, ◌&&◌, List, [], ◌∷◌, length, take, refl, sym, ap, subst, ◌∙◌, arith, Ordering, nat_lt, map}
use Rattle.std.specs.Ordering.{ordering_then, ordering_reverse, is_lt, is_gt, is_eq}
use Rattle.std.specs.declared.cmp.Ordering.TheVariants.{Less, Equal, Greater}
use Rattle.std.specs.Cmp.Lexicographic.{slice_cmp}
use Rattle.std.proofs.lemmas.Cmp.{tied_itself, tied_back, alike_right}
use Rattle.std.proofs.lemmas.List.{length-map, take-map, take_all, length-take-le}
use Rattle.std.proofs.lemmas.Bool.{and_from, and_left, and_right, cases_lt, lt-ltb, le-ltb, true_from_ne_false, not_from_false, not_from_true}
use Rattle.base_laws.proofs.Theorems.{is_equal}
use Rattle.dn_names.specs.name.Names.{RdnSequence}
use Rattle.dn_names.specs.NameOrder.{rdn_cmp, name_cmp, is_same, is_prefix_of, type_and_key}
use Rattle.dn_names.proofs.Theorems.{name_cmp_total, is_same-types_and_keys, name_cmp-prefix}
use Rattle.dir_tree.specs.tree.Trees.{is_before, is_below, superior_name}

is_less : (o : Ordering) → is_lt o ≡ true → o ≡ Less
is_less Less e = refl
is_less Equal e = absurd cc
is_less Greater e = absurd cc

turned : (o : Ordering) → is_gt o ≡ is_lt (ordering_reverse o)
turned Less = refl
turned Equal = refl
turned Greater = refl

-- the tests as answers of the order
pub Less-from_before : (x y : RdnSequence) → is_before x y ≡ true → name_cmp x y ≡ Less
Less-from_before x y e = is_less (name_cmp x y) e

pub Equal-from_same : (x y : RdnSequence) → is_same x y ≡ true → name_cmp x y ≡ Equal
unfolding is_same
Equal-from_same x y e = is_equal (name_cmp x y) e

pub same-from_Equal : (x y : RdnSequence) → name_cmp x y ≡ Equal → is_same x y ≡ true
unfolding is_same
same-from_Equal x y e = ap is_eq e

pub is_gt-turned : (x y : RdnSequence) → is_gt (name_cmp x y) ≡ is_before y x
is_gt-turned x y = turned (name_cmp x y) ∙ ap is_lt (sym (name_cmp_total.antisymm y x))

-- a name is the same as itself, and one that is the same takes its place
pub same_itself : (x : RdnSequence) → is_same x x ≡ true
same_itself x = same-from_Equal x x (tied_itself name_cmp_total x)

pub same_back : (x y : RdnSequence) → is_same x y ≡ true → is_same y x ≡ true
same_back x y e = same-from_Equal y x (tied_back name_cmp_total x y (Equal-from_same x y e))

pub same_like : (x y z : RdnSequence) → is_same x y ≡ true → is_same x z ≡ is_same y z
unfolding is_same
same_like x y z e = ap is_eq (name_cmp_total.congr x y z (Equal-from_same x y e))

pub like_same : (x y z : RdnSequence) → is_same x y ≡ true → is_same z x ≡ is_same z y
unfolding is_same
like_same x y z e = ap is_eq (alike_right name_cmp_total x y z (Equal-from_same x y e))

pub before_like : (x y z : RdnSequence) → is_same x y ≡ true → is_before x z ≡ is_before y z
before_like x y z e = ap is_lt (name_cmp_total.congr x y z (Equal-from_same x y e))

pub like_before : (x y z : RdnSequence) → is_same x y ≡ true → is_before z x ≡ is_before z y
like_before x y z e = ap is_lt (alike_right name_cmp_total x y z (Equal-from_same x y e))

-- the order chains, and has one answer
pub before_chain : (x y z : RdnSequence) → is_before x y ≡ true → is_before y z ≡ true → is_before x z ≡ true
before_chain x y z e f = ap is_lt (name_cmp_total.trans x y z (Less-from_before x y e) (Less-from_before y z f))

pub before_not_back : (x y : RdnSequence) → is_before x y ≡ true → is_before y x ≡ false
before_not_back x y e = ap is_lt (name_cmp_total.antisymm y x ∙ ap ordering_reverse (Less-from_before x y e))

pub before_not_same : (x y : RdnSequence) → is_before x y ≡ true → is_same x y ≡ false
unfolding is_same
before_not_same x y e = ap is_eq (Less-from_before x y e)

pub before_not_itself : (x : RdnSequence) → is_before x x ≡ false
before_not_itself x = ap is_lt (tied_itself name_cmp_total x)

pub same_not_before : (x y : RdnSequence) → is_same x y ≡ true → is_before x y ≡ false
same_not_before x y e = ap is_lt (Equal-from_same x y e)

which : (x y : RdnSequence) (o : Ordering) → name_cmp x y ≡ o → (is_before x y ≡ true) ⊎ (is_same x y ≡ true) ⊎ (is_before y x ≡ true)
which x y Less e = inl (ap is_lt e)
which x y Equal e = inr (inl (same-from_Equal x y e))
which x y Greater e = inr (inr (ap is_lt (name_cmp_total.antisymm y x ∙ ap ordering_reverse e)))

pub which_first : (x y : RdnSequence) → (is_before x y ≡ true) ⊎ (is_same x y ≡ true) ⊎ (is_before y x ≡ true)
which_first x y = which x y (name_cmp x y) refl

-- names that are the same have as many RDNs, and the same fronts
pub length-same : (x y : RdnSequence) → is_same x y ≡ true → length x ≡ length y
length-same x y e =
    sym (length-map x (map type_and_key))
    ∙ ap length ((is_same-types_and_keys x y).0 e)
    ∙ length-map y (map type_and_key)

pub same-take : (k : ℕ) (x y : RdnSequence) → is_same x y ≡ true → is_same (take k x) (take k y) ≡ true
same-take k x y e =
    (is_same-types_and_keys (take k x) (take k y)).1
    (sym (take-map (map type_and_key) k x) ∙ ap (take k) ((is_same-types_and_keys x y).0 e) ∙ take-map (map type_and_key) k y)

pub same-superior : (x y : RdnSequence) → is_same x y ≡ true → is_same (superior_name x) (superior_name y) ≡ true
same-superior x y e =
    subst (λ (n : ℕ). is_same (take (length x - 1) x) (take (n - 1) y) ≡ true) (length-same x y e) (same-take (length x - 1) x y e)

-- fronts keep the order
front_upto : {A : Type 0} (R : A → A → Ordering) (k : ℕ) (xs ys : List A) → is_gt (slice_cmp R xs ys) ≡ false → is_gt (slice_cmp R (take k xs) (take k ys)) ≡ false
front_upto R zero xs ys e = refl
front_upto R (suc k) [] [] e = refl
front_upto R (suc k) [] (y ∷ ys) e = refl
front_upto R (suc k) (x ∷ xs) [] e = absurd cc
front_upto R (suc k) (x ∷ xs) (y ∷ ys) e = step (front_upto R k xs ys) (R x y) e
  where
    step : (is_gt (slice_cmp R xs ys) ≡ false → is_gt (slice_cmp R (take k xs) (take k ys)) ≡ false) → (o : Ordering) → is_gt (ordering_then o (slice_cmp R xs ys)) ≡ false → is_gt (ordering_then o (slice_cmp R (take k xs) (take k ys))) ≡ false
    step later Less f = refl
    step later Equal f = later f
    step later Greater f = absurd cc

pub name_cmp-take : (k : ℕ) (x y : RdnSequence) → is_gt (name_cmp x y) ≡ false → is_gt (name_cmp (take k x) (take k y)) ≡ false
unfolding name_cmp
name_cmp-take k x y e = front_upto rdn_cmp k x y e

and_true : (b : Bool) → (b && true) ≡ b
and_true true = refl
and_true false = refl

-- what begins with a name, or is shorter and the same, stands where the front does
front_before : (base x : RdnSequence) → name_cmp (take (length base) x) base ≡ Less → is_before x base ≡ true
front_before base x e = true_from_ne_false (is_before x base) (λ no.
    let fronts = name_cmp-take (length base) base x (is_gt-turned base x ∙ no) in
    let whole : take (length base) base ≡ base = take_all (length base) base (omega arith) in
    let less : is_gt (name_cmp base (take (length base) x)) ≡ true = is_gt-turned base (take (length base) x) ∙ ap is_lt e in
    let not_less : is_gt (name_cmp base (take (length base) x)) ≡ false = rw whole at fronts in
    absurd cc)

longer_before : (base x : RdnSequence) → is_same (take (length base) x) base ≡ true → length base < length x → is_before base x ≡ true
unfolding is_prefix_of
longer_before base x e h = ap is_lt (name_cmp-prefix base x e h)

shorter_same : (base x : RdnSequence) → is_same (take (length base) x) base ≡ true → length x ≤ length base → is_same x base ≡ true
shorter_same base x e h =
    let whole : take (length base) x ≡ x = take_all (length base) x h in
    rw whole at e

not_before_front : (base x : RdnSequence) → is_same (take (length base) x) base ≡ true → is_before x base ≡ false
not_before_front base x e = elim (cases_lt (length base) (length x)) [
  | inl longer ↦ before_not_back base x (longer_before base x e longer)
  | inr short ↦ same_not_before x base (shorter_same base x e short)
]

-- a name begins another where that one does not come before it, and its front not after
pub prefix_between : (base x : RdnSequence) → is_prefix_of base x ≡ (not (is_before x base) && not (is_gt (name_cmp (take (length base) x) base)))
unfolding is_prefix_of is_same
prefix_between base x = by (name_cmp (take (length base) x) base) refl
  where
    by : (o : Ordering) → name_cmp (take (length base) x) base ≡ o → is_same (take (length base) x) base ≡ (not (is_before x base) && not (is_gt o))
    by Less e = ap is_eq e ∙ sym (and_left (not (is_before x base)) true (not_from_true (is_before x base) (front_before base x e)))
    by Equal e = ap is_eq e ∙ sym (and_from (not (is_before x base)) true (not_from_false (is_before x base) (not_before_front base x (ap is_eq e))) refl)
    by Greater e = ap is_eq e ∙ sym (and_right (not (is_before x base)) false refl)

-- a name is below another where it comes after it, and its front not
pub below_between : (base x : RdnSequence) → is_below base x ≡ (not (not (is_before base x)) && not (is_gt (name_cmp (take (length base) x) base)))
unfolding is_prefix_of is_same
below_between base x = by (name_cmp (take (length base) x) base) refl
  where
    nots : (b : Bool) → not (not b) ≡ b
    nots true = refl
    nots false = refl

    at_front : is_same (take (length base) x) base ≡ true → nat_lt (length base) (length x) ≡ is_before base x
    at_front e = elim (cases_lt (length base) (length x)) [
      | inl longer ↦ lt-ltb (length base) (length x) longer ∙ sym (longer_before base x e longer)
      | inr short ↦ le-ltb (length base) (length x) short ∙ sym (same_not_before base x (same_back x base (shorter_same base x e short)))
    ]

    by : (o : Ordering) → name_cmp (take (length base) x) base ≡ o → (is_same (take (length base) x) base && nat_lt (length base) (length x)) ≡ (not (not (is_before base x)) && not (is_gt o))
    by Less e =
        and_left (is_same (take (length base) x) base) (nat_lt (length base) (length x)) (ap is_eq e)
        ∙ sym (and_left (not (not (is_before base x))) true (nots (is_before base x) ∙ before_not_back x base (front_before base x e)))
    by Equal e =
        ap (λ b. b && nat_lt (length base) (length x)) (ap is_eq e)
        ∙ at_front (ap is_eq e)
        ∙ sym (nots (is_before base x))
        ∙ sym (and_true (not (not (is_before base x))))
    by Greater e =
        and_left (is_same (take (length base) x) base) (nat_lt (length base) (length x)) (ap is_eq e)
        ∙ sym (and_right (not (not (is_before base x))) false refl)

-- the superior comes before, and what is the superior has the name below it
pub superior_before : (x : RdnSequence) → x ≢ [] → is_before (superior_name x) x ≡ true
superior_before [] filled = absurd (filled refl)
superior_before (rdn ∷ rdns) filled =
    let x : RdnSequence = rdn ∷ rdns in
    let short : length (superior_name x) ≡ length x - 1 = length-take-le (length x - 1) x (omega arith) in
    let front : is_same (take (length (superior_name x)) x) (superior_name x) ≡ true = rw short (same_itself (superior_name x)) in
    longer_before (superior_name x) x front (omega arith)

pub below_superior : (base x : RdnSequence) → x ≢ [] → is_same base (superior_name x) ≡ true → is_below base x ≡ true
unfolding is_prefix_of
below_superior base [] filled e = absurd (filled refl)
below_superior base (rdn ∷ rdns) filled e =
    let x : RdnSequence = rdn ∷ rdns in
    let short : length (superior_name x) ≡ length x - 1 = length-take-le (length x - 1) x (omega arith) in
    let as_long : length base ≡ length x - 1 = length-same base (superior_name x) e ∙ short in
    let front : is_same (take (length base) x) base ≡ true = rw as_long (same_back base (superior_name x) e) in
    and_from (is_same (take (length base) x) base) (nat_lt (length base) (length x)) front (lt-ltb (length base) (length x) (omega arith))

-- the empty name comes before all others
pub empty_before : (x : RdnSequence) → is_before [] x ≡ nat_lt 0 (length x)
unfolding name_cmp
empty_before [] = refl
empty_before (rdn ∷ rdns) = sym (lt-ltb 0 (suc (length rdns)) (omega arith))
