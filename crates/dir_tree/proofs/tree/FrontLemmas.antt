-- Names that begin others, and what names that are the same begin.
use Rattle.std.proofs.Common.{◌≡◌, ◌≢◌, ℕ, ◌+◌, ◌-◌, ◌≤◌, ◌==◌, Bool, true, false, ◌&&◌, [], ◌∷◌, ◌++◌, length, map, refl, sym, ap, ◌∙◌, nat_lt, arith}
use Rattle.std.specs.Cmp.{both_ways}
use Rattle.std.proofs.lemmas.Bool.Decides.{nat_tests}
use Rattle.std.proofs.lemmas.List.{take_all, length-map, length-append, length-take-le}
use Rattle.dn_names.specs.name.Names.{RdnSequence}
use Rattle.dn_names.specs.NameOrder.{is_same, is_prefix_of, type_and_key, types_and_keys}
use Rattle.dn_names.proofs.Theorems.{is_same-types_and_keys, is_prefix_of-types_and_keys}
use Rattle.dir_tree.specs.Entry.{EntryInformation}
use Rattle.dir_tree.specs.tree.Trees.{is_below, superior_name}
use Rattle.dir_tree.specs.Scope.{is_child}
use Rattle.dir_tree.proofs.tree.NameLemmas.{same_back, length-same}

-- what is the same as a name is the same as what that is the same as
pub same_over : (one other name : RdnSequence) → is_same one other ≡ true → is_same other name ≡ true → is_same one name ≡ true
same_over one other name first second =
    (is_same-types_and_keys one name).1 ((is_same-types_and_keys one other).0 first ∙ (is_same-types_and_keys other name).0 second)

-- what a name begins, what is the same begins
pub begins : (x y name : RdnSequence) → types_and_keys x ≡ types_and_keys y → is_prefix_of x name ≡ true → is_prefix_of y name ≡ true
begins x y name e f =
    let rest = (is_prefix_of-types_and_keys x name).0 f in
    (is_prefix_of-types_and_keys y name).1 (rest.0, rest.1 ∙ ap (λ t. t ++ rest.0) e)

pub begins_both : (x y name : RdnSequence) → types_and_keys x ≡ types_and_keys y → is_prefix_of x name ≡ is_prefix_of y name
begins_both x y name e =
    both_ways (is_prefix_of x name) (is_prefix_of y name) (begins x y name e) (begins y x name (sym e))

pub prefix_same : (x y name : RdnSequence) → is_same x y ≡ true → is_prefix_of x name ≡ is_prefix_of y name
prefix_same x y name e = begins_both x y name ((is_same-types_and_keys x y).0 e)

-- a name begins with what a name that is the same begins with
pub prefix_like : (top name other : RdnSequence) → is_prefix_of top other ≡ true → is_same name other ≡ true → is_prefix_of top name ≡ true
prefix_like top name other e f =
    let rest = (is_prefix_of-types_and_keys top other).0 e in
    let same = (is_same-types_and_keys name other).0 f in
    (is_prefix_of-types_and_keys top name).1 (rest.0, same ∙ rest.1)

-- so what is immediately below a name is immediately below what is the same
pub child_same : (x y : RdnSequence) (entry : EntryInformation) → is_same x y ≡ true → is_child x entry ≡ is_child y entry
child_same x y entry e =
    ap (λ (b : Bool). b && (length entry.name == length x + 1)) (prefix_same x y entry.name e)
    ∙ ap (λ (n : ℕ). is_prefix_of y entry.name && (length entry.name == n + 1)) (length-same x y e)

-- a name that begins another, which is not below it, is the same
pub at_base : (base name : RdnSequence) → is_prefix_of base name ≡ true → is_below base name ≡ false → is_same base name ≡ true
unfolding is_prefix_of
at_base base name within not_below =
    let shorter : nat_lt (length base) (length name) ≡ false = rw within at not_below in
    let short : length name ≤ length base = grind (arith, nat_tests) in
    same_back name base (ap (λ front. is_same front base) (sym (take_all (length base) name short)) ∙ within)

-- a front has at most as many RDNs
pub length-front : (front name : RdnSequence) → is_prefix_of front name ≡ true → length front ≤ length name
length-front front name e =
    let rest = (is_prefix_of-types_and_keys front name).0 e in
    let sum : length name ≡ length front + length rest.0 =
    sym (length-map name (map type_and_key)) ∙ ap length rest.1 ∙ length-append (types_and_keys front) rest.0
    ∙ ap (λ (n : ℕ). n + length rest.0) (length-map front (map type_and_key)) in
    omega arith

-- how many RDNs a superior has
pub length-superior : (name : RdnSequence) → length (superior_name name) ≡ length name - 1
length-superior name = length-take-le (length name - 1) name (omega arith)

pub filled : (name : RdnSequence) → name ≢ [] → 1 ≤ length name
filled [] named = absurd (named refl)
filled (rdn ∷ rdns) named = omega arith
