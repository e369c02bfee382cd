-- Path keys compare as names do, and one begins another exactly where the name does.
use Rattle.std.proofs.Common.{◌≡◌, ℕ, zero, suc, IsTrue, List, [], ◌∷◌, ◌++◌, length, take, drop, refl, sym, ap, ◌∙◌, arith, append_assoc, Ordering}
use Rattle.std.specs.Prelude.{◌↔◌}
use Rattle.std.specs.List.{flat_map}
use Rattle.std.specs.Ordering.{nat_cmp, ordering_then, is_eq}
use Rattle.std.specs.declared.cmp.Ordering.TheVariants.{Less, Equal, Greater}
use Rattle.std.specs.Cmp.{nat_cmp_is}
use Rattle.std.specs.Cmp.Lexicographic.{slice_cmp}
use Rattle.std.proofs.lemmas.List.{map-id, take-append-drop}
use Rattle.std.proofs.lemmas.Grind.{flat_map-append}
use Rattle.base_laws.proofs.Theorems.{both_equal}
use Rattle.dn_names.specs.name.Names.{TypeAndValue, RdnSequence}
use Rattle.dn_names.specs.NameOrder.{pair_cmp, rdn_cmp, name_cmp, is_same, is_prefix_of}
use Rattle.dn_names.specs.path.PathKeys.{escape, pair_part, rdn_part, path_key}
use Rattle.dn_names.proofs.order.OrderLaws.{equal_same, nat_equal}

-- parts that end by themselves: what stands behind them counts only where they tie
abbrev Embeds : {A : Type 0} → (A → A → Ordering) → (A → List ℕ) → Type 0
Embeds {A} R part = (x y : A) (r s : List ℕ) → slice_cmp nat_cmp (part x ++ r) (part y ++ s) ≡ ordering_then (R x y) (slice_cmp nat_cmp r s)

then_assoc : (a b c : Ordering) → ordering_then a (ordering_then b c) ≡ ordering_then (ordering_then a b) c
then_assoc Less b c = refl
then_assoc Equal b c = refl
then_assoc Greater b c = refl

zero_less : (n : ℕ) → nat_cmp 0 (suc n) ≡ Less
zero_less n = sym (nat_cmp_is 0 (suc n) Less (omega arith))

zero_more : (n : ℕ) → nat_cmp (suc n) 0 ≡ Greater
zero_more n = sym (nat_cmp_is (suc n) 0 Greater (omega arith))

escape_embeds : Embeds (slice_cmp nat_cmp) escape
escape_embeds [] [] r s = refl
escape_embeds [] (zero ∷ y) r s = refl
escape_embeds [] (suc n ∷ y) r s = ap (λ o. ordering_then o (slice_cmp nat_cmp (0 ∷ r) (escape y ++ s))) (zero_less n)
escape_embeds (zero ∷ x) [] r s = refl
escape_embeds (zero ∷ x) (zero ∷ y) r s = escape_embeds x y r s
escape_embeds (zero ∷ x) (suc n ∷ y) r s =
    ap (λ o. ordering_then o (slice_cmp nat_cmp (255 ∷ escape x ++ r) (escape y ++ s))) (zero_less n)
    ∙ sym (ap (λ o. ordering_then (ordering_then o (slice_cmp nat_cmp x y)) (slice_cmp nat_cmp r s)) (zero_less n))
escape_embeds (suc m ∷ x) [] r s = ap (λ o. ordering_then o (slice_cmp nat_cmp (escape x ++ r) (0 ∷ s))) (zero_more m)
escape_embeds (suc m ∷ x) (zero ∷ y) r s =
    ap (λ o. ordering_then o (slice_cmp nat_cmp (escape x ++ r) (255 ∷ escape y ++ s))) (zero_more m)
    ∙ sym (ap (λ o. ordering_then (ordering_then o (slice_cmp nat_cmp x y)) (slice_cmp nat_cmp r s)) (zero_more m))
escape_embeds (suc m ∷ x) (suc n ∷ y) r s =
    ap (ordering_then (nat_cmp (suc m) (suc n))) (escape_embeds x y r s)
    ∙ then_assoc (nat_cmp (suc m) (suc n)) (slice_cmp nat_cmp x y) (slice_cmp nat_cmp r s)

pair_embeds : Embeds pair_cmp pair_part
pair_embeds p q r s =
    ap (ordering_then (nat_cmp p.kind q.kind)) (escape_embeds p.value.key q.value.key r s)
    ∙ then_assoc (nat_cmp p.kind q.kind) (slice_cmp nat_cmp p.value.key q.value.key) (slice_cmp nat_cmp r s)

rdn_embeds : Embeds rdn_cmp rdn_part
rdn_embeds [] [] r s = refl
rdn_embeds [] (q ∷ qs) r s = refl
rdn_embeds (p ∷ ps) [] r s = refl
rdn_embeds (p ∷ ps) (q ∷ qs) r s =
    ap (λ t. slice_cmp nat_cmp t ((pair_part q ++ rdn_part qs) ++ s)) (append_assoc (pair_part p) (rdn_part ps) r)
    ∙ ap (slice_cmp nat_cmp (pair_part p ++ (rdn_part ps ++ r))) (append_assoc (pair_part q) (rdn_part qs) s)
    ∙ pair_embeds p q (rdn_part ps ++ r) (rdn_part qs ++ s)
    ∙ ap (ordering_then (pair_cmp p q)) (rdn_embeds ps qs r s)
    ∙ then_assoc (pair_cmp p q) (rdn_cmp ps qs) (slice_cmp nat_cmp r s)

-- an RDN's part has an octet
nothing_less : (rdn : List TypeAndValue) (more : List ℕ) → slice_cmp nat_cmp [] (rdn_part rdn ++ more) ≡ Less
nothing_less [] more = refl
nothing_less (p ∷ ps) more = refl

something_more : (rdn : List TypeAndValue) (more : List ℕ) → slice_cmp nat_cmp (rdn_part rdn ++ more) [] ≡ Greater
something_more [] more = refl
something_more (p ∷ ps) more = refl

-- path keys compare as names do
pub octets_cmp-path_key : (one other : RdnSequence) → slice_cmp nat_cmp (path_key one) (path_key other) ≡ name_cmp one other
unfolding path_key name_cmp
octets_cmp-path_key [] [] = refl
octets_cmp-path_key [] (y ∷ ys) = nothing_less y (flat_map rdn_part ys)
octets_cmp-path_key (x ∷ xs) [] = something_more x (flat_map rdn_part xs)
octets_cmp-path_key (x ∷ xs) (y ∷ ys) =
    rdn_embeds x y (flat_map rdn_part xs) (flat_map rdn_part ys)
    ∙ ap (ordering_then (rdn_cmp x y)) (octets_cmp-path_key xs ys)

-- octets that tie are the same
pub tied_octets : (xs ys : List ℕ) → slice_cmp nat_cmp xs ys ≡ Equal → xs ≡ ys
tied_octets xs ys e = sym (map-id xs) ∙ equal_same nat_cmp (λ x. x) nat_equal xs ys e ∙ map-id ys

same_tied : (xs : List ℕ) → slice_cmp nat_cmp xs xs ≡ Equal
same_tied [] = refl
same_tied (x ∷ xs) = ap (λ o. ordering_then o (slice_cmp nat_cmp xs xs)) (sym (nat_cmp_is x x Equal refl)) ∙ same_tied xs

equal_is : (o : Ordering) → IsTrue (is_eq o) → o ≡ Equal
equal_is Less e = absurd cc
equal_is Equal e = refl
equal_is Greater e = absurd cc

-- the path key of a name, cut at a front
pub path_key-cut : (count : ℕ) (name : RdnSequence) → path_key name ≡ path_key (take count name) ++ path_key (drop count name)
unfolding path_key
path_key-cut count name =
    ap (flat_map rdn_part) (sym (take-append-drop count name)) ∙ flat_map-append rdn_part (take count name) (drop count name)

-- a name that begins another has a path key that begins the other's
key_begins : (front name : RdnSequence) → IsTrue (is_prefix_of front name) → (rest : List ℕ) × (path_key name ≡ path_key front ++ rest)
unfolding is_prefix_of is_same
key_begins front name e =
    let ties = equal_is (name_cmp (take (length front) name) front) e in
    let same = tied_octets (path_key (take (length front) name)) (path_key front) (octets_cmp-path_key (take (length front) name) front ∙ ties) in
    (path_key (drop (length front) name), path_key-cut (length front) name ∙ ap (λ t. t ++ path_key (drop (length front) name)) same)

-- and the other way round
front_ties : (front name : RdnSequence) (rest : List ℕ) → flat_map rdn_part name ≡ flat_map rdn_part front ++ rest → slice_cmp rdn_cmp (take (length front) name) front ≡ Equal
front_ties [] name rest e = refl
front_ties (x ∷ xs) [] rest e =
    absurd (let clash = sym (something_more x (flat_map rdn_part xs ++ rest))
    ∙ ap (λ t. slice_cmp nat_cmp t []) (sym (append_assoc (rdn_part x) (flat_map rdn_part xs) rest) ∙ sym e) in cc)
front_ties (x ∷ xs) (y ∷ ys) rest e =
    let later = flat_map rdn_part xs ++ rest in
    let whole : rdn_part y ++ flat_map rdn_part ys ≡ rdn_part x ++ later = e ∙ append_assoc (rdn_part x) (flat_map rdn_part xs) rest in
    let ties = sym (rdn_embeds y x (flat_map rdn_part ys) later) ∙ ap (λ t. slice_cmp nat_cmp t (rdn_part x ++ later)) whole ∙ same_tied (rdn_part x ++ later) in
    let both = both_equal (rdn_cmp y x) (slice_cmp nat_cmp (flat_map rdn_part ys) later) ties in
    ap (λ o. ordering_then o (slice_cmp rdn_cmp (take (length xs) ys) xs)) both.0
    ∙ front_ties xs ys rest (tied_octets (flat_map rdn_part ys) later both.1)

-- one path key begins another exactly where the name does
pub is_prefix_of-path_key : (front name : RdnSequence) → IsTrue (is_prefix_of front name) ↔ ((rest : List ℕ) × (path_key name ≡ path_key front ++ rest))
unfolding is_prefix_of is_same name_cmp path_key
is_prefix_of-path_key front name = (key_begins front name, λ (rest, e). ap is_eq (front_ties front name rest e))
