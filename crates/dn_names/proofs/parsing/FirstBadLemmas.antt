-- A part that is refused is the first pair that isn't good.
use Rattle.std.proofs.Common.{◌≡◌, ◌≢◌, ℕ, zero, suc, ◌+◌, ◌<◌, ◌≤◌, List, [], ◌∷◌, ◌++◌, length, take, slice_get, Option, Some, None, Result, Ok, Err, refl, sym, ap, subst, ◌∙◌, arith, inl, inr, true, false, nat_lt}
use Rattle.std.specs.Prelude.{if◌then◌else◌, ◌↔◌}
use Rattle.std.proofs.lemmas.Bool.{cond-true}
use Rattle.std.proofs.lemmas.Bool.Decides.{nat_tests}
use Rattle.std.specs.Option.{option_map, option_and_then}
use Rattle.std.specs.List.{AllByRecursion}
use Rattle.base_laws.proofs.Theorems.{all_map, all_push}
use Rattle.dn_names.specs.declared.error.BadName.{BadName}
use Rattle.dn_names.specs.declared.error.BadName.TheVariants.{Part, TooMany}
use Rattle.dn_names.specs.name.Names.{TypeAndValue, RdnSequence}
use Rattle.dn_names.specs.Spelling.{WrittenPair}
use Rattle.dn_names.specs.Resolving.{pair_meaning, put_pair, or_part, and_then, rdn_from, rdns_from, from_root, resolve}
use Rattle.dn_names.specs.name.GoodNames.{IsInTableOrder}
use Rattle.dn_names.specs.GoodPlaces.{Placed, placed_from, placed_pairs, LacksKind, IsGoodPlace, IsFirstBad}
use Rattle.dn_names.proofs.resolve.PutPairLemmas.{put_pair-less, put_pair-same, put_pair-more}
use Rattle.dn_names.proofs.parsing.OrderedLemmas.{which_first, put_pair-all, put_pair-ordered, put_pair-parts}

-- no pair of these is of the type
abbrev Lacks : ℕ → List TypeAndValue → Type 0
Lacks kind pairs = AllByRecursion (λ q. q.kind ≢ kind) pairs

less_other : (m n : ℕ) → m < n → n ≢ m
less_other m n h e = omega (arith, h, e)

other_less : (m n : ℕ) → n < m → n ≢ m
other_less m n h e = omega (arith, h, e)

-- a pair goes among others that lack its type, and among no others
put-lacks : (pair : TypeAndValue) (pairs next : List TypeAndValue) → IsInTableOrder pairs → put_pair pair pairs ≡ Some next → Lacks pair.kind pairs
put-lacks pair [] next o e = tt
put-lacks pair (first ∷ pairs) next o e = elim (which_first pair.kind first.kind) [
  | inl h ↦ (less_other pair.kind first.kind h, all_map (λ q. first.kind < q.kind) (λ q. q.kind ≢ pair.kind) (λ q l same. omega (arith, h, l, same)) pairs o.0)
  | inr (inl h) ↦ (let is : None ≡ Some next = sym (put_pair-same pair first pairs h) ∙ e in absurd cc)
  | inr (inr h) ↦ (other_less pair.kind first.kind h, later (put_pair pair pairs) refl (sym (put_pair-more pair first pairs h) ∙ e) (λ more is. put-lacks pair pairs more o.1 is))
]
  where
    later : (r : Option (List TypeAndValue)) → put_pair pair pairs ≡ r → option_map (λ more. first ∷ more) r ≡ Some next → ((more : List TypeAndValue) → put_pair pair pairs ≡ Some more → Lacks pair.kind pairs) → Lacks pair.kind pairs
    later None is e go = absurd cc
    later (Some more) is e go = go more is

none-lacks : (pair : TypeAndValue) (pairs : List TypeAndValue) → put_pair pair pairs ≡ None → Lacks pair.kind pairs → ⊥
none-lacks pair [] e lacks = cc
none-lacks pair (first ∷ pairs) e lacks = elim (which_first pair.kind first.kind) [
  | inl h ↦ (let is : Some (pair ∷ first ∷ pairs) ≡ None = sym (put_pair-less pair first pairs h) ∙ e in cc)
  | inr (inl h) ↦ lacks.0 (sym h)
  | inr (inr h) ↦ later (put_pair pair pairs) refl (sym (put_pair-more pair first pairs h) ∙ e) (λ is. none-lacks pair pairs is lacks.1)
]
  where
    later : (r : Option (List TypeAndValue)) → put_pair pair pairs ≡ r → option_map (λ more. first ∷ more) r ≡ None → (put_pair pair pairs ≡ None → ⊥) → ⊥
    later None is e go = go is
    later (Some more) is e go = cc

-- the pairs of an RDN so far, and what they have been put together to
record SoFar (earlier : List WrittenPair) (pairs : List TypeAndValue) : Type 0 where
  ordered : IsInTableOrder pairs
  to : (kind : ℕ) → Lacks kind pairs → LacksKind kind earlier
  from : (kind : ℕ) → LacksKind kind earlier → Lacks kind pairs

-- what reading says of pairs: all are good, or the refused one is the first that isn't
abbrev pub Says : {A : Type 0} → ℕ → List Placed → Result A BadName → Type 0
Says index placed (Ok out) = AllByRecursion IsGoodPlace placed
Says index placed (Err cause) = (i : ℕ) × (cause ≡ Part (index + i)) × IsFirstBad placed i

bad_first : (x : Placed) (rest : List Placed) → ¬ (IsGoodPlace x) → IsFirstBad (x ∷ rest) 0
bad_first x rest bad = record { before = tt; placed = x; there = refl; bad = bad }

good_first : {A : Type 0} (index : ℕ) (x : Placed) (rest : List Placed) (r : Result A BadName) → IsGoodPlace x → Says (index + 1) rest r → Says index (x ∷ rest) r
good_first index x rest (Ok out) good says = (good, says)
good_first index x rest (Err cause) good (i, e, first) =
    let place : index + 1 + i ≡ index + suc i = omega arith in
    (suc i, e ∙ ap Part place, record { before = (good, first.before); placed = first.placed; there = first.there; bad = first.bad })

all_split : (P : WrittenPair → Type 0) (xs : List WrittenPair) (y : WrittenPair) → AllByRecursion P (xs ++ y ∷ []) → AllByRecursion P xs × P y
all_split P [] y h = (tt, h.0)
all_split P (x ∷ xs) y h = (let later = all_split P xs y h.1 in ((h.0, later.0), later.1))

-- one pair more has gone among the others
more_so_far : (earlier : List WrittenPair) (pairs next : List TypeAndValue) (written : WrittenPair) (pair : TypeAndValue) → SoFar earlier pairs → pair_meaning written ≡ Some pair → put_pair pair pairs ≡ Some next → SoFar (earlier ++ written ∷ []) next
more_so_far earlier pairs next written pair so_far means put = record {
  ordered = put_pair-ordered pair pairs next put so_far.ordered;
  to = λ kind lacks. (let parts = put_pair-parts pair (λ q. q.kind ≢ kind) pairs next put lacks in
      all_push (λ w. (m : TypeAndValue) → pair_meaning w ≡ Some m → m.kind ≢ kind) earlier written (so_far.to kind parts.1)
      (λ m e same. (let is : pair ≡ m = some_same pair m (sym means ∙ e) in parts.0 (ap (λ (p : TypeAndValue). p.kind) is ∙ same))));
  from = λ kind lacks. (let parts = all_split (λ w. (m : TypeAndValue) → pair_meaning w ≡ Some m → m.kind ≢ kind) earlier written lacks in
      put_pair-all pair (λ q. q.kind ≢ kind) (parts.1 pair means) pairs next put (so_far.from kind parts.0));
}
  where
    some_same : (a b : TypeAndValue) → Some a ≡ Some b → a ≡ b
    some_same a b e = cc

-- the pairs of an RDN
rdn_says : (index : ℕ) (earlier : List WrittenPair) (pairs : List TypeAndValue) (written : List WrittenPair) → SoFar earlier pairs → Says index (placed_from earlier written) (rdn_from index pairs written)
rdn_says index earlier pairs [] so_far = tt
rdn_says index earlier pairs (w ∷ ws) so_far =
    by_meaning index earlier pairs w ws so_far (pair_meaning w) refl (λ next more. rdn_says (index + 1) (earlier ++ w ∷ []) next ws more)
  where
    at_zero : (n : ℕ) → Part n ≡ Part (n + 0)
    at_zero n = (let e : n ≡ n + 0 = omega arith in ap Part e)

    by_put : (index : ℕ) (earlier : List WrittenPair) (pairs : List TypeAndValue) (w : WrittenPair) (ws : List WrittenPair) → SoFar earlier pairs → (p : TypeAndValue) → pair_meaning w ≡ Some p → (r : Option (List TypeAndValue)) → put_pair p pairs ≡ r → ((next : List TypeAndValue) → SoFar (earlier ++ w ∷ []) next → Says (index + 1) (placed_from (earlier ++ w ∷ []) ws) (rdn_from (index + 1) next ws)) → Says index (placed_from earlier (w ∷ ws)) (or_part index r (λ next. rdn_from (index + 1) next ws))
    by_put index earlier pairs w ws so_far p means None put go = (
      0,
      at_zero index,
      bad_first (record { earlier = earlier; pair = w }) (placed_from (earlier ++ w ∷ []) ws)
          (λ good. (let same : Some p ≡ Some good.meaning = sym means ∙ good.means in let is : p ≡ good.meaning = cc in
          none-lacks p pairs put (so_far.from p.kind (subst (λ (q : TypeAndValue). LacksKind q.kind earlier) (sym is) good.alone)))),
    )
    by_put index earlier pairs w ws so_far p means (Some next) put go =
        good_first index (record { earlier = earlier; pair = w }) (placed_from (earlier ++ w ∷ []) ws) (rdn_from (index + 1) next ws)
        (record { meaning = p; means = means; alone = so_far.to p.kind (put-lacks p pairs next so_far.ordered put) })
        (go next (more_so_far earlier pairs next w p so_far means put))

    by_meaning : (index : ℕ) (earlier : List WrittenPair) (pairs : List TypeAndValue) (w : WrittenPair) (ws : List WrittenPair) → SoFar earlier pairs → (m : Option TypeAndValue) → pair_meaning w ≡ m → ((next : List TypeAndValue) → SoFar (earlier ++ w ∷ []) next → Says (index + 1) (placed_from (earlier ++ w ∷ []) ws) (rdn_from (index + 1) next ws)) → Says index (placed_from earlier (w ∷ ws)) (or_part index (option_and_then (λ pair. put_pair pair pairs) m) (λ next. rdn_from (index + 1) next ws))
    by_meaning index earlier pairs w ws so_far None means go =
        (0, at_zero index, bad_first (record { earlier = earlier; pair = w }) (placed_from (earlier ++ w ∷ []) ws) (λ good. (let clash = sym means ∙ good.means in cc)))
    by_meaning index earlier pairs w ws so_far (Some p) means go = by_put index earlier pairs w ws so_far p means (put_pair p pairs) refl go

-- a first bad pair among pairs, and more after them
bad_before : (xs ys : List Placed) (i : ℕ) → IsFirstBad xs i → IsFirstBad (xs ++ ys) i
bad_before xs ys i first = record {
  before = before xs ys i first.placed first.there first.before;
  placed = first.placed;
  there = there xs ys i first.placed first.there;
  bad = first.bad;
}
  where
    there : (xs ys : List Placed) (i : ℕ) (x : Placed) → slice_get xs i ≡ Some x → slice_get (xs ++ ys) i ≡ Some x
    there [] ys i x e = absurd cc
    there (y ∷ xs) ys zero x e = e
    there (y ∷ xs) ys (suc i) x e = there xs ys i x e

    before : (xs ys : List Placed) (i : ℕ) (x : Placed) → slice_get xs i ≡ Some x → AllByRecursion IsGoodPlace (take i xs) → AllByRecursion IsGoodPlace (take i (xs ++ ys))
    before [] ys i x e good = absurd cc
    before (y ∷ xs) ys zero x e good = tt
    before (y ∷ xs) ys (suc i) x e good = (good.0, before xs ys i x e good.1)

-- good pairs, and a first bad one after them
bad_after : (xs ys : List Placed) (i : ℕ) → AllByRecursion IsGoodPlace xs → IsFirstBad ys i → IsFirstBad (xs ++ ys) (length xs + i)
bad_after [] ys i good first = (let place : i ≡ 0 + i = omega arith in subst (λ (n : ℕ). IsFirstBad ys n) place first)
bad_after (x ∷ xs) ys i good first =
    let later = bad_after xs ys i good.1 first in
    let place : suc (length xs + i) ≡ suc (length xs) + i = omega arith in
    subst (λ (n : ℕ). IsFirstBad (x ∷ (xs ++ ys)) n) place
    (record { before = (good.0, later.before); placed = later.placed; there = later.there; bad = later.bad })

all_append : (P : Placed → Type 0) (xs ys : List Placed) → AllByRecursion P xs → AllByRecursion P ys → AllByRecursion P (xs ++ ys)
all_append P [] ys a b = b
all_append P (x ∷ xs) ys a b = (a.0, all_append P xs ys a.1 b)

length-placed_from : (earlier written : List WrittenPair) → length (placed_from earlier written) ≡ length written
length-placed_from earlier [] = refl
length-placed_from earlier (w ∷ ws) = ap suc (length-placed_from (earlier ++ w ∷ []) ws)

nothing_yet : SoFar [] []
nothing_yet = record { ordered = tt; to = λ kind lacks. tt; from = λ kind lacks. tt }

-- the RDNs of a name
rdns_says : (index : ℕ) (written : List (List WrittenPair)) → Says index (placed_pairs written) (rdns_from index written)
rdns_says index [] = tt
rdns_says index (w ∷ ws) =
    by_first index w ws (rdn_from index [] w) (rdn_says index [] [] w nothing_yet) (rdns_from (index + length w) ws) (rdns_says (index + length w) ws)
  where
    shift : (index count i : ℕ) (w : List WrittenPair) → count ≡ length w → Part (index + length w + i) ≡ Part (index + (count + i))
    shift index count i w e = (let place : index + length w + i ≡ index + (count + i) = omega (arith, e) in ap Part place)

    by_rest : (index : ℕ) (w : List WrittenPair) (ws : List (List WrittenPair)) (rdn : List TypeAndValue) → AllByRecursion IsGoodPlace (placed_from [] w) → (rest : Result RdnSequence BadName) → Says (index + length w) (placed_pairs ws) rest → Says index (placed_from [] w ++ placed_pairs ws) (and_then rest (λ rdns. Ok (rdn ∷ rdns)))
    by_rest index w ws rdn good (Ok rdns) says = all_append IsGoodPlace (placed_from [] w) (placed_pairs ws) good says
    by_rest index w ws rdn good (Err cause) (i, e, first) =
        (length (placed_from [] w) + i, e ∙ shift index (length (placed_from [] w)) i w (length-placed_from [] w), bad_after (placed_from [] w) (placed_pairs ws) i good first)

    by_first : (index : ℕ) (w : List WrittenPair) (ws : List (List WrittenPair)) (r : Result (List TypeAndValue) BadName) → Says index (placed_from [] w) r → (rest : Result RdnSequence BadName) → Says (index + length w) (placed_pairs ws) rest → Says index (placed_from [] w ++ placed_pairs ws) (and_then r (λ rdn. and_then rest (λ rdns. Ok (rdn ∷ rdns))))
    by_first index w ws (Err cause) (i, e, first) rest says = (i, e, bad_before (placed_from [] w) (placed_pairs ws) i first)
    by_first index w ws (Ok rdn) good rest says = by_rest index w ws rdn good rest says

says_root : (placed : List Placed) (r : Result RdnSequence BadName) → Says 0 placed r → Says 0 placed (from_root r)
says_root placed (Ok rdns) says = says
says_root placed (Err cause) says = says

-- what a name's meaning says of its pairs
pub from_root-says : (written : List (List WrittenPair)) → Says 0 (placed_pairs written) (from_root (rdns_from 0 written))
from_root-says written = says_root (placed_pairs written) (rdns_from 0 written) (rdns_says 0 written)

pub part_says : (placed : List Placed) (index : ℕ) (r : Result RdnSequence BadName) → Says 0 placed r → r ≡ Err (Part index) → IsFirstBad placed index
part_says placed index (Ok out) says e = absurd cc
part_says placed index (Err cause) (i, is, first) e =
    let same : Part (0 + i) ≡ Part index = sym is ∙ cc in
    let place : 0 + i ≡ index = cc in
    let here : i ≡ index = omega (arith, place) in
    subst (λ (n : ℕ). IsFirstBad placed n) here first

pub many_says : (placed : List Placed) (r : Result RdnSequence BadName) → Says 0 placed r → r ≡ Err TooMany → ⊥
many_says placed (Ok out) says e = cc
many_says placed (Err cause) (i, is, first) e = (let clash : Part (0 + i) ≡ TooMany = sym is ∙ cc in cc)

ok_says : (placed : List Placed) (name : RdnSequence) (r : Result RdnSequence BadName) → Says 0 placed r → r ≡ Ok name → AllByRecursion IsGoodPlace placed
ok_says placed name (Ok out) says e = says
ok_says placed name (Err cause) says e = absurd cc

-- a refused part is the first bad pair
pub resolve-Part : (written : List (List WrittenPair)) (index : ℕ) → resolve written ≡ Err (Part index) → IsFirstBad (placed_pairs written) index
unfolding resolve
resolve-Part written index h =
    elim (nat_lt 64 (length written)) as (λ b. (if b then Err TooMany else from_root (rdns_from 0 written)) ≡ Err (Part index) → IsFirstBad (placed_pairs written) index) [
      | true ↦ λ e. absurd cc
      | false ↦ λ e. part_says (placed_pairs written) index (from_root (rdns_from 0 written)) (from_root-says written) e
    ] h

-- each pair of a name is good
pub resolve-Ok : (written : List (List WrittenPair)) (name : RdnSequence) → resolve written ≡ Ok name → (length written ≤ 64) × AllByRecursion IsGoodPlace (placed_pairs written)
unfolding resolve
resolve-Ok written name h =
    elim (nat_lt 64 (length written)) as (λ b. nat_lt 64 (length written) ≡ b → (if b then Err TooMany else from_root (rdns_from 0 written)) ≡ Ok name → (length written ≤ 64) × AllByRecursion IsGoodPlace (placed_pairs written)) [
      | true ↦ λ _ e. absurd cc
      | false ↦ λ is e. (grind (arith, nat_tests), ok_says (placed_pairs written) name (from_root (rdns_from 0 written)) (from_root-says written) e)
    ] refl h

-- too many are more than 64
pub resolve-TooMany : (written : List (List WrittenPair)) → (resolve written ≡ Err TooMany) ↔ (64 < length written)
unfolding resolve
resolve-TooMany written = (
  (λ h. elim (nat_lt 64 (length written)) as (λ b. nat_lt 64 (length written) ≡ b → (if b then Err TooMany else from_root (rdns_from 0 written)) ≡ Err TooMany → 64 < length written) [
    | true ↦ λ is _. grind (arith, nat_tests)
    | false ↦ λ _ e. absurd (many_says (placed_pairs written) (from_root (rdns_from 0 written)) (from_root-says written) e)
  ] refl h),
  λ more. cond-true (nat_lt 64 (length written)) (Err TooMany) (from_root (rdns_from 0 written)) (grind (arith, nat_tests)),
)
