-- One text spells one name, one name has one key, and cutting undoes joining.
use Rattle.std.proofs.Common.{◌≡◌, ℕ, Bool, true, false, IsTrue, List, [], ◌∷◌, ◌++◌, map, length, take, drop, reverse, cond, Some, Ok, refl, sym, ap, subst, ◌∙◌, zero, suc, ◌+◌, ◌≤◌, arith}
use Rattle.std.specs.Prelude.{◌↔◌}
use Rattle.std.specs.List.{AllByRecursion}
use Rattle.std.proofs.lemmas.List.{drop_at, take_at, take-append-drop, map-append, reverse-reverse, length-append, length-drop}
use Rattle.schema_tables.specs.Attributes.{attr_of, name_of}
use Rattle.schema_tables.proofs.Theorems.{attr_of-name_of, is_keystring-name_of}
use Rattle.dn_names.specs.declared.printing.Shown.TheVariants.{Key}
use Rattle.dn_names.specs.name.Names.{TypeAndValue, RdnSequence}
use Rattle.dn_names.specs.NameOrder.{is_same, is_prefix_of, type_and_key, types_and_keys}
use Rattle.dn_names.specs.Spelling.{WrittenPair, SpellsPair, SpellsRdn, SpellsName}
use Rattle.dn_names.specs.parsing.NameText.{NameText, read_name}
use Rattle.dn_names.specs.Printing.{print_value, join_from, print_pair, print_rdn, shown_of, print_by, print_name, name_key}
use Rattle.dn_names.specs.name.GoodNames.{IsGoodPair, IsGoodRdn, IsGoodName}
use Rattle.dn_names.proofs.order.OrderLaws.{is_same-types_and_keys}
use Rattle.dn_names.proofs.name.PairLemmas.{written_of-spelled}
use Rattle.dn_names.proofs.parsing.ParseLemmas.{read_name-NameText}
use Rattle.dn_names.proofs.resolve.ResolveLemmas.{map-reverse}
use Rattle.dn_names.proofs.parsing.GoodNameLemmas.{all_reverse, IsGoodName-from_NameText}
use Rattle.dn_names.proofs.name.PrintedLemmas.{value_printed}
use Rattle.dn_names.proofs.name.PrintedNameLemmas.{good_kind, keystring_kind, joined_printed, NameText-print_name}

-- a text spells one list of pairs
pub SpellsName-unique : (one other : List (List WrittenPair)) (text : List ℕ) → SpellsName one text → SpellsName other text → one ≡ other
SpellsName-unique one other text a b = sym (written_of-spelled one text a) ∙ written_of-spelled other text b

-- and is a text of one name
pub NameText-unique : (one other : RdnSequence) (text : List ℕ) → NameText one text → NameText other text → one ≡ other
NameText-unique one other text a b =
    let same : Ok one ≡ Ok other = sym (read_name-NameText one text a) ∙ read_name-NameText other text b in cc

-- a name that was read is read again from its printed form
pub NameText-print_name-from : (name : RdnSequence) (text : List ℕ) → NameText name text → NameText name (print_name name)
NameText-print_name-from name text h = NameText-print_name name (IsGoodName-from_NameText name text h)

pub read_name-print_name : (name : RdnSequence) → IsGoodName name → read_name (print_name name) ≡ Ok name
read_name-print_name name good = read_name-NameText name (print_name name) (NameText-print_name name good)

-- what is cut off after a name is joined is there again
pub drop-join : (superior below : RdnSequence) → drop (length superior) (superior ++ below) ≡ below
drop-join superior below = drop_at superior below (length superior) refl

pub is_prefix_of-join : (superior below : RdnSequence) → IsTrue (is_prefix_of superior (superior ++ below))
unfolding is_prefix_of
is_prefix_of-join superior below =
    (is_same-types_and_keys (take (length superior) (superior ++ below)) superior).1
    (ap types_and_keys (take_at superior below (length superior) refl))

pub join-drop : (superior below : RdnSequence) → IsTrue (is_prefix_of superior below) → IsTrue (is_same (superior ++ drop (length superior) below) below)
unfolding is_prefix_of
join-drop superior below h =
    (is_same-types_and_keys (superior ++ drop (length superior) below) below).1
    (map-joined superior (drop (length superior) below)
    ∙ ap (λ t. t ++ types_and_keys (drop (length superior) below)) (sym ((is_same-types_and_keys (take (length superior) below) superior).0 h))
    ∙ sym (map-joined (take (length superior) below) (drop (length superior) below))
    ∙ ap types_and_keys (take-append-drop (length superior) below))
  where
    map-joined : (xs ys : RdnSequence) → types_and_keys (xs ++ ys) ≡ types_and_keys xs ++ types_and_keys ys
    map-joined xs ys = map-append (map type_and_key) xs ys

-- a pair as a key writes it
abbrev write_key : TypeAndValue → WrittenPair
write_key pair = record { kind = name_of pair.kind; octets = pair.value.key }

key_pair_printed : (pair : TypeAndValue) → IsGoodPair pair → SpellsPair (write_key pair) (print_pair (shown_of Key) pair)
key_pair_printed pair good = record {
  before = [];
  after = [];
  value = print_value pair.value.key;
  is_text = refl;
  gap_before = tt;
  is_kind = keystring_kind (name_of pair.kind) (is_keystring-name_of pair.kind (good_kind pair.kind pair.value.octets pair.value good));
  gap_after = tt;
  spells = value_printed pair.value.key;
}

key_rdn_printed : (rdn : List TypeAndValue) → IsGoodRdn rdn → SpellsRdn (map write_key rdn) (print_rdn (shown_of Key) rdn)
key_rdn_printed [] good = absurd (good.filled refl)
key_rdn_printed (p ∷ ps) good = joined_printed 43 (print_pair (shown_of Key)) write_key SpellsPair IsGoodPair key_pair_printed p ps good.good

key_printed : (rdns : RdnSequence) → AllByRecursion IsGoodRdn rdns → SpellsName (map (map write_key) rdns) (join_from 44 (print_rdn (shown_of Key)) true rdns)
key_printed [] good = tt
key_printed (r ∷ rs) good = joined_printed 44 (print_rdn (shown_of Key)) (map write_key) SpellsRdn IsGoodRdn key_rdn_printed r rs good

key_spells : (name : RdnSequence) → IsGoodName name → SpellsName (reverse (map (map write_key) name)) (name_key name)
unfolding name_key print_by
key_spells name good = subst (λ (w : List (List WrittenPair)). SpellsName w (join_from 44 (print_rdn (shown_of Key)) true (reverse name))) (map-reverse (map write_key) name) (key_printed (reverse name) (all_reverse IsGoodRdn name good.good))

write_same : (p q : TypeAndValue) → IsGoodPair p → IsGoodPair q → write_key p ≡ write_key q → type_and_key p ≡ type_and_key q
write_same p q a b e =
    let names : name_of p.kind ≡ name_of q.kind = ap (λ (w : WrittenPair). w.kind) e in
    let key : p.value.key ≡ q.value.key = ap (λ (w : WrittenPair). w.octets) e in
    let found : Some p.kind ≡ Some q.kind =
    sym (attr_of-name_of p.kind (good_kind p.kind p.value.octets p.value a)) ∙ ap attr_of names ∙ attr_of-name_of q.kind (good_kind q.kind q.value.octets q.value b) in
    let kind : p.kind ≡ q.kind = cc in
    rw (kind, key)

same_by : {A B C : Type 0} (f : A → B) (g : A → C) (P : A → Type 0) → ((x y : A) → P x → P y → f x ≡ f y → g x ≡ g y) → (xs ys : List A) → AllByRecursion P xs → AllByRecursion P ys → map f xs ≡ map f ys → map g xs ≡ map g ys
same_by f g P each [] [] a b e = refl
same_by f g P each [] (y ∷ ys) a b e = absurd cc
same_by f g P each (x ∷ xs) [] a b e = absurd cc
same_by f g P each (x ∷ xs) (y ∷ ys) a b e =
    let head_in : f x ≡ f y = cc in
    let tail_in : map f xs ≡ map f ys = cc in
    let head = each x y a.0 b.0 head_in in
    let tail = same_by f g P each xs ys a.1 b.1 tail_in in
    cc

-- names with one key are the same
key_same : (one other : RdnSequence) → IsGoodName one → IsGoodName other → name_key one ≡ name_key other → types_and_keys one ≡ types_and_keys other
key_same one other a b e =
    let spelled = SpellsName-unique (reverse (map (map write_key) one)) (reverse (map (map write_key) other)) (name_key one) (key_spells one a)
    (subst (λ (t : List ℕ). SpellsName (reverse (map (map write_key) other)) t) (sym e) (key_spells other b)) in
    let written = sym (reverse-reverse (map (map write_key) one)) ∙ ap reverse spelled ∙ reverse-reverse (map (map write_key) other) in
    same_by (map write_key) (map type_and_key) IsGoodRdn (λ x y g h. same_by write_key type_and_key IsGoodPair write_same x y g.good h.good) one other a.good b.good written

-- a name's key by its types and keys alone
print_key : (ℕ × List ℕ) → List ℕ
print_key pair = name_of pair.0 ++ 61 ∷ print_value pair.1

join_map : {A B : Type 0} (mark : ℕ) (show : A → List ℕ) (f : A → B) (other : B → List ℕ) → ((x : A) → show x ≡ other (f x)) → (first : Bool) (xs : List A) → join_from mark show first xs ≡ join_from mark other first (map f xs)
join_map mark show f other each first [] = refl
join_map mark show f other each first (x ∷ xs) =
    ap (λ t. cond first [] (mark ∷ []) ++ (t ++ join_from mark show false xs)) (each x)
    ∙ ap (λ t. cond first [] (mark ∷ []) ++ (other (f x) ++ t)) (join_map mark show f other each false xs)

key_of-types_and_keys : (name : RdnSequence) → name_key name ≡ join_from 44 (λ rdn. join_from 43 print_key true rdn) true (reverse (types_and_keys name))
unfolding name_key print_by print_key
key_of-types_and_keys name =
    join_map 44 (print_rdn (shown_of Key)) (map type_and_key) (λ rdn. join_from 43 print_key true rdn)
    (λ rdn. join_map 43 (print_pair (shown_of Key)) type_and_key print_key (λ p. refl) true rdn) true (reverse name)
    ∙ ap (join_from 44 (λ rdn. join_from 43 print_key true rdn) true) (map-reverse (map type_and_key) name)

-- names are the same where their keys are
pub is_same-name_key : (one other : RdnSequence) → IsGoodName one → IsGoodName other → IsTrue (is_same one other) ↔ (name_key one ≡ name_key other)
is_same-name_key one other a b = (
  (λ e. key_of-types_and_keys one ∙ ap (λ t. join_from 44 (λ rdn. join_from 43 print_key true rdn) true (reverse t)) ((is_same-types_and_keys one other).0 e) ∙ sym (key_of-types_and_keys other)),
  λ e. (is_same-types_and_keys one other).1 (key_same one other a b e),
)

all_both : (xs ys : RdnSequence) → AllByRecursion IsGoodRdn xs → AllByRecursion IsGoodRdn ys → AllByRecursion IsGoodRdn (xs ++ ys)
all_both [] ys a b = b
all_both (x ∷ xs) ys a b = (a.0, all_both xs ys a.1 b)

all_from : (n : ℕ) (xs : RdnSequence) → AllByRecursion IsGoodRdn xs → AllByRecursion IsGoodRdn (drop n xs)
all_from zero xs a = a
all_from (suc n) [] a = tt
all_from (suc n) (x ∷ xs) a = all_from n xs a.1

-- good names joined are good where they fit, and what is cut off of one is good
pub IsGoodName-append : (superior below : RdnSequence) → IsGoodName superior → IsGoodName below → length superior + length below ≤ 64 → IsGoodName (superior ++ below)
IsGoodName-append superior below a b h = record {
  fits = omega (arith, h, length-append superior below);
  good = all_both superior below a.good b.good;
}

pub IsGoodName-drop : (n : ℕ) (name : RdnSequence) → IsGoodName name → IsGoodName (drop n name)
IsGoodName-drop n name a = record { fits = omega (arith, a.fits, length-drop n name); good = all_from n name a.good }
