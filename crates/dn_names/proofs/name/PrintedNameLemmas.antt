-- The printed form of a good name spells it, and is read as it.
use Rattle.std.proofs.Common.{◌≡◌, ℕ, ◌<◌, ◌≤◌, ◌+◌, true, false, List, [], ◌∷◌, ◌++◌, map, length, reverse, Option, Some, None, Ok, Err, inl, refl, sym, ap, subst, ◌∙◌, arith, append_assoc, nat_lt}
use Rattle.std.specs.Prelude.{◌==◌, ◌&&◌, ◌||◌, nat_le, if◌then◌else◌}
use Rattle.std.specs.Char.{is_ascii_alphabetic, is_ascii_alphanumeric}
use Rattle.std.specs.Option.{option_map, option_map_or, option_and_then}
use Rattle.std.specs.List.{AllByRecursion, list_all}
use Rattle.std.proofs.lemmas.Bool.{false≢true, cond-false, and_parts}
use Rattle.std.proofs.lemmas.Bool.Decides.{nat_tests}
use Rattle.std.proofs.lemmas.List.{append-nil, length-map, length-reverse, reverse-reverse}
use Rattle.std.proofs.lemmas.Option.{slice_get_within}
use Rattle.base_laws.proofs.Theorems.{all_push}
use Rattle.regular_text.specs.Grammar.{Matches}
use Rattle.regular_text.specs.Grammar.Grammar.{One, Many}
use Rattle.schema_tables.specs.Attributes.{Attribute, attributes, attribute_at, name_of, is_naming, syntax_of, IsAttrId}
use Rattle.schema_tables.specs.Naming.{is_keystring}
use Rattle.schema_tables.proofs.Theorems.{attr_of-name_of, is_keystring-name_of}
use Rattle.dn_names.specs.declared.error.BadName.TheVariants.{TooMany}
use Rattle.dn_names.specs.declared.printing.Shown.TheVariants.{Octets}
use Rattle.dn_names.specs.Classes.{class_of, is_letter, is_word}
use Rattle.dn_names.specs.name.Names.{Keyed, TypeAndValue, RdnSequence}
use Rattle.dn_names.specs.Spelling.{WrittenPair, IsKind, SpellsPair, IsJoined, SpellsRdn, SpellsName}
use Rattle.dn_names.specs.value.Values.{plain_key}
use Rattle.dn_names.specs.Resolving.{naming_value, pair_meaning, put_pair, add_pair, and_then, rdn_from, rdns_from, from_root, resolve}
use Rattle.dn_names.specs.parsing.NameText.{NameText}
use Rattle.dn_names.specs.Printing.{print_value, join_from, print_pair, print_rdn, shown_of, print_by, print_name}
use Rattle.dn_names.specs.name.GoodNames.{IsGoodPair, IsInTableOrder, IsGoodRdn, IsGoodName}
use Rattle.dn_names.proofs.parsing.OrderedLemmas.{put_pair-last}
use Rattle.dn_names.proofs.parsing.GoodNameLemmas.{all_reverse}
use Rattle.dn_names.proofs.resolve.ResolveLemmas.{rdn_from-add}
use Rattle.dn_names.proofs.name.PrintedLemmas.{value_printed}

-- a pair as its printed form writes it
abbrev write : TypeAndValue → WrittenPair
write pair = record { kind = name_of pair.kind; octets = pair.value.octets }

-- a good pair's type is in the table
pub good_kind : (number : ℕ) (octets : List ℕ) (value : Keyed) → naming_value number octets ≡ Some value → IsAttrId number
unfolding naming_value
good_kind number octets value h =
    elim (is_naming number && nat_le (length octets) 65536) as (λ b. (is_naming number && nat_le (length octets) 65536) ≡ b → (if b then option_map (λ key. record { octets = octets; key = key }) (option_and_then (λ syntax. plain_key syntax octets) (syntax_of number)) else None) ≡ Some value → IsAttrId number) [
      | true ↦ λ e _. there (attribute_at number) refl (and_parts (is_naming number) (nat_le (length octets) 65536) e).0
      | false ↦ λ _ found. absurd cc
    ] refl h
  where
    there : (row : Option Attribute) → attribute_at number ≡ row → option_map_or (λ r. r.naming) row false ≡ true → IsAttrId number
    there None e h = absurd (false≢true h)
    there (Some row) e h = slice_get_within attributes number row e

letter_class : (x : ℕ) → is_ascii_alphabetic x ≡ true → is_letter (class_of x) ≡ true
unfolding class_of
letter_class x h = grind (arith, nat_tests)

word_class : (x : ℕ) → (is_ascii_alphanumeric x || x == 45) ≡ true → is_word (class_of x) ≡ true
unfolding class_of
word_class x h = grind (arith, nat_tests)

words_match : (text : List ℕ) → list_all (λ x. is_ascii_alphanumeric x || x == 45) text ≡ true → Matches class_of (Many (One is_word)) text
words_match [] h = ([], refl, tt)
words_match (x ∷ xs) h =
    let both = and_parts (is_ascii_alphanumeric x || x == 45) (list_all (λ x. is_ascii_alphanumeric x || x == 45) xs) h in
    let more = words_match xs both.1 in
    ((x ∷ []) ∷ more.0, ap (λ t. x ∷ t) more.1, ((x, refl, word_class x both.0), more.2))

-- a keystring is a type
pub keystring_kind : (text : List ℕ) → is_keystring text ≡ true → IsKind text
keystring_kind [] h = absurd (false≢true h)
keystring_kind (x ∷ xs) h =
    let both = and_parts (is_ascii_alphabetic x) (list_all (λ x. is_ascii_alphanumeric x || x == 45) xs) h in
    inl (x ∷ [], xs, refl, (x, refl, letter_class x both.0), words_match xs both.1)

-- a printed pair spells what it writes, and means the pair
pair_printed : (pair : TypeAndValue) → IsGoodPair pair → SpellsPair (write pair) (print_pair (shown_of Octets) pair)
pair_printed pair good = record {
  before = [];
  after = [];
  value = print_value pair.value.octets;
  is_text = refl;
  gap_before = tt;
  is_kind = keystring_kind (name_of pair.kind) (is_keystring-name_of pair.kind (good_kind pair.kind pair.value.octets pair.value good));
  gap_after = tt;
  spells = value_printed pair.value.octets;
}

pair_meant : (pair : TypeAndValue) → IsGoodPair pair → pair_meaning (write pair) ≡ Some pair
unfolding pair_meaning
pair_meant pair good =
    let there = good_kind pair.kind pair.value.octets pair.value good in
    ap (λ k. option_and_then (λ number. option_map (λ value. record { kind = number; value = value }) (naming_value number pair.value.octets)) k) (attr_of-name_of pair.kind there)
    ∙ ap (option_map (λ value. record { kind = pair.kind; value = value })) good

pub joined_printed : {A R : Type 0} (mark : ℕ) (show : A → List ℕ) (write_item : A → R) (P : R → List ℕ → Type 0) (Q : A → Type 0) → ((x : A) → Q x → P (write_item x) (show x)) → (x : A) (xs : List A) → AllByRecursion Q (x ∷ xs) → IsJoined mark P (map write_item (x ∷ xs)) (join_from mark show true (x ∷ xs))
joined_printed mark show write_item P Q each x [] h = subst (λ (t : List ℕ). P (write_item x) t) (sym (append-nil (show x))) (each x h.0)
joined_printed mark show write_item P Q each x (y ∷ ys) h = (show x, join_from mark show true (y ∷ ys), refl, each x h.0, joined_printed mark show write_item P Q each y ys h.1)

rdn_printed : (rdn : List TypeAndValue) → IsGoodRdn rdn → SpellsRdn (map write rdn) (print_rdn (shown_of Octets) rdn)
rdn_printed [] good = absurd (good.filled refl)
rdn_printed (p ∷ ps) good = joined_printed 43 (print_pair (shown_of Octets)) write SpellsPair IsGoodPair pair_printed p ps good.good

rdns_printed : (rdns : RdnSequence) → AllByRecursion IsGoodRdn rdns → SpellsName (map (map write) rdns) (join_from 44 (print_rdn (shown_of Octets)) true rdns)
rdns_printed [] good = tt
rdns_printed (r ∷ rs) good = joined_printed 44 (print_rdn (shown_of Octets)) (map write) SpellsRdn IsGoodRdn rdn_printed r rs good

-- an RDN's pairs go one after another
rdn_back : (index : ℕ) (done pairs : List TypeAndValue) → AllByRecursion IsGoodPair pairs → IsInTableOrder pairs → AllByRecursion (λ p. AllByRecursion (λ q. q.kind < p.kind) done) pairs → rdn_from index done (map write pairs) ≡ Ok (done ++ pairs)
rdn_back index done [] good ordered above = ap Ok (sym (append-nil done))
rdn_back index done (p ∷ ps) good ordered above =
    let added : add_pair done (write p) ≡ Some (done ++ p ∷ []) = ap (option_and_then (λ pair. put_pair pair done)) (pair_meant p good.0) ∙ put_pair-last p done above.0 in
    rdn_from-add index done (done ++ p ∷ []) (write p) (map write ps) added
    ∙ rdn_back (index + 1) (done ++ p ∷ []) ps good.1 ordered.1 (above_next done p ps above.1 ordered.0)
    ∙ ap Ok (append_assoc done (p ∷ []) ps)
  where
    above_next : (done : List TypeAndValue) (p : TypeAndValue) (ps : List TypeAndValue) → AllByRecursion (λ later. AllByRecursion (λ q. q.kind < later.kind) done) ps → AllByRecursion (λ later. p.kind < later.kind) ps → AllByRecursion (λ later. AllByRecursion (λ q. q.kind < later.kind) (done ++ p ∷ [])) ps
    above_next done p [] a b = tt
    above_next done p (r ∷ rs) a b = (all_push (λ q. q.kind < r.kind) done p a.0 b.0, above_next done p rs a.1 b.1)

none_before : (pairs : List TypeAndValue) → AllByRecursion (λ p. AllByRecursion (λ (q : TypeAndValue). q.kind < p.kind) []) pairs
none_before [] = tt
none_before (p ∷ ps) = (tt, none_before ps)

rdns_back : (index : ℕ) (rdns : RdnSequence) → AllByRecursion IsGoodRdn rdns → rdns_from index (map (map write) rdns) ≡ Ok rdns
rdns_back index [] good = refl
rdns_back index (r ∷ rs) good =
    let rest = rdns_from (index + length (map write r)) (map (map write) rs) in
    ap (λ first. and_then first (λ rdn. and_then rest (λ more. Ok (rdn ∷ more)))) (rdn_back index [] r good.0.good good.0.ordered (none_before r))
    ∙ ap (λ more. and_then more (λ m. Ok (r ∷ m))) (rdns_back (index + length (map write r)) rs good.1)

-- the printed form of a good name is a text of it
pub NameText-print_name : (name : RdnSequence) → IsGoodName name → NameText name (print_name name)
unfolding NameText print_name print_by resolve
NameText-print_name name good =
    let rdns = reverse name in
    let all = all_reverse IsGoodRdn name good.good in
    let size : length (map (map write) rdns) ≡ length name = length-map rdns (map write) ∙ length-reverse name in (
      map (map write) rdns,
      rdns_printed rdns all,
      cond-false (nat_lt 64 (length (map (map write) rdns))) (Err TooMany) (from_root (rdns_from 0 (map (map write) rdns))) (few size good.fits)
          ∙ ap from_root (rdns_back 0 rdns all)
          ∙ ap Ok (reverse-reverse name),
    )
  where
    few : {m : ℕ} → m ≡ length name → length name ≤ 64 → nat_lt 64 m ≡ false
    few e h = rw e (grind (arith, nat_tests))
