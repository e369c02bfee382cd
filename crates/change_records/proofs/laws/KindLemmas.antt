-- Lemmas on the octets of types: letters, digits, hyphens and dots, of which the first is a letter or a digit.
use Rattle.std.proofs.Common.{◌≡◌, ℕ, ◌==◌, ◌||◌, not, refl, arith, Bool, true, false, List, [], ◌∷◌, if◌then◌else◌, inl, inr}
use Rattle.std.specs.Char.{is_ascii_alphabetic, is_ascii_alphanumeric, is_ascii_digit}
use Rattle.std.specs.List.{list_all, onto_first}
use Rattle.std.proofs.lemmas.Bool.{and_parts, and_from, or_cases, or_left}
use Rattle.std.proofs.lemmas.Bool.Decides.{nat_tests}
use Rattle.dir_tree.specs.schema_tables.Naming.{is_keystring}
use Rattle.dir_tree.specs.schema_tables.Oids.{is_number, parts, is_dotted_oid}
use Rattle.ldif_records.specs.Fields.{is_kind}
use Rattle.ldif_records.proofs.Theorems.{is_inside}

-- a letter, a digit, a hyphen or a dot
abbrev pub is_kind_octet : ℕ → Bool
is_kind_octet octet = is_ascii_alphanumeric octet || (octet == 45) || (octet == 46)

-- a test that follows from another
pub weaker : (test other : ℕ → Bool) → ((octet : ℕ) → test octet ≡ true → other octet ≡ true) → (xs : List ℕ) → list_all test xs ≡ true → list_all other xs ≡ true
weaker test other follows [] all = refl
weaker test other follows (x ∷ xs) all =
    let both = and_parts (test x) (list_all test xs) all in
    and_from (other x) (list_all other xs) (follows x both.0) (weaker test other follows xs both.1)

-- a text of such octets that begins with a letter or a digit
pub record IsKindText (kind : List ℕ) : Type 0 where
  pub first : ℕ
  pub rest : List ℕ
  pub is : kind ≡ first ∷ rest
  pub begins : is_ascii_alphanumeric first ≡ true
  pub all : list_all is_kind_octet kind ≡ true

-- a keystring
letter : (octet : ℕ) → is_ascii_alphabetic octet ≡ true → is_ascii_alphanumeric octet ≡ true
letter octet is = grind (arith, nat_tests)

alphanumeric-octet : (octet : ℕ) → is_ascii_alphanumeric octet ≡ true → is_kind_octet octet ≡ true
alphanumeric-octet octet is = or_left _ _ (or_left _ _ is)

key-octet : (octet : ℕ) → (is_ascii_alphanumeric octet || octet == 45) ≡ true → is_kind_octet octet ≡ true
key-octet octet is = grind (arith, nat_tests)

keystring-text : (kind : List ℕ) → is_keystring kind ≡ true → IsKindText kind
keystring-text [] is = absurd cc
keystring-text (first ∷ rest) is =
    let both = and_parts (is_ascii_alphabetic first) (list_all (λ octet. is_ascii_alphanumeric octet || octet == 45) rest) is in
    record {
      first = first;
      rest = rest;
      is = refl;
      begins = letter first both.0;
      all =
          and_from (is_kind_octet first) (list_all is_kind_octet rest) (alphanumeric-octet first (letter first both.0))
          (weaker (λ octet. is_ascii_alphanumeric octet || octet == 45) is_kind_octet key-octet rest both.1);
    }

-- a dotted object identifier: numbers between dots
digit : (octet : ℕ) → is_ascii_digit octet ≡ true → is_ascii_alphanumeric octet ≡ true
digit octet is = grind (arith, nat_tests)

dot-octet : (octet : ℕ) → (octet == 46) ≡ true → is_kind_octet octet ≡ true
dot-octet octet is = grind (arith, nat_tests)

numbers-digits : (parts : List (List ℕ)) → list_all is_number parts ≡ true → list_all (list_all is_ascii_digit) parts ≡ true
numbers-digits [] all = refl
numbers-digits (part ∷ parts) all =
    let both = and_parts (is_number part) (list_all is_number parts) all in
    and_from (list_all is_ascii_digit part) _ (and_parts _ _ (and_parts _ _ both.0).0).1 (numbers-digits parts both.1)

onto-digits : (octet : ℕ) (parts : List (List ℕ)) → list_all (list_all is_ascii_digit) (onto_first octet parts) ≡ true → (is_ascii_digit octet ≡ true) × (list_all (list_all is_ascii_digit) parts ≡ true)
onto-digits octet [] all = ((and_parts _ _ (and_parts _ _ all).0).0, refl)
onto-digits octet (part ∷ parts) all =
    let both = and_parts (list_all is_ascii_digit (octet ∷ part)) (list_all (list_all is_ascii_digit) parts) all in
    let first = and_parts (is_ascii_digit octet) (list_all is_ascii_digit part) both.0 in
    (first.0, and_from (list_all is_ascii_digit part) _ first.1 both.1)

dotted-by : (octet : ℕ) (rest : List ℕ) (dot : Bool) → (octet == 46) ≡ dot → (list_all (list_all is_ascii_digit) (parts rest) ≡ true → list_all is_kind_octet rest ≡ true)
    → list_all (list_all is_ascii_digit) (if dot then [] ∷ parts rest else onto_first octet (parts rest)) ≡ true → list_all is_kind_octet (octet ∷ rest) ≡ true
dotted-by octet rest true is later all = and_from (is_kind_octet octet) (list_all is_kind_octet rest) (dot-octet octet is) (later all)
dotted-by octet rest false is later all =
    let both = onto-digits octet (parts rest) all in
    and_from (is_kind_octet octet) (list_all is_kind_octet rest) (alphanumeric-octet octet (digit octet both.0)) (later both.1)

dotted-octets : (text : List ℕ) → list_all (list_all is_ascii_digit) (parts text) ≡ true → list_all is_kind_octet text ≡ true
dotted-octets [] all = refl
dotted-octets (octet ∷ rest) all = dotted-by octet rest (octet == 46) refl (dotted-octets rest) all

first-by : (octet : ℕ) (rest : List ℕ) (dot : Bool) → list_all is_number (if dot then [] ∷ parts rest else onto_first octet (parts rest)) ≡ true → is_ascii_digit octet ≡ true
first-by octet rest true all = absurd cc
first-by octet rest false all = (onto-digits octet (parts rest) (numbers-digits (onto_first octet (parts rest)) all)).0

dotted-text : (kind : List ℕ) → is_dotted_oid kind ≡ true → IsKindText kind
unfolding is_dotted_oid
dotted-text [] is = absurd cc
dotted-text (first ∷ rest) is =
    let numbers = (and_parts _ _ is).1 in
    record {
      first = first;
      rest = rest;
      is = refl;
      begins = digit first (first-by first rest (first == 46) numbers);
      all = dotted-octets (first ∷ rest) (numbers-digits (parts (first ∷ rest)) numbers);
    }

-- each type
pub kind-text : (kind : List ℕ) → is_kind kind ≡ true → IsKindText kind
unfolding is_kind
kind-text kind is =
    elim (or_cases (is_keystring kind) (is_dotted_oid kind) is) [
      | inl word ↦ keystring-text kind word
      | inr dotted ↦ dotted-text kind dotted
    ]

-- a keystring is a type
pub keystring-kind : (kind : List ℕ) → is_keystring kind ≡ true → is_kind kind ≡ true
unfolding is_kind
keystring-kind kind is = or_left _ _ is

-- none of its octets is a line's end or a colon
octet-inside : (octet : ℕ) → is_kind_octet octet ≡ true → is_inside octet ≡ true
octet-inside octet is = grind (arith, nat_tests)

pub kind-inside : (kind : List ℕ) → IsKindText kind → list_all is_inside kind ≡ true
kind-inside kind text = weaker is_kind_octet is_inside octet-inside kind text.all

octet-colon : (octet : ℕ) → is_kind_octet octet ≡ true → not (octet == 58) ≡ true
octet-colon octet is = grind (arith, nat_tests)

pub kind-colon : (kind : List ℕ) → IsKindText kind → list_all (λ octet. not (octet == 58)) kind ≡ true
kind-colon kind text = weaker is_kind_octet (λ octet. not (octet == 58)) octet-colon kind text.all
