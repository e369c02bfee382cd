-- Lemmas on the octets of written lines: what no octet of a type, of a plain value and of base64 is.
use Rattle.std.proofs.Common.{◌≡◌, ℕ, zero, suc, ◌-◌, ◌==◌, ◌&&◌, ◌||◌, not, ◌∙◌, ap, refl, arith, Bool, true, false, List, [], ◌∷◌, ◌++◌, length, get_or, replicate}
use Rattle.std.specs.Char.{is_ascii_alphabetic, is_ascii_alphanumeric}
use Rattle.std.specs.List.{list_all}
use Rattle.std.specs.Str.Lines.{strip_carriage_return}
use Rattle.std.proofs.lemmas.Bool.{and_parts, and_from}
use Rattle.std.proofs.lemmas.Bool.Decides.{nat_tests}
use Rattle.std.proofs.lemmas.List.Folds.{list_all-append}
use Rattle.base64.specs.Engines.{standard}
use Rattle.base64.specs.GeneralPurpose.{engine_symbols, encode_of}
use Rattle.base64.specs.Rfc4648.{encode_symbols, padding_len}
use Rattle.dir_tree.specs.schema_tables.Naming.{is_keystring}
use Rattle.ldif_records.specs.writing.Written.{is_plain_octet, is_plain, written_value}
use Rattle.dir_tree.proofs.base_laws_proofs.Theorems.{choose, other_choice}

-- no line feed and no carriage return
abbrev pub is_inside : ℕ → Bool
is_inside octet = not (octet == 10) && not (octet == 13)

-- none of these and no colon
abbrev pub is_name_octet : ℕ → Bool
is_name_octet octet = is_inside octet && not (octet == 58)

-- none of these and no space
abbrev pub is_code_octet : ℕ → Bool
is_code_octet octet = is_inside octet && not (octet == 32)

-- a test that follows from another
pub list_all-weaker : (test other : ℕ → Bool) → ((octet : ℕ) → test octet ≡ true → other octet ≡ true) → (xs : List ℕ) → list_all test xs ≡ true → list_all other xs ≡ true
list_all-weaker test other weaker [] all = refl
list_all-weaker test other weaker (x ∷ xs) all =
    let both = and_parts (test x) (list_all test xs) all in
    and_from (other x) (list_all other xs) (weaker x both.0) (list_all-weaker test other weaker xs both.1)

pub list_all-join : (test : ℕ → Bool) (xs ys : List ℕ) → list_all test xs ≡ true → list_all test ys ≡ true → list_all test (xs ++ ys) ≡ true
list_all-join test xs ys one other = list_all-append test xs ys ∙ and_from (list_all test xs) (list_all test ys) one other

-- an element of a list, or 0 past its end
pub passes-at : (test : ℕ → Bool) → test 0 ≡ true → (xs : List ℕ) → list_all test xs ≡ true → (k : ℕ) → test (get_or xs k 0) ≡ true
passes-at test past [] all k = past
passes-at test past (x ∷ xs) all zero = (and_parts (test x) (list_all test xs) all).0
passes-at test past (x ∷ xs) all (suc k) = passes-at test past xs (and_parts (test x) (list_all test xs) all).1 k

-- letters, digits and hyphens
alphabetic-name : (octet : ℕ) → is_ascii_alphabetic octet ≡ true → is_name_octet octet ≡ true
alphabetic-name octet is = grind (arith, nat_tests)

key-name : (octet : ℕ) → (is_ascii_alphanumeric octet || octet == 45) ≡ true → is_name_octet octet ≡ true
key-name octet is = grind (arith, nat_tests)

pub keystring-name : (kind : List ℕ) → is_keystring kind ≡ true → list_all is_name_octet kind ≡ true
keystring-name [] is = refl
keystring-name (first ∷ rest) is =
    let both = and_parts (is_ascii_alphabetic first) (list_all (λ octet. is_ascii_alphanumeric octet || octet == 45) rest) is in
    and_from (is_name_octet first) (list_all is_name_octet rest) (alphabetic-name first both.0)
    (list_all-weaker (λ octet. is_ascii_alphanumeric octet || octet == 45) is_name_octet key-name rest both.1)

name-inside : (octet : ℕ) → is_name_octet octet ≡ true → is_inside octet ≡ true
name-inside octet is = (and_parts (is_inside octet) (not (octet == 58)) is).0

pub keystring-inside : (kind : List ℕ) → is_keystring kind ≡ true → list_all is_inside kind ≡ true
keystring-inside kind is = list_all-weaker is_name_octet is_inside name-inside kind (keystring-name kind is)

-- the symbols of base64
symbols-pass : (test : ℕ → Bool) (table : List ℕ) → ((k : ℕ) → test (get_or table k 0) ≡ true) → (octets : List ℕ) → list_all test (encode_symbols table octets) ≡ true
unfolding encode_symbols
symbols-pass test table pass [] = refl
symbols-pass test table pass (a ∷ []) = and_from _ _ (pass _) (and_from _ _ (pass _) refl)
symbols-pass test table pass (a ∷ b ∷ []) = and_from _ _ (pass _) (and_from _ _ (pass _) (and_from _ _ (pass _) refl))
symbols-pass test table pass (a ∷ b ∷ c ∷ rest) =
    and_from _ _ (pass _) (and_from _ _ (pass _) (and_from _ _ (pass _) (and_from _ _ (pass _) (symbols-pass test table pass rest))))

padding-passes : (test : ℕ → Bool) → test 61 ≡ true → (n : ℕ) → list_all test (replicate n 61) ≡ true
padding-passes test pass zero = refl
padding-passes test pass (suc n) = and_from (test 61) _ pass (padding-passes test pass n)

table-code : list_all is_code_octet (engine_symbols standard) ≡ true
table-code = refl

pub encoded-code : (octets : List ℕ) → list_all is_code_octet (encode_of standard octets) ≡ true
encoded-code octets =
    list_all-join is_code_octet (encode_symbols (engine_symbols standard) octets) (replicate (padding_len (length octets)) 61)
    (symbols-pass is_code_octet (engine_symbols standard) (passes-at is_code_octet refl (engine_symbols standard) table-code) octets)
    (padding-passes is_code_octet refl (padding_len (length octets)))

code-inside : (octet : ℕ) → is_code_octet octet ≡ true → is_inside octet ≡ true
code-inside octet is = (and_parts (is_inside octet) (not (octet == 32)) is).0

-- the octets of a value that may stand as it is
plain-inside : (octet : ℕ) → is_plain_octet octet ≡ true → is_inside octet ≡ true
plain-inside octet is = grind (arith, nat_tests)

pub plain-octets : (value : List ℕ) → is_plain value ≡ true → list_all is_inside value ≡ true
unfolding is_plain
plain-octets value is =
    let first = and_parts _ _ (and_parts _ _ (and_parts _ _ (and_parts _ _ is).0).0).0 in
    list_all-weaker is_plain_octet is_inside plain-inside value first.0

-- what stands after a type
written-by : (value : List ℕ) (plain : Bool) → is_plain value ≡ plain → list_all is_inside (written_value value) ≡ true
unfolding written_value
written-by value true is = ap (list_all is_inside) (choose (is_plain value) _ _ is) ∙ plain-octets value is
written-by value false is =
    ap (list_all is_inside) (other_choice (is_plain value) _ _ is)
    ∙ list_all-weaker is_code_octet is_inside code-inside (encode_of standard value) (encoded-code value)

pub written-inside : (value : List ℕ) → list_all is_inside (written_value value) ≡ true
written-inside value = written-by value (is_plain value) refl

-- a line without a carriage return loses none
no_return : (octet : ℕ) → is_inside octet ≡ true → (octet == 13) ≡ false
no_return octet is = grind (arith, nat_tests)

pub strip-inside : (line : List ℕ) → list_all is_inside line ≡ true → strip_carriage_return line ≡ line
strip-inside line all = other_choice _ _ line (no_return (get_or line (length line - 1) 0) (passes-at is_inside refl line all (length line - 1)))
