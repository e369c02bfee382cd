-- Identifiers of persons: small letters and digits, which are their own keys, and are printed and written as they stand.
use Rattle.std.proofs.Common.{◌≡◌, ◌≢◌, ℕ, zero, suc, ◌+◌, ◌-◌, ◌%◌, ◌^◌, ◌<◌, ◌≤◌, ◌⊎◌, ◌==◌, Bool, true, false, ◌&&◌, List, [], ◌∷◌, ◌++◌, length, slice_index, decimal, All, Some, refl, ap, ◌∙◌, arith, inl, inr}
use Rattle.std.specs.Prelude.{codes, nat_le}
use Rattle.std.specs.List.{AllByRecursion, list_all}
use Rattle.std.proofs.lemmas.Bool.{and_parts}
use Rattle.std.proofs.lemmas.Bool.Decides.{nat_tests}
use Rattle.std.proofs.lemmas.Fmt.{decimal_by_steps, length-decimal-le}
use Rattle.dir_tree.proofs.base_laws_proofs.Theorems.{all_push, all_map}
use Rattle.match_rules.specs.declared.rules.Rule.TheVariants.{Text, Ascii}
use Rattle.match_rules.specs.Keys.{key_of}
use Rattle.match_rules.specs.OwnKeys.{IsSmall}
use Rattle.match_rules.proofs.Theorems.{key_of-own}
use Rattle.dir_tree.specs.dn_names.Classes.{class_of}
use Rattle.dir_tree.specs.dn_names.Limits.{most_octets}
use Rattle.dir_tree.specs.dn_names.Printing.{print_octet, print_from, is_empty}
use Rattle.ldif_load.specs.ldif_records.writing.Written.{is_plain_octet, is_plain}

-- a digit, or a small letter
abbrev pub IsWord : ℕ → Type 0
IsWord octet = ((48 ≤ octet) × (octet ≤ 57)) ⊎ ((97 ≤ octet) × (octet ≤ 122))

abbrev pub AreWords : List ℕ → Type 0
AreWords octets = AllByRecursion IsWord octets

-- the octets may be an identifier
pub record IsIdentifier (octets : List ℕ) : Type 0 where
  pub filled : octets ≢ []
  pub words : AreWords octets
  pub fits : length octets ≤ most_octets

-- a text of small letters, as a test tells
abbrev pub is_word : ℕ → Bool
is_word octet = nat_le 97 octet && nat_le octet 122

word_from : (octet : ℕ) → is_word octet ≡ true → IsWord octet
word_from octet is = grind (arith, nat_tests)

pub words_from : (octets : List ℕ) → list_all is_word octets ≡ true → AreWords octets
words_from [] is = tt
words_from (octet ∷ octets) is =
    let parts = and_parts (is_word octet) (list_all is_word octets) is in
    (word_from octet parts.0, words_from octets parts.1)

-- the digits of a number
words_decimal : (number : ℕ) → number < 2 ^ 64 → AreWords (decimal number)
words_decimal number fits =
    decimal_by_steps (λ number digits. AreWords digits) (λ number low. (inl (omega arith, omega arith), tt))
    (λ number digits high are. all_push IsWord digits (48 + number % 10) are (inl (omega arith, omega arith))) number fits

-- so is the identifier of a number
pub IsIdentifier-of : (number : ℕ) → number ≤ 200000 → IsIdentifier (codes "u" ++ decimal number)
IsIdentifier-of number fits =
    let short = length-decimal-le 6 number (omega arith) (omega arith) (omega arith) in record {
      filled = λ e. absurd cc;
      words = (inr (omega arith, omega arith), words_decimal number (omega arith));
      fits = omega arith;
    }

-- it is its own key
small_word : (octet : ℕ) → IsWord octet → IsSmall octet
small_word octet is = grind arith

small_words : (octets : List ℕ) → AreWords octets → All IsSmall octets
small_words [] are k d within = absurd (omega arith)
small_words (octet ∷ octets) are zero d within = small_word octet are.0
small_words (octet ∷ octets) are (suc k) d within = small_words octets are.1 k d (omega arith)

pub text_key-words : (octets : List ℕ) → octets ≢ [] → AreWords octets → key_of Text octets ≡ Some octets
text_key-words octets filled are = key_of-own Text octets (filled, small_words octets are)

pub ascii_key-words : (octets : List ℕ) → octets ≢ [] → AreWords octets → key_of Ascii octets ≡ Some octets
ascii_key-words octets filled are = key_of-own Ascii octets (filled, small_words octets are)

-- in a name it is printed as it stands
printed_octet : (first last : Bool) (octet : ℕ) → IsWord octet → print_octet first last octet ≡ octet ∷ []
unfolding class_of
printed_octet first last octet is = grind (arith, nat_tests)

pub print_from-words : (first : Bool) (octets : List ℕ) → AreWords octets → print_from first octets ≡ octets
print_from-words first [] are = refl
print_from-words first (octet ∷ octets) are =
    ap (λ front. front ++ print_from false octets) (printed_octet first (is_empty octets) octet are.0)
    ∙ ap (λ later. octet ∷ later) (print_from-words false octets are.1)

-- visible ASCII
abbrev pub IsVisible : ℕ → Type 0
IsVisible octet = (33 ≤ octet) × (octet ≤ 126)

abbrev pub AreVisible : List ℕ → Type 0
AreVisible octets = AllByRecursion IsVisible octets

abbrev pub is_visible : ℕ → Bool
is_visible octet = nat_le 33 octet && nat_le octet 126

visible_from : (octet : ℕ) → is_visible octet ≡ true → IsVisible octet
visible_from octet is = grind (arith, nat_tests)

pub AreVisible-from : (octets : List ℕ) → list_all is_visible octets ≡ true → AreVisible octets
AreVisible-from [] is = tt
AreVisible-from (octet ∷ octets) is =
    let parts = and_parts (is_visible octet) (list_all is_visible octets) is in
    (visible_from octet parts.0, AreVisible-from octets parts.1)

visible_word : (octet : ℕ) → IsWord octet → IsVisible octet
visible_word octet is = grind arith

pub AreVisible-words : (octets : List ℕ) → AreWords octets → AreVisible octets
AreVisible-words octets are = all_map IsWord IsVisible visible_word octets are

-- it is of octets
pub octets-visible : (octets : List ℕ) → AreVisible octets → (index : ℕ) → slice_index octets index < 256
octets-visible [] are index = omega arith
octets-visible (octet ∷ octets) are zero = let most = are.0.1 in omega arith
octets-visible (octet ∷ octets) are (suc index) = octets-visible octets are.1 index

-- none is a space, and each may be written as it stands
apart_at : (octets : List ℕ) → AreVisible octets → (index : ℕ) → (slice_index octets index == 32) ≡ false
apart_at [] are index = refl
apart_at (octet ∷ octets) are zero = grind (arith, nat_tests)
apart_at (octet ∷ octets) are (suc index) = apart_at octets are.1 index

plain_octet : (octet : ℕ) → IsVisible octet → is_plain_octet octet ≡ true
plain_octet octet is = grind (arith, nat_tests)

plain_octets : (octets : List ℕ) → AreVisible octets → list_all is_plain_octet octets ≡ true
plain_octets [] are = refl
plain_octets (octet ∷ octets) are = rw (plain_octet octet are.0) (plain_octets octets are.1)

word_begins : (octet : ℕ) → IsWord octet → ((octet == 32) ≡ false) × ((octet == 58) ≡ false) × ((octet == 60) ≡ false)
word_begins octet is = (grind (arith, nat_tests), grind (arith, nat_tests), grind (arith, nat_tests))

-- so may a text that begins with a letter or a digit
pub is_plain-visible : (octet : ℕ) (octets : List ℕ) → IsWord octet → AreVisible octets → is_plain (octet ∷ octets) ≡ true
unfolding is_plain
is_plain-visible octet octets first later =
    let all : AreVisible (octet ∷ octets) = (visible_word octet first, later) in
    let begins = word_begins octet first in
    rw (plain_octets (octet ∷ octets) all, begins.0, begins.1, begins.2, apart_at (octet ∷ octets) all (length (octet ∷ octets) - 1))

pub is_plain-words : (octets : List ℕ) → octets ≢ [] → AreWords octets → is_plain octets ≡ true
is_plain-words [] filled are = absurd (filled refl)
is_plain-words (octet ∷ octets) filled are = is_plain-visible octet octets are.0 (AreVisible-words octets are.1)
