-- A printed value is a value's text, and stands for its octets.
use Rattle.std.proofs.Common.{◌≡◌, ℕ, ◌+◌, ◌*◌, ◌/◌, ◌%◌, ◌<◌, Bool, true, false, not, ◌&&◌, List, [], ◌∷◌, ◌++◌, refl, sym, ap, ◌∙◌, arith, inl, inr}
use Rattle.std.specs.Prelude.{◌==◌, if◌then◌else◌}
use Rattle.std.specs.List.{AllByRecursion}
use Rattle.std.proofs.lemmas.Bool.{eqb-true, agree_below_at, and_parts}
use Rattle.std.proofs.lemmas.Bool.Decides.{nat_tests}
use Rattle.regular_text.specs.Grammar.{Matches}
use Rattle.regular_text.proofs.Theorems.{Matches-AllByRecursion}
use Rattle.filter_text.specs.declared.classes.Class.{Class}
use Rattle.filter_text.specs.declared.classes.Class.TheVariants.{Nul}
use Rattle.filter_text.specs.declared.octets.Reading.{Reading}
use Rattle.filter_text.specs.declared.octets.Reading.TheVariants.{Plain, Escaped, HalfByte}
use Rattle.filter_text.specs.Classes.{class_of, is_plain, is_hex, is_backslash}
use Rattle.filter_text.specs.ItemGrammar.{piece, value}
use Rattle.filter_text.specs.Items.{hex_value, octets_from, value_of}
use Rattle.filter_text.specs.Printing.{hex_digit, is_shown, print_octet, print_value}

-- the numbers are octets
abbrev pub AreOctets : List ℕ → Type 0
AreOctets octets = AllByRecursion (λ x. x < 256) octets

-- what is shown of an octet is read as it
abbrev reads_shown : ℕ → Bool
reads_shown x = if is_shown x then is_plain (class_of x) && not (x == 92) else true

-- the digits are digits
abbrev has_digits : ℕ → Bool
has_digits x = is_hex (class_of (hex_digit (x / 16))) && is_hex (class_of (hex_digit (x % 16)))

-- and stand for the octet
abbrev same_octet : ℕ → Bool
same_octet x = (16 * hex_value (hex_digit (x / 16)) + hex_value (hex_digit (x % 16))) % 256 == x

shown-reads : (x : ℕ) → x < 256 → reads_shown x ≡ true
unfolding class_of
shown-reads x less = agree_below_at reads_shown (λ n. true) 256 x refl less

digits-hex : (x : ℕ) → x < 256 → has_digits x ≡ true
unfolding class_of
digits-hex x less = agree_below_at has_digits (λ n. true) 256 x refl less

digits-octet : (x : ℕ) → x < 256 → (16 * hex_value (hex_digit (x / 16)) + hex_value (hex_digit (x % 16))) % 256 ≡ x
digits-octet x less = eqb-true _ x (agree_below_at same_octet (λ n. true) 256 x refl less)

backslash-is : is_backslash (class_of 92) ≡ true
unfolding class_of
backslash-is = refl

-- a printed octet is a piece of a value, and is read as the octet
pub print_octet-piece : (x : ℕ) → x < 256 → Matches class_of piece (print_octet x)
print_octet-piece x less =
    elim (is_shown x) as (λ b. is_shown x ≡ b → Matches class_of piece (if b then x ∷ [] else 92 ∷ hex_digit (x / 16) ∷ hex_digit (x % 16) ∷ [])) [
      | true ↦ λ e. inl (x, refl, (and_parts (is_plain (class_of x)) (not (x == 92)) (sym (ap (λ b. if b then is_plain (class_of x) && not (x == 92) else true) e) ∙ shown-reads x less)).0)
      | false ↦ λ e. (let hex = and_parts (is_hex (class_of (hex_digit (x / 16)))) (is_hex (class_of (hex_digit (x % 16)))) (digits-hex x less) in
          inr (
            92 ∷ [],
            hex_digit (x / 16) ∷ hex_digit (x % 16) ∷ [],
            refl,
            (92, refl, backslash-is),
            (hex_digit (x / 16) ∷ [], hex_digit (x % 16) ∷ [], refl, (hex_digit (x / 16), refl, hex.0), (hex_digit (x % 16), refl, hex.1)),
          ))
    ] refl

print_octet-reads : (x : ℕ) (more : List ℕ) → x < 256 → octets_from Plain (print_octet x ++ more) ≡ x ∷ octets_from Plain more
print_octet-reads x more less =
    elim (is_shown x) as (λ b. is_shown x ≡ b → octets_from Plain ((if b then x ∷ [] else 92 ∷ hex_digit (x / 16) ∷ hex_digit (x % 16) ∷ []) ++ more) ≡ x ∷ octets_from Plain more) [
      | true ↦ λ e. (let parts = and_parts (is_plain (class_of x)) (not (x == 92)) (sym (ap (λ b. if b then is_plain (class_of x) && not (x == 92) else true) e) ∙ shown-reads x less) in
          let no_escape : (x == 92) ≡ false = not_true (x == 92) parts.1 in
          ap (λ b. if b then octets_from Escaped more else x ∷ octets_from Plain more) no_escape)
      | false ↦ λ e. ap (λ (n : ℕ). n ∷ octets_from Plain more) (digits-octet x less)
    ] refl
  where
    not_true : (b : Bool) → not b ≡ true → b ≡ false
    not_true true h = absurd cc
    not_true false h = refl

-- a printed octet isn't empty
pub print_octet-cons : (x : ℕ) → (first : ℕ) × (rest : List ℕ) × (print_octet x ≡ first ∷ rest)
print_octet-cons x =
    elim (is_shown x) as (λ b. (first : ℕ) × (rest : List ℕ) × ((if b then x ∷ [] else 92 ∷ hex_digit (x / 16) ∷ hex_digit (x % 16) ∷ []) ≡ first ∷ rest)) [
      | true ↦ (x, [], refl)
      | false ↦ (92, hex_digit (x / 16) ∷ hex_digit (x % 16) ∷ [], refl)
    ]

-- what is printed is a value's text
pub print_value-matches : (octets : List ℕ) → AreOctets octets → Matches class_of value (print_value octets)
unfolding print_value
print_value-matches [] all = ([], refl, tt)
print_value-matches (x ∷ xs) (less, all) =
    let (parts, is, pieces) = print_value-matches xs all in
    (print_octet x ∷ parts, ap (λ (s : List ℕ). print_octet x ++ s) is, (print_octet-piece x less, pieces))

-- and is read as the octets
pub print_value-reads : (octets : List ℕ) → AreOctets octets → value_of (print_value octets) ≡ octets
unfolding print_value value_of
print_value-reads [] all = refl
print_value-reads (x ∷ xs) (less, all) = print_octet-reads x (print_value xs) less ∙ ap (λ (s : List ℕ). x ∷ s) (print_value-reads xs all)

-- ---- a text's octets

-- the class is not that of what is no octet of a text
abbrev is_octet : Class → Bool
is_octet Nul = false
is_octet class = true

octet-less : (x : ℕ) → is_octet (class_of x) ≡ true → x < 256
unfolding class_of
octet-less x h = grind (arith, nat_tests)

plain-octet : (class : Class) → is_plain class ≡ true → is_octet class ≡ true
plain-octet Nul h = absurd cc
plain-octet class h = refl

hex-octet : (class : Class) → is_hex class ≡ true → is_octet class ≡ true
hex-octet Nul h = absurd cc
hex-octet class h = refl

backslash-octet : (class : Class) → is_backslash class ≡ true → is_octet class ≡ true
backslash-octet Nul h = absurd cc
backslash-octet class h = refl

all-less : (text : List ℕ) → AllByRecursion (λ x. is_octet (class_of x) ≡ true) text → AreOctets text
all-less [] all = tt
all-less (x ∷ xs) (h, all) = (octet-less x h, all-less xs all)

octets_from-less : (reading : Reading) (text : List ℕ) → AreOctets text → AreOctets (octets_from reading text)
octets_from-less reading [] all = tt
octets_from-less Plain (x ∷ xs) (less, all) =
    elim (x == 92) as (λ b. AreOctets (if b then octets_from Escaped xs else x ∷ octets_from Plain xs)) [
      | true ↦ octets_from-less Escaped xs all
      | false ↦ (less, octets_from-less Plain xs all)
    ]
octets_from-less Escaped (x ∷ xs) (less, all) = octets_from-less (HalfByte (16 * hex_value x)) xs all
octets_from-less (HalfByte high) (x ∷ xs) (less, all) = (omega arith, octets_from-less Plain xs all)

-- a value's text stands for octets
pub value_of-octets : (text : List ℕ) → Matches class_of value text → AreOctets (value_of text)
unfolding value_of
value_of-octets text m =
    octets_from-less Plain text (all-less text (Matches-AllByRecursion class_of is_octet value text (plain-octet, (backslash-octet, (hex-octet, hex-octet))) m))
