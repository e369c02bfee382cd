-- Keys of ASCII texts by small letters.
use Rattle.std.proofs.Common.{◌≡◌, ℕ, zero, suc, Bool, true, ◌&&◌, ltb, List, [], ◌∷◌, All, IsAscii, refl, sym, ap, ap₂, ◌∙◌, arith, eqb, suc-le-suc, zero-le}
use Rattle.std.proofs.lemmas.Bool.Decides.{nat_tests}
use Rattle.std.proofs.lemmas.List.{length-map}
use Rattle.std.proofs.lemmas.List.Elements.{All-cons, All-nil}
use Rattle.std.proofs.lemmas.List.Folds.{list_all-map}
use Rattle.std.proofs.lemmas.Str.{IsUtf8-from_ascii, is_utf8-from_IsUtf8}
use Rattle.std.proofs.lemmas.Str.Ascii.{lowercase-lowercase}
use Rattle.std.specs.Char.{to_ascii_lowercase}
use Rattle.std.specs.List.{list_all}
use Rattle.std.specs.Str.{is_utf8}
use Rattle.match_rules.specs.declared.rules.Rule.{Rule}
use Rattle.match_rules.specs.declared.rules.Rule.TheVariants.{Text, Ascii, Phone, Country, Octets}
use Rattle.match_rules.specs.Laws.{lower_case}
use Rattle.match_rules.specs.Syntaxes.{is_letter, is_printable, is_filled, is_of}
use Rattle.match_rules.proofs.laws.CutLemmas.{Each}
use Rattle.match_rules.proofs.folding.FoldingLemmas.{IsAscii-lower}

-- each octet and all octets
pub Each-from_All : (P : ℕ → Type 0) (octets : List ℕ) → All P octets → Each P octets
Each-from_All P [] all = tt
Each-from_All P (octet ∷ octets) all = (all zero 0 (suc-le-suc zero-le), Each-from_All P octets (λ k d within. all (suc k) d (suc-le-suc within)))

pub All-from_Each : (P : ℕ → Type 0) (octets : List ℕ) → Each P octets → All P octets
All-from_Each P [] each = All-nil P
All-from_Each P (octet ∷ octets) each = All-cons P octet octets each.0 (All-from_Each P octets each.1)

pub Each-like : (P Q : ℕ → Type 0) → ((octet : ℕ) → P octet → Q octet) → (octets : List ℕ) → Each P octets → Each Q octets
Each-like P Q like [] each = tt
Each-like P Q like (octet ∷ octets) each = (like octet each.0, Each-like P Q like octets each.1)

pub Each-lower : (P : ℕ → Type 0) (octets : List ℕ) → Each (λ octet. P (to_ascii_lowercase octet)) octets → Each P (lower_case octets)
Each-lower P [] each = tt
Each-lower P (octet ∷ octets) each = (each.0, Each-lower P octets each.1)

-- small letters stay as they are
pub lower_case-small : (octets : List ℕ) → Each (λ octet. to_ascii_lowercase octet ≡ octet) octets → lower_case octets ≡ octets
lower_case-small [] each = refl
lower_case-small (octet ∷ octets) each = ap₂ ◌∷◌ each.0 (lower_case-small octets each.1)

pub Each-small : (octets : List ℕ) → Each (λ octet. to_ascii_lowercase octet ≡ octet) (lower_case octets)
Each-small [] = tt
Each-small (octet ∷ octets) = (lowercase-lowercase octet, Each-small octets)

-- two tests that agree
list_all-agree : (p q : ℕ → Bool) → ((octet : ℕ) → p octet ≡ q octet) → (octets : List ℕ) → list_all p octets ≡ list_all q octets
list_all-agree p q agree [] = refl
list_all-agree p q agree (octet ∷ octets) = ap₂ ◌&&◌ (agree octet) (list_all-agree p q agree octets)

-- a test that small letters do not change
list_all-lower : (test : ℕ → Bool) → ((octet : ℕ) → test (to_ascii_lowercase octet) ≡ test octet) → (octets : List ℕ) → list_all test (lower_case octets) ≡ list_all test octets
list_all-lower test agree octets = list_all-map test to_ascii_lowercase octets ∙ list_all-agree (λ octet. test (to_ascii_lowercase octet)) test agree octets

is_filled-lower : (octets : List ℕ) → is_filled (lower_case octets) ≡ is_filled octets
is_filled-lower octets = ap (λ n. ltb 0 n) (length-map octets to_ascii_lowercase)

pub is_utf8-ascii : (octets : List ℕ) → IsAscii octets → is_utf8 octets ≡ true
is_utf8-ascii octets ascii = is_utf8-from_IsUtf8 octets (IsUtf8-from_ascii octets ascii)

ascii-lower : (octet : ℕ) → ltb (to_ascii_lowercase octet) 128 ≡ ltb octet 128
ascii-lower octet = grind (arith, nat_tests)

is_printable-lower : (octet : ℕ) → is_printable (to_ascii_lowercase octet) ≡ is_printable octet
is_printable-lower octet = grind (arith, nat_tests)

is_letter-lower : (octet : ℕ) → is_letter (to_ascii_lowercase octet) ≡ is_letter octet
is_letter-lower octet = grind (arith, nat_tests)

-- the syntax of an ASCII text does not change with small letters
pub is_of-lower : (rule : Rule) (octets : List ℕ) → IsAscii octets → is_of rule (lower_case octets) ≡ is_of rule octets
unfolding is_of
is_of-lower Text octets ascii =
    ap₂ ◌&&◌ (is_filled-lower octets) (is_utf8-ascii (lower_case octets) (IsAscii-lower octets ascii) ∙ sym (is_utf8-ascii octets ascii))
is_of-lower Ascii octets ascii = ap₂ ◌&&◌ (is_filled-lower octets) (list_all-lower (λ octet. ltb octet 128) ascii-lower octets)
is_of-lower Phone octets ascii = ap₂ ◌&&◌ (is_filled-lower octets) (list_all-lower is_printable is_printable-lower octets)
is_of-lower Country octets ascii =
    ap₂ ◌&&◌ (ap (λ n. eqb n 2) (length-map octets to_ascii_lowercase)) (list_all-lower is_letter is_letter-lower octets)
is_of-lower Octets octets ascii = refl
