-- The tests of syntaxes against their facts, and what is text.
use Rattle.std.proofs.Common.{◌≢◌, ◌<◌, ℕ, Bool, List, [], ◌∷◌, length, All, IsAscii, IsUtf8, refl, arith, ltb}
use Rattle.std.proofs.lemmas.Bool.{lt-ltb}
use Rattle.std.proofs.lemmas.Bool.Decides.{nat_tests, Decides-like, Decides-and, Decides-or, Decides-eqb, Decides-ltb, Decides-by_and}
use Rattle.std.proofs.lemmas.Str.{IsUtf8-from_is_utf8, is_utf8-from_IsUtf8, IsUtf8-from_ascii}
use Rattle.std.proofs.lemmas.Str.Ascii.{All-from_ascii, IsAscii-from_all}
use Rattle.std.specs.Bool.{Decides}
use Rattle.std.specs.List.{list_all}
use Rattle.std.specs.Str.{is_utf8}
use Rattle.match_rules.specs.declared.rules.Rule.{Rule}
use Rattle.match_rules.specs.declared.rules.Rule.TheVariants.{Text, Ascii, Phone, Country, Octets}
use Rattle.match_rules.specs.Syntaxes.{IsLetter, IsPrintable, IsOf, IsPartOf, is_letter, is_printable, is_filled, is_of, is_part_of}

is_letter-Decides : (octet : ℕ) → Decides (is_letter octet) (IsLetter octet)
is_letter-Decides octet = grind (arith, nat_tests)

is_printable-Decides : (octet : ℕ) → Decides (is_printable octet) (IsPrintable octet)
is_printable-Decides octet = grind (arith, nat_tests)

is_filled-Decides : (octets : List ℕ) → Decides (is_filled octets) (octets ≢ [])
is_filled-Decides [] = (λ test. absurd (cc), λ filled. absurd (filled refl))
is_filled-Decides (octet ∷ octets) = (λ test is. cc, λ filled. lt-ltb 0 _ (omega arith))

is_utf8-Decides : (octets : List ℕ) → Decides (is_utf8 octets) (IsUtf8 octets)
is_utf8-Decides octets = (IsUtf8-from_is_utf8 octets, is_utf8-from_IsUtf8 octets)

-- a test of each octet tells the fact of all
all-Decides : (test : ℕ → Bool) (P : ℕ → Type 0) → ((octet : ℕ) → Decides (test octet) (P octet)) → (octets : List ℕ) → Decides (list_all test octets) (All P octets)
all-Decides test P each = Decides-by_and test P (list_all test) each refl (λ _ _. refl)

is_ascii-Decides : (octets : List ℕ) → Decides (list_all (λ octet. ltb octet 128) octets) (IsAscii octets)
is_ascii-Decides octets =
    Decides-like _ (IsAscii-from_all octets) (All-from_ascii octets) (all-Decides (λ octet. ltb octet 128) (λ octet. octet < 128) (λ octet. Decides-ltb octet 128) octets)

-- the test of a value's syntax tells the fact
pub is_of-Decides : (rule : Rule) (octets : List ℕ) → Decides (is_of rule octets) (IsOf rule octets)
unfolding is_of
is_of-Decides Text octets = Decides-and _ _ (is_filled-Decides octets) (is_utf8-Decides octets)
is_of-Decides Ascii octets = Decides-and _ _ (is_filled-Decides octets) (is_ascii-Decides octets)
is_of-Decides Phone octets = Decides-and _ _ (is_filled-Decides octets) (all-Decides is_printable IsPrintable is_printable-Decides octets)
is_of-Decides Country octets = Decides-and _ _ (Decides-eqb (length octets) 2) (all-Decides is_letter IsLetter is_letter-Decides octets)
is_of-Decides Octets octets = (λ _. tt, λ _. refl)

-- and so does the test of a part's
pub is_part_of-Decides : (rule : Rule) (octets : List ℕ) → Decides (is_part_of rule octets) (IsPartOf rule octets)
unfolding is_part_of
is_part_of-Decides Text octets = Decides-and _ _ (is_filled-Decides octets) (is_utf8-Decides octets)
is_part_of-Decides Ascii octets = Decides-and _ _ (is_filled-Decides octets) (is_ascii-Decides octets)
is_part_of-Decides Phone octets = Decides-and _ _ (is_filled-Decides octets) (all-Decides is_printable IsPrintable is_printable-Decides octets)
is_part_of-Decides Country octets =
    Decides-and _ _ (Decides-or _ _ (Decides-eqb (length octets) 1) (Decides-eqb (length octets) 2)) (all-Decides is_letter IsLetter is_letter-Decides octets)
is_part_of-Decides Octets octets = (λ _. tt, λ _. refl)

-- printable octets and letters are ASCII
pub IsAscii-printable : (octets : List ℕ) → All IsPrintable octets → IsAscii octets
IsAscii-printable octets all = IsAscii-from_all octets (λ k d within. let here = all k d within in omega (arith, here))

pub IsAscii-letters : (octets : List ℕ) → All IsLetter octets → IsAscii octets
IsAscii-letters octets all = IsAscii-from_all octets (λ k d within. let here = all k d within in grind (arith, here))

-- a value of any rule but octets is text
pub IsUtf8-value : (rule : Rule) (octets : List ℕ) → IsOf rule octets → rule ≢ Octets → IsUtf8 octets
IsUtf8-value Text octets is other = is.1
IsUtf8-value Ascii octets is other = IsUtf8-from_ascii octets is.1
IsUtf8-value Phone octets is other = IsUtf8-from_ascii octets (IsAscii-printable octets is.1)
IsUtf8-value Country octets is other = IsUtf8-from_ascii octets (IsAscii-letters octets is.1)
IsUtf8-value Octets octets is other = absurd (other refl)

-- and so is a part
pub IsUtf8-part : (rule : Rule) (octets : List ℕ) → IsPartOf rule octets → rule ≢ Octets → IsUtf8 octets
IsUtf8-part Text octets is other = is.1
IsUtf8-part Ascii octets is other = IsUtf8-from_ascii octets is.1
IsUtf8-part Phone octets is other = IsUtf8-from_ascii octets (IsAscii-printable octets is.1)
IsUtf8-part Country octets is other = IsUtf8-from_ascii octets (IsAscii-letters octets is.1)
IsUtf8-part Octets octets is other = absurd (other refl)
