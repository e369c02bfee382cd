-- Lemmas on octets that are read back, one by one.
use Rattle.std.proofs.Common.{◌≡◌, ℕ, ◌<◌, ◌≤◌, ◌==◌, ◌∙◌, sym, ap, cond, refl, arith, Bool, true, false, List, [], ◌∷◌, ◌++◌, length, take, drop, Option, Some, None}
use Rattle.std.specs.Prelude.{option_map}
use Rattle.std.specs.List.{slice_split, onto_first}
use Rattle.std.proofs.lemmas.Bool.Decides.{nat_tests}
use Rattle.std.proofs.lemmas.List.{append_assoc, append-nil}
use Rattle.std.proofs.lemmas.List.Splits.{slice_split-cons_no}
use Rattle.line_text.specs.Escapes.{octet_of, both, octets_of_all, octets_of_parts, read_back}

-- the octet is a backslash
abbrev is_backslash : ℕ → Bool
is_backslash octet = octet == 92

-- one octet more at the front of the first part
onto-by : (octet : ℕ) (part : List ℕ) (rest : Option (List ℕ)) → option_map (λ rest. (octet ∷ part) ++ rest) rest ≡ option_map (λ rest. octet ∷ rest) (option_map (λ rest. part ++ rest) rest)
onto-by octet part None = refl
onto-by octet part (Some rest) = refl

parts-onto : (octet : ℕ) (parts : List (List ℕ)) → octets_of_parts (onto_first octet parts) ≡ option_map (λ rest. octet ∷ rest) (octets_of_parts parts)
parts-onto octet [] = refl
parts-onto octet (part ∷ parts) = onto-by octet part (octets_of_all parts)

-- an octet that is no backslash stands for itself
pub read_back-plain : (octet : ℕ) (text : List ℕ) → (octet == 92) ≡ false → read_back (octet ∷ text) ≡ option_map (λ rest. octet ∷ rest) (read_back text)
unfolding read_back
read_back-plain octet text plain = ap octets_of_parts (slice_split-cons_no is_backslash octet text plain) ∙ parts-onto octet (slice_split is_backslash text)

-- behind a backslash that begins the text
behind-by : (rest : Option (List ℕ)) → option_map (λ rest. [] ++ rest) rest ≡ rest
behind-by None = refl
behind-by (Some rest) = refl

behind : (text : List ℕ) → read_back (92 ∷ text) ≡ octets_of_all (slice_split is_backslash text)
unfolding read_back
behind text = behind-by (octets_of_all (slice_split is_backslash text))

-- the digits of an escape are no backslashes
other_digits : (high low octet : ℕ) → octet_of (high ∷ low ∷ []) ≡ Some octet → ((high == 92) ≡ false) × ((low == 92) ≡ false)
other_digits high low octet is = (grind (arith, nat_tests), grind (arith, nat_tests))

-- an escape before what other parts stand for
escape-by : (octet : ℕ) (part : List ℕ) (digits : Option ℕ) (rest : Option (List ℕ)) → digits ≡ Some octet
    → both (option_map (λ octet. octet ∷ part) digits) rest ≡ option_map (λ rest. octet ∷ rest) (option_map (λ rest. part ++ rest) rest)
escape-by octet part digits None is = rw is refl
escape-by octet part digits (Some rest) is = rw is refl

escape-onto : (high low octet : ℕ) (parts : List (List ℕ)) → octet_of (high ∷ low ∷ []) ≡ Some octet
    → octets_of_all (onto_first high (onto_first low parts)) ≡ option_map (λ rest. octet ∷ rest) (octets_of_parts parts)
escape-onto high low octet [] is = escape-by octet [] (octet_of (high ∷ low ∷ [])) (Some []) is
escape-onto high low octet (part ∷ parts) is = escape-by octet part (octet_of (high ∷ low ∷ [])) (octets_of_all parts) is

-- an escape stands for its octet
pub read_back-escape : (high low octet : ℕ) (text : List ℕ) → octet_of (high ∷ low ∷ []) ≡ Some octet
    → read_back (92 ∷ high ∷ low ∷ text) ≡ option_map (λ rest. octet ∷ rest) (read_back text)
unfolding read_back
read_back-escape high low octet text is =
    let other = other_digits high low octet is in
    behind (high ∷ low ∷ text)
    ∙ ap octets_of_all (slice_split-cons_no is_backslash high (low ∷ text) other.0 ∙ ap (onto_first high) (slice_split-cons_no is_backslash low text other.1))
    ∙ escape-onto high low octet (slice_split is_backslash text) is

-- no escape has fewer digits than two
pub no_octet : (digits : List ℕ) → length digits < 2 → octet_of digits ≡ None
no_octet [] short = refl
no_octet (digit ∷ []) short = grind (arith, nat_tests)
no_octet (high ∷ low ∷ digits) short = absurd (omega arith)

-- a part that begins with no escape
refused-by : (part : List ℕ) (parts : List (List ℕ)) → octet_of (take 2 part) ≡ None → octets_of_all (part ∷ parts) ≡ None
refused-by part parts none = rw none refl

refused-one : (digit : ℕ) (is : Bool) → octets_of_all (cond is ([] ∷ [] ∷ []) ((digit ∷ []) ∷ [])) ≡ None
refused-one digit true = refl
refused-one digit false = refused-by (digit ∷ []) [] (no_octet (digit ∷ []) (omega arith))

refused-onto : (high low : ℕ) (parts : List (List ℕ)) → octet_of (high ∷ low ∷ []) ≡ None → octets_of_all (onto_first high (onto_first low parts)) ≡ None
refused-onto high low [] none = refused-by (high ∷ low ∷ []) [] none
refused-onto high low (part ∷ parts) none = refused-by (high ∷ low ∷ part) parts none

refused-two : (high low : ℕ) (parts : List (List ℕ)) (is_high is_low : Bool) → octet_of (high ∷ low ∷ []) ≡ None
    → octets_of_all (cond is_high ([] ∷ cond is_low ([] ∷ parts) (onto_first low parts)) (onto_first high (cond is_low ([] ∷ parts) (onto_first low parts)))) ≡ None
refused-two high low parts true is_low none = refl
refused-two high low parts false true none = refused-by (high ∷ []) parts (no_octet (high ∷ []) (omega arith))
refused-two high low parts false false none = refused-onto high low parts none

refused : (text : List ℕ) → octet_of (take 2 text) ≡ None → octets_of_all (slice_split is_backslash text) ≡ None
refused [] none = refl
refused (digit ∷ []) none = refused-one digit (digit == 92)
refused (high ∷ low ∷ text) none = refused-two high low (slice_split is_backslash text) (high == 92) (low == 92) none

-- another backslash is refused
pub read_back-refused : (text : List ℕ) → octet_of (take 2 text) ≡ None → read_back (92 ∷ text) ≡ None
read_back-refused text none = behind text ∙ refused text none

-- the same of a text that is cut behind two digits
pub read_back-cut : (text digits rest : List ℕ) (octet : ℕ) → 2 ≤ length text → digits ≡ take 2 text → rest ≡ drop 2 text → octet_of digits ≡ Some octet
    → read_back (92 ∷ text) ≡ option_map (λ more. octet ∷ more) (read_back rest)
read_back-cut [] digits rest octet long front back is = absurd (omega arith)
read_back-cut (digit ∷ []) digits rest octet long front back is = absurd (omega arith)
read_back-cut (high ∷ low ∷ text) digits rest octet long front back is =
    rw back (read_back-escape high low octet text (ap octet_of (sym front) ∙ is))

-- a text that has no two octets behind a backslash
pub read_back-short : (text : List ℕ) → length text < 2 → read_back (92 ∷ text) ≡ None
read_back-short [] short = read_back-refused [] (no_octet [] short)
read_back-short (digit ∷ []) short = read_back-refused (digit ∷ []) (no_octet (digit ∷ []) short)
read_back-short (high ∷ low ∷ text) short = absurd (omega arith)

-- one octet more of all that a text stands for
pub read_back-more : (text rest : List ℕ) (before : List ℕ) (octet : ℕ) (whole : Option (List ℕ)) → whole ≡ option_map (λ more. before ++ more) (read_back text)
    → read_back text ≡ option_map (λ more. octet ∷ more) (read_back rest) → whole ≡ option_map (λ more. (before ++ octet ∷ []) ++ more) (read_back rest)
read_back-more text rest before octet whole is more = is ∙ ap (option_map (λ more. before ++ more)) more ∙ more-by before octet (read_back rest)
  where
    more-by : (before : List ℕ) (octet : ℕ) (rest : Option (List ℕ)) → option_map (λ more. before ++ more) (option_map (λ more. octet ∷ more) rest) ≡ option_map (λ more. (before ++ octet ∷ []) ++ more) rest
    more-by before octet None = refl
    more-by before octet (Some rest) = ap Some (sym (append_assoc before (octet ∷ []) rest))

-- nothing is left
pub read_back-end : (before : List ℕ) (text : List ℕ) → length text ≡ 0 → option_map (λ more. before ++ more) (read_back text) ≡ Some before
unfolding read_back
read_back-end before [] empty = ap Some (append-nil before)
read_back-end before (octet ∷ text) empty = absurd (omega arith)
