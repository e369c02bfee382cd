-- The dotted form as a grammar and as a test.
use Rattle.std.proofs.Common.{◌≡◌, ℕ, ◌<◌, ◌≤◌, true, false, not, ◌||◌, ◌==◌, nat_lt, nat_le, List, [], ◌∷◌, length, All, slice_index, refl, ap, sym, ◌∙◌, arith}
use Rattle.std.specs.Char.{IsAsciiDigit, is_ascii_digit}
use Rattle.std.specs.Cmp.Derive.{both_true}
use Rattle.std.specs.List.{list_all, join_with_byte}
use Rattle.std.proofs.lemmas.Bool.Decides.{nat_tests}
use Rattle.std.proofs.lemmas.List.Elements.{All-head, All-tail, All-weaker}
use Rattle.std.proofs.lemmas.List.Sums.{AllPass-from_list_all, list_all-from_AllPass}
use Rattle.std.proofs.lemmas.List.Splits.{slice_split_none, slice_split_at, join_with_byte-slice_split}
use Rattle.std.proofs.lemmas.Bool.{and_parts}
use Rattle.schema_tables.specs.Oids.{IsNumber, IsDottedOid, is_number, is_dotted_oid, parts}

-- a digit is what the test of digits passes
pub digit_passes : (c : ℕ) → IsAsciiDigit c → is_ascii_digit c ≡ true
digit_passes c digit = grind (arith, nat_tests)

pub passes_digit : (c : ℕ) → is_ascii_digit c ≡ true → IsAsciiDigit c
passes_digit c passes = grind (arith, nat_tests)

-- the last part of the test of numbers, from its fact and back
zero_alone : (size first : ℕ) → ((first ≡ 48) → size ≡ 1) → (size == 1 || not (first == 48)) ≡ true
zero_alone size first alone = grind (arith, nat_tests)

alone_zero : (size first : ℕ) → (size == 1 || not (first == 48)) ≡ true → (first ≡ 48) → size ≡ 1
alone_zero size first alone zero = grind (arith, nat_tests)

-- some digit, as a test and as a fact
some_passes : (size : ℕ) → 0 < size → nat_lt 0 size ≡ true
some_passes size some = grind (arith, nat_tests)

passes_some : (size : ℕ) → nat_lt 0 size ≡ true → 0 < size
passes_some size some = grind (arith, nat_tests)

-- a number passes the test of numbers
number_passes : (digits : List ℕ) → IsNumber digits → is_number digits ≡ true
number_passes digits number =
    both_true
    (both_true (some_passes (length digits) number.some)
    (list_all-from_AllPass is_ascii_digit digits (All-weaker _ _ digit_passes digits number.all)))
    (zero_alone (length digits) (slice_index digits 0) number.no_leading_zero)

-- what passes the test of numbers is a number
passes_number : (digits : List ℕ) → is_number digits ≡ true → IsNumber digits
passes_number digits passes =
    let front = (and_parts _ _ passes).0 in
    record {
      some = passes_some (length digits) (and_parts _ _ front).0;
      all = All-weaker _ _ passes_digit digits (AllPass-from_list_all is_ascii_digit digits (and_parts _ _ front).1);
      no_leading_zero = alone_zero (length digits) (slice_index digits 0) (and_parts _ _ passes).1;
    }

-- no digit is a dot
no_dot : (c : ℕ) → IsAsciiDigit c → (c == 46) ≡ false
no_dot c digit = grind (arith, nat_tests)

-- numbers that are joined by dots are cut at those dots
parts-join :
    (numbers : List (List ℕ)) → 0 < length numbers → All IsNumber numbers
    → parts (join_with_byte 46 numbers) ≡ numbers
parts-join [] some every = absurd (omega arith)
parts-join (number ∷ []) some every =
    slice_split_none _ number (All-weaker _ _ no_dot number (All-head IsNumber number [] every).all)
parts-join (number ∷ next ∷ numbers) some every =
    slice_split_at _ number 46 (join_with_byte 46 (next ∷ numbers))
    (All-weaker _ _ no_dot number (All-head IsNumber number (next ∷ numbers) every).all) refl
    ∙ ap (λ rest. number ∷ rest)
    (parts-join (next ∷ numbers) (omega arith) (All-tail IsNumber number (next ∷ numbers) every))

-- at least two, as a test and as a fact
two_pass : (size : ℕ) → 2 ≤ size → nat_le 2 size ≡ true
two_pass size two = grind (arith, nat_tests)

pass_two : (size : ℕ) → nat_le 2 size ≡ true → 2 ≤ size
pass_two size two = grind (arith, nat_tests)

-- the grammar's texts pass the test
pub is_dotted_oid-from : (text : List ℕ) → IsDottedOid text → is_dotted_oid text ≡ true
unfolding is_dotted_oid
is_dotted_oid-from text dotted =
    let cut : parts text ≡ dotted.0 = ap parts dotted.3 ∙ parts-join dotted.0 (omega (arith, dotted.1)) dotted.2 in
    both_true
    (ap (λ numbers. nat_le 2 (length numbers)) cut ∙ two_pass (length dotted.0) dotted.1)
    (ap (list_all is_number) cut
    ∙ list_all-from_AllPass is_number dotted.0 (All-weaker _ _ number_passes dotted.0 dotted.2))

-- what passes the test is a text of the grammar
pub IsDottedOid-from : (text : List ℕ) → is_dotted_oid text ≡ true → IsDottedOid text
unfolding is_dotted_oid
IsDottedOid-from text passes =
    let two = (and_parts _ _ passes).0 in
    let every = (and_parts _ _ passes).1 in (
      parts text,
      pass_two (length (parts text)) two,
      All-weaker _ _ passes_number (parts text) (AllPass-from_list_all is_number (parts text) every),
      sym (join_with_byte-slice_split 46 text),
    )
