-- Lemmas on what one line says: reading gives an event exactly where the line is its text.
use Rattle.std.proofs.Common.{◌≡◌, ℕ, ◌<◌, ◌≤◌, ◌^◌, ◌==◌, ◌&&◌, sym, ◌∙◌, ap, subst, refl, arith, Bool, true, false, List, [], ◌∷◌, length, Option, Some, None, Result, Ok, Err, if◌then◌else◌, nat_le, nat_lt, suc}
use Rattle.std.specs.Char.{is_ascii_digit}
use Rattle.std.specs.List.{list_all}
use Rattle.std.specs.Str.Parse.{digits_value}
use Rattle.std.proofs.lemmas.Bool.{and_parts, and_from, leb-true, ltb-true, le-leb, lt-ltb}
use Rattle.std.proofs.lemmas.List.Sums.{AllPass-from_list_all, list_all-from_AllPass}
use Rattle.hex.specs.Hex.{decode_of}
use Rattle.hex.specs.declared.error.FromHexError.{FromHexError}
use Rattle.hex.proofs.HexLemmas.{decode_of-ok}
use Rattle.script_text.specs.declared.event.ScriptEvent.{ScriptEvent}
use Rattle.script_text.specs.declared.event.ScriptEvent.TheVariants.{Bytes}
use Rattle.script_text.specs.LineText.{IsNumber, IsHexadecimal}
use Rattle.script_text.specs.LineReading.{in_range, number_of, read_pairs, octets_of, sent}
use Rattle.base_laws.proofs.Theorems.{choose, other_choice, suc_not_zero}

-- what a test chose, where the other choice gives nothing
pub chosen : {A : Type 0} (test : Bool) (found : Option A) (value : A) → (if test then found else None) ≡ Some value → (test ≡ true) × (found ≡ Some value)
chosen true found value is = (refl, is)
chosen false found value is = cc is

-- the number in its range
in_range-some : (value number : ℕ) → in_range value ≡ Some number → (value ≡ number) × (1 ≤ value) × (value < 2 ^ 32)
in_range-some value number is =
    let found = chosen (nat_le 1 value && nat_lt value (2 ^ 32)) (Some value) number is in
    let both = and_parts (nat_le 1 value) (nat_lt value (2 ^ 32)) found.0 in
    (cc found.1, leb-true 1 value both.0, ltb-true value (2 ^ 32) both.1)

pub number_of-some : (digits : List ℕ) (number : ℕ) → number_of digits ≡ Some number → IsNumber digits number
unfolding number_of
number_of-some digits number is =
    let found = chosen (nat_le (length digits) 10 && list_all is_ascii_digit digits) (in_range (digits_value 10 digits)) number is in
    let both = and_parts (nat_le (length digits) 10) (list_all is_ascii_digit digits) found.0 in
    let value = in_range-some (digits_value 10 digits) number found.1 in
    record {
      digits_alone = AllPass-from_list_all is_ascii_digit digits both.1;
      at_most_ten = leb-true (length digits) 10 both.0;
      value = sym value.0;
      above_zero = subst (λ (n : ℕ). 1 ≤ n) value.0 value.1;
      fits = subst (λ (n : ℕ). n < 2 ^ 32) value.0 value.2;
    }

pub IsNumber-read : (digits : List ℕ) (number : ℕ) → IsNumber digits number → number_of digits ≡ Some number
unfolding number_of
IsNumber-read digits number is =
    let written = and_from _ _ (le-leb (length digits) 10 is.at_most_ten) (list_all-from_AllPass is_ascii_digit digits is.digits_alone) in
    let within = and_from _ _ (le-leb 1 number is.above_zero) (lt-ltb number (2 ^ 32) is.fits) in
    choose (nat_le (length digits) 10 && list_all is_ascii_digit digits) (in_range (digits_value 10 digits)) None written
    ∙ ap in_range (sym is.value)
    ∙ choose (nat_le 1 number && nat_lt number (2 ^ 32)) (Some number) None within

-- pairs of digits are read where decoding reads them
read_pairs-some : (read : Result (List ℕ) FromHexError) (octets : List ℕ) → read_pairs read ≡ Some octets → read ≡ Ok octets
read_pairs-some (Ok found) octets is = cc is
read_pairs-some (Err error) octets is = cc is

no_octets : (octets : List ℕ) → length octets ≡ 0 → octets ≡ []
no_octets [] none = refl
no_octets (octet ∷ octets) none = absurd (omega arith)

pub octets_of-some : (digits octets : List ℕ) → octets_of digits ≡ Some octets → IsHexadecimal digits octets
unfolding octets_of
octets_of-some [] octets is = cc is
octets_of-some (digit ∷ digits) octets is =
    let pairs = read_pairs-some (decode_of (digit ∷ digits)) octets (sym (other_choice (length (digit ∷ digits) == 0) None _ (suc_not_zero (length digits))) ∙ is) in
    record {
      pairs = pairs;
      filled = λ none. absurd (omega (arith, (decode_of-ok (digit ∷ digits) octets pairs).2, ap length none));
    }

pub IsHexadecimal-read : (digits octets : List ℕ) → IsHexadecimal digits octets → octets_of digits ≡ Some octets
unfolding octets_of
IsHexadecimal-read [] octets is = absurd (is.filled (no_octets octets (omega (arith, (decode_of-ok [] octets is.pairs).2))))
IsHexadecimal-read (digit ∷ digits) octets is =
    other_choice (length (digit ∷ digits) == 0) None _ (suc_not_zero (length digits)) ∙ ap read_pairs is.pairs

-- the event of `N HEX` has a number and octets
pub sent-some : (number : Option ℕ) (octets : Option (List ℕ)) (event : ScriptEvent) → sent number octets ≡ Some event
    → (n : ℕ) × (found : List ℕ) × (number ≡ Some n) × (octets ≡ Some found) × (event ≡ Bytes n found)
sent-some None octets event is = cc is
sent-some (Some n) None event is = cc is
sent-some (Some n) (Some found) event is = (n, found, refl, refl, cc is)

-- no digits write no octets
pub no_octets_read : octets_of [] ≡ None
unfolding octets_of
no_octets_read = refl
