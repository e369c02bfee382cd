-- Numbers among the words: the function, the relation, and what std's `parse` gives.
use Rattle.std.proofs.Common.{◌≡◌, ℕ, ◌<◌, ◌≤◌, ◌^◌, Bool, true, false, ltb, leb, ◌&&◌, List, [], ◌∷◌, length, slice_get, cond, Option, Some, None, Result, Ok, Err, option_and_then, sym, refl, subst, arith}
use Rattle.std.proofs.lemmas.Bool.{ltb-true, lt-ltb, leb-true, le-leb, and_parts, and_from}
use Rattle.std.proofs.lemmas.Option.{same_Some, cond_some}
use Rattle.std.proofs.lemmas.Str.Parse.{parse_digits}
use Rattle.std.specs.Char.{is_ascii_digit}
use Rattle.std.specs.List.{list_all}
use Rattle.std.specs.Result.{result_ok}
use Rattle.std.specs.Str.Parse.{digits_value, ParsesUnsigned}
use Rattle.command_words.specs.declared.number.NumberRange.{NumberRange}
use Rattle.command_words.specs.Number.{IsNumber, IsNumberWithin, SaysNumber, has_form, number_of, number_said, number_within, value_within}
use Rattle.plain_values.proofs.Theorems.{decimal_numerals}

record Form (text : List ℕ) : Type 0 where
  some : 1 ≤ length text
  short : length text ≤ 20
  digits : list_all is_ascii_digit text ≡ true

form_of : (text : List ℕ) → has_form text ≡ true → Form text
form_of text has =
    let outer = and_parts _ _ has in
    let inner = and_parts (leb (length text) 20) (list_all is_ascii_digit text) outer.1 in
    record { some = leb-true 1 (length text) outer.0; short = leb-true (length text) 20 inner.0; digits = inner.1 }

-- the function gives what the relation says
pub number_of-sound : (text : List ℕ) (value : ℕ) → number_of text ≡ Some value → IsNumber text value
unfolding number_of
number_of-sound text value given =
    let tests = cond_some (has_form text && ltb (digits_value 10 text) (2 ^ 64)) (digits_value 10 text) value given in
    let parts = and_parts (has_form text) (ltb (digits_value 10 text) (2 ^ 64)) tests.0 in
    let form = form_of text parts.0 in
    let below : digits_value 10 text < 2 ^ 64 = ltb-true _ _ parts.1 in
    record { digits = form.digits; some = form.some; short = form.short; exact = tests.1; small = subst (λ (n : ℕ). n < 2 ^ 64) tests.1 below }

-- and all of it
pub number_of-complete : (text : List ℕ) (value : ℕ) → IsNumber text value → number_of text ≡ Some value
unfolding number_of
number_of-complete text value is =
    let form : has_form text ≡ true = and_from (leb 1 (length text)) _ (le-leb _ _ is.some) (and_from (leb (length text) 20) _ (le-leb _ _ is.short) is.digits) in
    let below : ltb (digits_value 10 text) (2 ^ 64) ≡ true = lt-ltb _ _ (subst (λ (n : ℕ). n < 2 ^ 64) (sym is.exact) is.small) in
    rw (form, below, is.exact) refl

-- a text of the form is parsed to its number
pub number_of-parsed : {E : Type 0} (text : List ℕ) (r : Result ℕ E) → has_form text ≡ true → ParsesUnsigned 64 10 text r → result_ok r ≡ number_of text
number_of-parsed {E} text (Ok value) has parses =
    let form = form_of text has in
    let gives = parse_digits decimal_numerals {E = E} 64 text (Ok value) parses form.digits in
    sym (number_of-complete text value (record { digits = form.digits; some = form.some; short = form.short; exact = sym gives.1; small = subst (λ (n : ℕ). n < 2 ^ 64) (sym gives.1) gives.0.1 }))
number_of-parsed {E} text (Err fault) has parses =
    let form = form_of text has in
    let fails = parse_digits decimal_numerals {E = E} 64 text (Err fault) parses form.digits in
    elim (number_of text) as (λ (o : Option ℕ). number_of text ≡ o → None ≡ o) [
      | None ↦ λ e. refl
      | Some value ↦ λ e. let is = number_of-sound text value e in absurd (fails (form.some, subst (λ (n : ℕ). n < 2 ^ 64) (sym is.exact) is.small))
    ] refl

-- a step after which something is there
pub and_then-some : {A B : Type 0} (f : A → Option B) (o : Option A) (y : B) → option_and_then f o ≡ Some y → (x : A) × (o ≡ Some x) × (f x ≡ Some y)
and_then-some f None y given = absurd (cc)
and_then-some f (Some x) y given = (x, refl, given)

-- numbers in a range
pub number_within-sound : (digits least greatest : ℕ) (text : List ℕ) (value : ℕ) → number_within digits least greatest text ≡ Some value → IsNumberWithin digits least greatest text value
unfolding number_within
number_within-sound digits least greatest text value given =
    let fits = some_of (leb (length text) digits) (option_and_then (value_within least greatest) (number_of text)) value given in
    let read = and_then-some (value_within least greatest) (number_of text) value fits.1 in
    let tests = cond_some (leb least read.0 && leb read.0 greatest) read.0 value read.2 in
    let both = and_parts (leb least read.0) (leb read.0 greatest) tests.0 in
    subst (IsNumberWithin digits least greatest text) tests.1 (record {
      number = number_of-sound text read.0 read.1;
      short = leb-true (length text) digits fits.0;
      reaches = leb-true least read.0 both.0;
      stays_below = leb-true read.0 greatest both.1;
    })
  where
    some_of : (b : Bool) (found : Option ℕ) (value : ℕ) → cond b found None ≡ Some value → (b ≡ true) × (found ≡ Some value)
    some_of true found value given = (refl, given)
    some_of false found value given = absurd (cc)

pub number_within-complete : (digits least greatest : ℕ) (text : List ℕ) (value : ℕ) → IsNumberWithin digits least greatest text value → number_within digits least greatest text ≡ Some value
unfolding number_within
number_within-complete digits least greatest text value is =
    rw (le-leb _ _ is.short, number_of-complete text value is.number, le-leb _ _ is.reaches, le-leb _ _ is.stays_below) refl

-- the number that an option's argument says, if it is given at most once
pub number_said-sound : (range : NumberRange) (texts : List (List ℕ)) (value : ℕ) → length texts ≤ 1 → number_said range (slice_get texts 0) ≡ Some value → SaysNumber range texts value
number_said-sound range [] value once given = sym (same_Some range.absent value given)
number_said-sound range (text ∷ []) value once given = number_within-sound 20 range.least range.greatest text value given
number_said-sound range (text ∷ again ∷ more) value once given = absurd (omega (arith, once))

pub number_said-complete : (range : NumberRange) (texts : List (List ℕ)) (value : ℕ) → SaysNumber range texts value → number_said range (slice_get texts 0) ≡ Some value
number_said-complete range [] value says = rw says refl
number_said-complete range (text ∷ []) value says = number_within-complete 20 range.least range.greatest text value says
number_said-complete range (text ∷ again ∷ more) value says = absurd says

-- a number that is said is within the range
pub number_said-within : (range : NumberRange) (text : Option (List ℕ)) (value : ℕ) → range.absent ≤ range.greatest → number_said range text ≡ Some value → value ≤ range.greatest
number_said-within range None value within given = subst (λ number. number ≤ range.greatest) (same_Some range.absent value given) within
number_said-within range (Some text) value within given = (number_within-sound 20 range.least range.greatest text value given).stays_below
