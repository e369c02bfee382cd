-- Which octets the classes are.
use Rattle.std.proofs.Common.{◌≡◌, ◌<◌, ℕ, Bool, true, false, arith}
use Rattle.std.specs.Prelude.{◌==◌}
use Rattle.std.specs.Char.{digit_value}
use Rattle.std.proofs.lemmas.Bool.Decides.{nat_tests}
use Rattle.dn_names.specs.declared.classes.Class.{Class}
use Rattle.dn_names.specs.declared.classes.Class.TheVariants.{HexLetter, Letter, Zero, Digit, Dash, Dot}
use Rattle.dn_names.specs.Classes.{class_of, is_space, is_equals, is_plus, is_comma, is_backslash, is_hex, is_plain, is_escapable}
use Rattle.dn_names.specs.Reading.{hex_value}

-- a class has the one octet that it is named for
pub space_is : (x : ℕ) → is_space (class_of x) ≡ true → x ≡ 32
unfolding class_of
space_is x h = grind (arith, nat_tests)

pub equals_is : (x : ℕ) → is_equals (class_of x) ≡ true → x ≡ 61
unfolding class_of
equals_is x h = grind (arith, nat_tests)

pub plus_is : (x : ℕ) → is_plus (class_of x) ≡ true → x ≡ 43
unfolding class_of
plus_is x h = grind (arith, nat_tests)

pub comma_is : (x : ℕ) → is_comma (class_of x) ≡ true → x ≡ 44
unfolding class_of
comma_is x h = grind (arith, nat_tests)

pub backslash_is : (x : ℕ) → is_backslash (class_of x) ≡ true → x ≡ 92
unfolding class_of
backslash_is x h = grind (arith, nat_tests)

-- a hexadecimal digit stands for less than 16
pub hex_value_is : (x : ℕ) → is_hex (class_of x) ≡ true → hex_value x ≡ digit_value x
unfolding class_of
hex_value_is x h = grind (arith, nat_tests)

pub hex_below : (x : ℕ) → is_hex (class_of x) ≡ true → digit_value x < 16
unfolding class_of
hex_below x h = grind (arith, nat_tests)

-- an octet with the mark's class is no plain octet
pub plain_other : (x : ℕ) → is_plain (class_of x) ≡ true → ((x == 43) ≡ false) × ((x == 44) ≡ false) × ((x == 92) ≡ false)
unfolding class_of
plain_other x h = (grind (arith, nat_tests), grind (arith, nat_tests), grind (arith, nat_tests))

pub hex_other : (x : ℕ) → is_hex (class_of x) ≡ true → ((x == 43) ≡ false) × ((x == 44) ≡ false) × ((x == 92) ≡ false)
unfolding class_of
hex_other x h = (grind (arith, nat_tests), grind (arith, nat_tests), grind (arith, nat_tests))

-- an octet that may stand behind a backslash is no hexadecimal digit
pub escapable_no_hex : (x : ℕ) → is_escapable (class_of x) ≡ true → is_hex (class_of x) ≡ false
unfolding class_of
escapable_no_hex x h = grind (arith, nat_tests)

-- the classes of a type's octets: letters, digits, hyphens and dots
abbrev pub is_kind : Class → Bool
is_kind HexLetter = true
is_kind Letter = true
is_kind Zero = true
is_kind Digit = true
is_kind Dash = true
is_kind Dot = true
is_kind k = false

pub kind_other : (x : ℕ) → is_kind (class_of x) ≡ true → ((x == 32) ≡ false) × ((x == 43) ≡ false) × ((x == 44) ≡ false) × ((x == 61) ≡ false) × ((x == 92) ≡ false)
unfolding class_of
kind_other x h = (grind (arith, nat_tests), grind (arith, nat_tests), grind (arith, nat_tests), grind (arith, nat_tests), grind (arith, nat_tests))
