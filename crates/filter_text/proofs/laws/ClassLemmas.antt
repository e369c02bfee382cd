-- Which octets the classes are.
use Rattle.std.proofs.Common.{◌≡◌, ℕ, Bool, true, false, refl, sym, ap, ◌∙◌, arith}
use Rattle.std.specs.Prelude.{◌==◌}
use Rattle.std.proofs.lemmas.Bool.{eqb-true, false≢true, false_from_ne_true}
use Rattle.std.proofs.lemmas.Bool.Decides.{nat_tests}
use Rattle.filter_text.specs.declared.classes.Class.{Class}
use Rattle.filter_text.specs.declared.classes.Class.TheVariants.{Open, Close, Ampersand, Vertbar, Exclamation}
use Rattle.filter_text.specs.Classes.{class_of}

abbrev pub is_open : Class → Bool
is_open Open = true
is_open class = false

abbrev pub is_close : Class → Bool
is_close Close = true
is_close class = false

abbrev is_ampersand : Class → Bool
is_ampersand Ampersand = true
is_ampersand class = false

abbrev is_vertbar : Class → Bool
is_vertbar Vertbar = true
is_vertbar class = false

abbrev is_exclamation : Class → Bool
is_exclamation Exclamation = true
is_exclamation class = false

-- a class has the one octet that it is named for
open_is : (x : ℕ) → is_open (class_of x) ≡ true → x ≡ 40
unfolding class_of
open_is x h = grind (arith, nat_tests)

close_is : (x : ℕ) → is_close (class_of x) ≡ true → x ≡ 41
unfolding class_of
close_is x h = grind (arith, nat_tests)

ampersand_is : (x : ℕ) → is_ampersand (class_of x) ≡ true → x ≡ 38
unfolding class_of
ampersand_is x h = grind (arith, nat_tests)

vertbar_is : (x : ℕ) → is_vertbar (class_of x) ≡ true → x ≡ 124
unfolding class_of
vertbar_is x h = grind (arith, nat_tests)

exclamation_is : (x : ℕ) → is_exclamation (class_of x) ≡ true → x ≡ 33
unfolding class_of
exclamation_is x h = grind (arith, nat_tests)

-- the octet is the one of the class, for the classes of marks outside items
abbrev pub IsOctetOf : Class → ℕ → Type 0
IsOctetOf Open x = x ≡ 40
IsOctetOf Close x = x ≡ 41
IsOctetOf Ampersand x = x ≡ 38
IsOctetOf Vertbar x = x ≡ 124
IsOctetOf Exclamation x = x ≡ 33
IsOctetOf class x = Unit {0}

pub octet_of : (class : Class) (x : ℕ) → class_of x ≡ class → IsOctetOf class x
octet_of Open x e = open_is x (ap is_open e)
octet_of Close x e = close_is x (ap is_close e)
octet_of Ampersand x e = ampersand_is x (ap is_ampersand e)
octet_of Vertbar x e = vertbar_is x (ap is_vertbar e)
octet_of Exclamation x e = exclamation_is x (ap is_exclamation e)
octet_of class x e = tt

-- a test of the octet is a test of its class
pub open_octet : (x : ℕ) → (x == 40) ≡ is_open (class_of x)
unfolding class_of
open_octet x =
    elim (x == 40) as (λ b. (x == 40) ≡ b → b ≡ is_open (class_of x)) [
      | true ↦ λ e. ap (λ (y : ℕ). is_open (class_of y)) (sym (eqb-true x 40 e))
      | false ↦ λ e. sym (false_from_ne_true (is_open (class_of x)) (λ o. false≢true (sym e ∙ ap (λ (y : ℕ). y == 40) (open_is x o))))
    ] refl

pub close_octet : (x : ℕ) → (x == 41) ≡ is_close (class_of x)
unfolding class_of
close_octet x =
    elim (x == 41) as (λ b. (x == 41) ≡ b → b ≡ is_close (class_of x)) [
      | true ↦ λ e. ap (λ (y : ℕ). is_close (class_of y)) (sym (eqb-true x 41 e))
      | false ↦ λ e. sym (false_from_ne_true (is_close (class_of x)) (λ o. false≢true (sym e ∙ ap (λ (y : ℕ). y == 41) (close_is x o))))
    ] refl
