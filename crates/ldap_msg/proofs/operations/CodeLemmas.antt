-- The code of a code's number is the code, and the number of a number's code is the number.
use Rattle.std.proofs.Common.{◌≡◌, ℕ, ◌<◌, Bool, true, false, cond, eqb, ltb, refl, sym, ap, rules}
use Rattle.std.proofs.Math.Bool.{Bool-set}
use Rattle.std.proofs.lemmas.Bool.{eqb-true, lt-ltb}
use Rattle.ldap_msg.specs.declared.operations.ResultCode.{ResultCode}
use Rattle.ldap_msg.specs.declared.operations.ResultCode.TheVariants as code
use Rattle.ldap_msg.specs.operations.OtherCodes.{is_other_code}
use Rattle.ldap_msg.specs.operations.ResultCodes.{code_number, named_code, code_by, code_from}

other_by : (number : ℕ) (test : Bool) (is : is_other_code number ≡ test) (other : is_other_code number ≡ true)
    → code_by number test is ≡ code.Other (record { number = number; other = other })
other_by number true is other =
    ap (λ (o : is_other_code number ≡ true). code.Other (record { number = number; other = o })) (Bool-set (is_other_code number) true is other)
other_by number false is other = absurd cc

-- the code of a number that is another's
pub other_back : (number : ℕ) (other : is_other_code number ≡ true) → code_from number ≡ code.Other (record { number = number; other = other })
other_back number other = other_by number (is_other_code number) refl other

-- the code of a code's number is the code
pub code_back : (code : ResultCode) → code_from (code_number code) ≡ code
code_back (code.Other other) = other_back other.number other.other
code_back _ = refl

-- a code's number is below 128
pub code_bound : (code : ResultCode) → code_number code < 128
code_bound (code.Other other) = let is = other.other in search rules
code_bound _ = search rules

by_test : (number : ℕ) (first others : ResultCode) (left : Bool) → cond (eqb number (code_number first)) false left ≡ false
    → (left ≡ false → code_number others ≡ number) → code_number (cond (eqb number (code_number first)) first others) ≡ number
by_test number first others left none next = by (eqb number (code_number first)) refl none
  where
    by : (test : Bool) → eqb number (code_number first) ≡ test → cond test false left ≡ false → code_number (cond test first others) ≡ number
    by true is none = sym (eqb-true number (code_number first) is)
    by false is none = next none

last : (number : ℕ) → number < 128 → cond (eqb number 69) false (ltb number 128) ≡ false → 69 ≡ number
last number below none = by (eqb number 69) refl none
  where
    by : (test : Bool) → eqb number 69 ≡ test → cond test false (ltb number 128) ≡ false → 69 ≡ number
    by true is none = sym (eqb-true number 69 is)
    by false is none = let few = lt-ltb number 128 below in absurd cc

named_back : (number : ℕ) → number < 128 → is_other_code number ≡ false → code_number (named_code number) ≡ number
named_back number below is =
    by_test number code.Success _ _ is
    (λ e. by_test number code.ProtocolError _ _ e
    (λ e. by_test number code.SizeLimitExceeded _ _ e
    (λ e. by_test number code.CompareFalse _ _ e
    (λ e. by_test number code.CompareTrue _ _ e
    (λ e. by_test number code.AuthMethodNotSupported _ _ e
    (λ e. by_test number code.AdminLimitExceeded _ _ e
    (λ e. by_test number code.UnavailableCriticalExtension _ _ e
    (λ e. by_test number code.NoSuchAttribute _ _ e
    (λ e. by_test number code.UndefinedAttributeType _ _ e
    (λ e. by_test number code.InappropriateMatching _ _ e
    (λ e. by_test number code.ConstraintViolation _ _ e
    (λ e. by_test number code.AttributeOrValueExists _ _ e
    (λ e. by_test number code.InvalidAttributeSyntax _ _ e
    (λ e. by_test number code.NoSuchObject _ _ e
    (λ e. by_test number code.InvalidDnSyntax _ _ e
    (λ e. by_test number code.InvalidCredentials _ _ e
    (λ e. by_test number code.InsufficientAccessRights _ _ e
    (λ e. by_test number code.UnwillingToPerform _ _ e
    (λ e. by_test number code.NamingViolation _ _ e
    (λ e. by_test number code.ObjectClassViolation _ _ e
    (λ e. by_test number code.NotAllowedOnNonLeaf _ _ e
    (λ e. by_test number code.NotAllowedOnRdn _ _ e
    (λ e. by_test number code.EntryAlreadyExists _ _ e
    (λ e. last number below e))))))))))))))))))))))))

number_by : (number : ℕ) (test : Bool) (is : is_other_code number ≡ test) → number < 128 → code_number (code_by number test is) ≡ number
number_by number true is below = refl
number_by number false is below = named_back number below is

-- the number of the code of a number below 128 is the number
pub number_back : (number : ℕ) → number < 128 → code_number (code_from number) ≡ number
number_back number below = number_by number (is_other_code number) refl below
