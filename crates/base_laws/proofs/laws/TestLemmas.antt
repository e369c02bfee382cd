-- Tests that are joined or that choose, and orderings.
use Rattle.std.proofs.Common.{◌≡◌, ℕ, suc, ◌==◌, Bool, true, false, ◌&&◌, List, if◌then◌else◌, refl, sym, ◌∙◌, arith, Ordering}
use Rattle.std.specs.Str.{bytes_eq}
use Rattle.std.proofs.lemmas.Bool.{false_from_ne_true, true≢false}
use Rattle.std.proofs.lemmas.Bool.Decides.{nat_tests}
use Rattle.std.proofs.lemmas.Slice.Eq.{bytes_eq-Decides}
use Rattle.std.specs.Ordering.{is_eq, ordering_then}
use Rattle.std.specs.declared.cmp.Ordering.TheVariants.{Less, Equal, Greater}

-- a conjunction whose middle part fails fails
pub and_middle : (a b c : Bool) → b ≡ false → (a && (b && c)) ≡ false
and_middle true true c e = absurd cc
and_middle true false c e = refl
and_middle false b c e = refl

-- a test that holds chooses the first, one that fails the second
pub choose : {A : Type 0} (test : Bool) (found other : A) → test ≡ true → (if test then found else other) ≡ found
choose true found other holds = refl
choose false found other holds = cc holds

pub other_choice : {A : Type 0} (test : Bool) (found other : A) → test ≡ false → (if test then found else other) ≡ other
other_choice true found other fails = cc fails
other_choice false found other fails = refl

-- numbers that are apart are so in either order
pub number_apart : (one other : ℕ) → (one == other) ≡ false → (other == one) ≡ false
number_apart one other apart = grind (arith, nat_tests)

pub suc_not_zero : (n : ℕ) → (suc n == 0) ≡ false
suc_not_zero n = grind (arith, nat_tests)

-- texts that are apart are so in either order
pub text_apart : (one other : List ℕ) → bytes_eq one other ≡ false → bytes_eq other one ≡ false
text_apart one other apart = false_from_ne_true (bytes_eq other one) (λ same.
    let is : other ≡ one = (bytes_eq-Decides other one).0 same in
    true≢false (sym ((bytes_eq-Decides one other).1 (sym is)) ∙ apart))

-- the ordering that is_eq names
pub is_equal : (o : Ordering) → is_eq o ≡ true → o ≡ Equal
is_equal Less e = absurd cc
is_equal Equal e = refl
is_equal Greater e = absurd cc

-- what ties the whole ties both parts
pub both_equal : (a b : Ordering) → ordering_then a b ≡ Equal → (a ≡ Equal) × (b ≡ Equal)
both_equal Less b e = absurd cc
both_equal Equal b e = (refl, e)
both_equal Greater b e = absurd cc
