-- The type of an item is what stands before its operator.
use Rattle.std.proofs.Common.{◌≡◌, ℕ, ◌+◌, Bool, true, false, not, List, [], ◌∷◌, ◌++◌, length, take, drop, refl, ap, ◌∙◌, arith}
use Rattle.std.specs.Prelude.{cond}
use Rattle.std.specs.List.{AllByRecursion}
use Rattle.std.proofs.lemmas.Bool.Decides.{nat_tests}
use Rattle.regular_text.specs.Grammar.{Matches}
use Rattle.regular_text.proofs.Theorems.{Matches-AllByRecursion}
use Rattle.filter_text.specs.declared.classes.Class.{Class}
use Rattle.filter_text.specs.declared.classes.Class.TheVariants.{Equals, Sign}
use Rattle.filter_text.specs.Classes.{class_of, is_letter, is_word, is_zero, is_nonzero, is_digit, is_dot}
use Rattle.filter_text.specs.ItemGrammar.{kind}
use Rattle.filter_text.specs.Items.{asserted, is_operator, kind_size, item_of}

-- a class of which no operator begins
abbrev no_operator : Class → Bool
no_operator Equals = false
no_operator Sign = false
no_operator class = true

letter-type : (class : Class) → is_letter class ≡ true → no_operator class ≡ true
letter-type Equals h = absurd cc
letter-type Sign h = absurd cc
letter-type class h = refl

word-type : (class : Class) → is_word class ≡ true → no_operator class ≡ true
word-type Equals h = absurd cc
word-type Sign h = absurd cc
word-type class h = refl

zero-type : (class : Class) → is_zero class ≡ true → no_operator class ≡ true
zero-type Equals h = absurd cc
zero-type Sign h = absurd cc
zero-type class h = refl

nonzero-type : (class : Class) → is_nonzero class ≡ true → no_operator class ≡ true
nonzero-type Equals h = absurd cc
nonzero-type Sign h = absurd cc
nonzero-type class h = refl

digit-type : (class : Class) → is_digit class ≡ true → no_operator class ≡ true
digit-type Equals h = absurd cc
digit-type Sign h = absurd cc
digit-type class h = refl

dot-type : (class : Class) → is_dot class ≡ true → no_operator class ≡ true
dot-type Equals h = absurd cc
dot-type Sign h = absurd cc
dot-type class h = refl

octet-type : (x : ℕ) → no_operator (class_of x) ≡ true → is_operator x ≡ false
unfolding class_of
octet-type x h = grind (arith, nat_tests)

kind-size : (front rest : List ℕ) (sign : ℕ) → is_operator sign ≡ true → AllByRecursion (λ x. no_operator (class_of x) ≡ true) front → kind_size (front ++ sign ∷ rest) ≡ length front
kind-size [] rest sign e all = ap (λ b. cond (not b) (1 + kind_size rest) 0) e
kind-size (x ∷ xs) rest sign e (h, all) =
    let more = kind-size xs rest sign e all in
    let one : cond (not (is_operator x)) (1 + kind_size (xs ++ sign ∷ rest)) 0 ≡ 1 + kind_size (xs ++ sign ∷ rest) = ap (λ b. cond (not b) (1 + kind_size (xs ++ sign ∷ rest)) 0) (octet-type x h) in
    omega (arith, one, more)

take-seam : (front rest : List ℕ) → take (length front) (front ++ rest) ≡ front
take-seam [] rest = refl
take-seam (x ∷ xs) rest = ap (λ (s : List ℕ). x ∷ s) (take-seam xs rest)

drop-seam : (front rest : List ℕ) → drop (length front) (front ++ rest) ≡ rest
drop-seam [] rest = refl
drop-seam (x ∷ xs) rest = drop-seam xs rest

-- an item says what stands behind its type
pub item_of-cut : (front rest : List ℕ) (sign : ℕ) → Matches class_of kind front → is_operator sign ≡ true → item_of (front ++ sign ∷ rest) ≡ asserted front (sign ∷ rest)
unfolding item_of
item_of-cut front rest sign m e =
    let all = Matches-AllByRecursion class_of no_operator kind front ((letter-type, word-type), ((zero-type, (nonzero-type, digit-type)), ((dot-type, (zero-type, (nonzero-type, digit-type))), (dot-type, (zero-type, (nonzero-type, digit-type)))))) m in
    let size = kind-size front rest sign e all in
    ap (λ (n : ℕ). asserted (take n (front ++ sign ∷ rest)) (drop n (front ++ sign ∷ rest))) size
    ∙ ap (λ (s : List ℕ). asserted s (drop (length front) (front ++ sign ∷ rest))) (take-seam front (sign ∷ rest))
    ∙ ap (λ (s : List ℕ). asserted front s) (drop-seam front (sign ∷ rest))
