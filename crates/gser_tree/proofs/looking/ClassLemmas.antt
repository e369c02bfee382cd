-- The octets of the classes, words and doubled quotation marks.
use Rattle.std.proofs.Common.{◌≡◌, ℕ, List, [], ◌∷◌, ◌++◌, Bool, true, false, refl, sym, ap, ◌∙◌, arith}
use Rattle.std.specs.Prelude.{◌==◌, if◌then◌else◌}
use Rattle.std.specs.List.{list_all}
use Rattle.std.proofs.lemmas.Bool.Decides.{nat_tests}
use Rattle.std.proofs.lemmas.Bool.{and_parts, and_from}
use Rattle.gser_tree.specs.Strings.{doubled}
use Rattle.gser_tree.specs.declared.marks.Mark.{Mark}
use Rattle.gser_tree.specs.declared.marks.Mark.TheVariants.{Open, Close, Comma, Colon}
use Rattle.gser_tree.specs.declared.marks.Class.{Class}
use Rattle.gser_tree.specs.declared.marks.Class.TheVariants.{Blank, Letter, Quote, Sign}
use Rattle.gser_tree.specs.Lexemes.{class_of, octet_of, is_letter, is_word}

-- the octets of the classes
pub blank_is : (x : ℕ) → class_of x ≡ Blank → x ≡ 32
unfolding class_of
blank_is x h = grind (arith, nat_tests)

pub quote_is : (x : ℕ) → class_of x ≡ Quote → x ≡ 34
unfolding class_of
quote_is x h = grind (arith, nat_tests)

pub sign_is : (x : ℕ) (mark : Mark) → class_of x ≡ Sign mark → x ≡ octet_of mark
unfolding class_of
sign_is x Open h = grind (arith, nat_tests)
sign_is x Close h = grind (arith, nat_tests)
sign_is x Comma h = grind (arith, nat_tests)
sign_is x Colon h = grind (arith, nat_tests)

pub mark_class : (mark : Mark) → class_of (octet_of mark) ≡ Sign mark
unfolding class_of
mark_class Open = refl
mark_class Close = refl
mark_class Comma = refl
mark_class Colon = refl

pub blank_class : class_of 32 ≡ Blank
unfolding class_of
blank_class = refl

pub quote_class : class_of 34 ≡ Quote
unfolding class_of
quote_class = refl

-- a quotation mark has the class of no other octet
pub not_quote : (x : ℕ) (class : Class) → class_of x ≡ class → (class ≡ Quote → ⊥) → (x == 34) ≡ false
unfolding class_of
not_quote x class is other =
    elim (x == 34) as (λ b. (x == 34) ≡ b → b ≡ false) [
      | false ↦ λ _. refl
      | true ↦ λ e. absurd (other (let at : x ≡ 34 = grind (arith, nat_tests) in sym is ∙ ap class_of at ∙ quote_class))
    ] refl

-- octets of a word
abbrev pub are_letters : List ℕ → Bool
are_letters octets = list_all (λ x. is_letter (class_of x)) octets

pub are_letters-push : (text : List ℕ) (x : ℕ) → are_letters text ≡ true → class_of x ≡ Letter → are_letters (text ++ x ∷ []) ≡ true
are_letters-push [] x h is = and_from (is_letter (class_of x)) true (ap is_letter is) refl
are_letters-push (first ∷ text) x h is =
    let parts = and_parts (is_letter (class_of first)) (are_letters text) h in
    and_from (is_letter (class_of first)) (are_letters (text ++ x ∷ [])) parts.0 (are_letters-push text x parts.1 is)

-- a letter behind a word
pub is_word-push : (text : List ℕ) (x : ℕ) → is_word text ≡ true → class_of x ≡ Letter → is_word (text ++ x ∷ []) ≡ true
is_word-push [] x h is = cc
is_word-push (first ∷ text) x h is =
    let parts = and_parts (is_letter (class_of first)) (are_letters text) h in
    and_from (is_letter (class_of first)) (are_letters (text ++ x ∷ [])) parts.0 (are_letters-push text x parts.1 is)

pub doubled-push : (text : List ℕ) (x : ℕ) → doubled (text ++ x ∷ []) ≡ doubled text ++ doubled (x ∷ [])
doubled-push [] x = refl
doubled-push (first ∷ text) x = inner (first == 34) (doubled-push text x)
  where
    inner : (b : Bool) → doubled (text ++ x ∷ []) ≡ doubled text ++ doubled (x ∷ [])
        → (if b then 34 ∷ 34 ∷ doubled (text ++ x ∷ []) else first ∷ doubled (text ++ x ∷ []))
        ≡ (if b then 34 ∷ 34 ∷ doubled text else first ∷ doubled text) ++ doubled (x ∷ [])
    inner true h = ap (λ rest. 34 ∷ 34 ∷ rest) h
    inner false h = ap (λ rest. first ∷ rest) h

pub doubled-quote : (x : ℕ) → class_of x ≡ Quote → doubled (x ∷ []) ≡ 34 ∷ 34 ∷ []
doubled-quote x is = ap (λ o. doubled (o ∷ [])) (quote_is x is)

pub doubled-other : (x : ℕ) → (x == 34) ≡ false → doubled (x ∷ []) ≡ x ∷ []
doubled-other x is = rw is refl
