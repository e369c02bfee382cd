-- A text and its first quotation mark.
use Rattle.std.proofs.Common.{◌≡◌, ℕ, ◌<◌, ◌≤◌, ◌+◌, suc, Bool, true, false, List, [], ◌∷◌, ◌++◌, length, take, drop, get_or, refl, sym, ap, ◌∙◌, subst, append_assoc, arith}
use Rattle.std.specs.Prelude.{◌==◌, not, if◌then◌else◌, cond}
use Rattle.std.specs.List.{before_first, after_first, position_or_len}
use Rattle.std.proofs.lemmas.List.{length-append}
use Rattle.gser_tree.specs.Strings.{doubled}

abbrev pub is_mark : ℕ → Bool
is_mark octet = octet == 34

-- a text that has a quotation mark
pub doubled_first : (text : List ℕ) → position_or_len is_mark text < length text
    → doubled text ≡ before_first is_mark text ++ 34 ∷ 34 ∷ doubled (after_first is_mark text)
doubled_first [] h = absurd (omega arith)
doubled_first (x ∷ text) h = inner (x == 34) h (doubled_first text)
  where
    inner : (b : Bool) → cond (not b) (1 + position_or_len is_mark text) 0 < length (x ∷ text)
        → (position_or_len is_mark text < length text → doubled text ≡ before_first is_mark text ++ 34 ∷ 34 ∷ doubled (after_first is_mark text))
        → (if b then 34 ∷ 34 ∷ doubled text else x ∷ doubled text)
        ≡ take (cond (not b) (1 + position_or_len is_mark text) 0) (x ∷ text)
        ++ 34 ∷ 34 ∷ doubled (drop (cond (not b) (1 + position_or_len is_mark text) 0 + 1) (x ∷ text))
    inner true h again = refl
    inner false h again =
        let place = position_or_len is_mark text in
        let one : suc place ≡ 1 + place = omega arith in
        let next : suc (place + 1) ≡ 1 + place + 1 = omega arith in
        ap (λ rest. x ∷ rest) (again (omega arith))
        ∙ ap (λ n. take n (x ∷ text) ++ 34 ∷ 34 ∷ doubled (drop (suc (place + 1)) (x ∷ text))) one
        ∙ ap (λ n. take (1 + place) (x ∷ text) ++ 34 ∷ 34 ∷ doubled (drop n (x ∷ text))) next

-- a text that has none
pub doubled_none : (text : List ℕ) → position_or_len is_mark text ≡ length text → doubled text ≡ text
doubled_none [] h = refl
doubled_none (x ∷ text) h = inner (x == 34) h (doubled_none text)
  where
    inner : (b : Bool) → cond (not b) (1 + position_or_len is_mark text) 0 ≡ length (x ∷ text)
        → (position_or_len is_mark text ≡ length text → doubled text ≡ text)
        → (if b then 34 ∷ 34 ∷ doubled text else x ∷ doubled text) ≡ x ∷ text
    inner true h again = absurd (omega arith)
    inner false h again = ap (λ rest. x ∷ rest) (again (omega arith))

-- what was written up to a quotation mark
pub joined : (out middle new before after rest : List ℕ) → middle ≡ out ++ before → new ≡ middle ++ 34 ∷ 34 ∷ []
    → position_or_len is_mark rest < length rest → before ≡ before_first is_mark rest → after ≡ after_first is_mark rest
    → new ++ doubled after ≡ out ++ doubled rest
joined out middle new before after rest one two within front back =
    let whole : before ++ 34 ∷ 34 ∷ doubled after ≡ doubled rest =
    ap (λ b. b ++ 34 ∷ 34 ∷ doubled after) front ∙ ap (λ a. before_first is_mark rest ++ 34 ∷ 34 ∷ doubled a) back ∙ sym (doubled_first rest within) in
    ap (λ n. n ++ doubled after) (two ∙ ap (λ m. m ++ 34 ∷ 34 ∷ []) one)
    ∙ append_assoc (out ++ before) (34 ∷ 34 ∷ []) (doubled after)
    ∙ append_assoc out before (34 ∷ 34 ∷ doubled after)
    ∙ ap (λ r. out ++ r) whole
