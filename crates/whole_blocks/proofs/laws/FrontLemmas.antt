-- Lemmas on the whole part of a text, by its octets.
use Rattle.std.proofs.Common.{◌≡◌, ℕ, ◌<◌, ◌==◌, sym, ◌∙◌, ap, refl, arith, true, false, List, [], ◌∷◌, ◌++◌, length}
use Rattle.std.specs.List.{list_all}
use Rattle.std.proofs.lemmas.Bool.{and_parts, not-true}
use Rattle.std.proofs.lemmas.List.{append_assoc}
use Rattle.whole_blocks.specs.Blocks.{is_within, begins_with_feed, ends_block, whole_before, whole_part}

-- what is found is found behind any octet
before-found : (octet : ℕ) (rest found : List ℕ) → 0 < length found → whole_before octet rest found ≡ octet ∷ found
before-found octet rest [] filled = absurd (omega arith)
before-found octet rest (first ∷ found) filled = refl

-- and behind any octets
filled_behind : (front found : List ℕ) → 0 < length found → 0 < length (front ++ found)
filled_behind [] found filled = filled
filled_behind (octet ∷ front) found filled = omega arith

pub whole-behind : (front rest : List ℕ) → 0 < length (whole_part rest) → whole_part (front ++ rest) ≡ front ++ whole_part rest
unfolding whole_part
whole-behind [] rest filled = refl
whole-behind (octet ∷ front) rest filled =
    ap (whole_before octet (front ++ rest)) (whole-behind front rest filled)
    ∙ before-found octet (front ++ rest) (front ++ whole_part rest) (filled_behind front (whole_part rest) filled)

-- where nothing is found, a block may end with the first octets
pub whole-nothing : (octet : ℕ) (rest : List ℕ) → whole_part rest ≡ [] → ends_block (octet ∷ rest) ≡ false → whole_part (octet ∷ rest) ≡ []
unfolding whole_part
whole-nothing octet rest none ends = ap (whole_before octet rest) none ∙ rw ends refl

pub whole-ends : (rest : List ℕ) → whole_part (10 ∷ rest) ≡ [] → whole_part (10 ∷ 10 ∷ rest) ≡ 10 ∷ 10 ∷ []
unfolding whole_part
whole-ends rest none = ap (whole_before 10 (10 ∷ rest)) none

pub whole-none : whole_part [] ≡ []
unfolding whole_part
whole-none = refl

-- an empty line behind any octets, and then others that don't begin with a line feed
whole-feeds : (rest found : List ℕ) → whole_part rest ≡ found → begins_with_feed rest ≡ false → whole_part (10 ∷ 10 ∷ rest) ≡ 10 ∷ 10 ∷ found
whole-feeds rest [] none begins = whole-ends rest (whole-nothing 10 rest none begins)
whole-feeds rest (octet ∷ found) is begins =
    whole-behind (10 ∷ 10 ∷ []) rest (filled-by rest octet found is) ∙ ap (λ more. 10 ∷ 10 ∷ more) is
  where
    filled-by : (rest : List ℕ) (octet : ℕ) (found : List ℕ) → whole_part rest ≡ octet ∷ found → 0 < length (whole_part rest)
    filled-by rest octet found is = omega (arith, ap length is)

feeds-filled : (rest found : List ℕ) → whole_part (10 ∷ 10 ∷ rest) ≡ 10 ∷ 10 ∷ found → 0 < length (whole_part (10 ∷ 10 ∷ rest))
feeds-filled rest found is = omega (arith, ap length is)

pub whole-block : (front rest : List ℕ) → begins_with_feed rest ≡ false → whole_part (front ++ 10 ∷ 10 ∷ rest) ≡ (front ++ 10 ∷ 10 ∷ []) ++ whole_part rest
whole-block front rest begins =
    let feeds = whole-feeds rest (whole_part rest) refl begins in
    whole-behind front (10 ∷ 10 ∷ rest) (feeds-filled rest (whole_part rest) feeds)
    ∙ ap (λ found. front ++ found) feeds
    ∙ sym (append_assoc front (10 ∷ 10 ∷ []) (whole_part rest))

-- octets that end no line
within-first : (octet : ℕ) (rest : List ℕ) → list_all is_within (octet ∷ rest) ≡ true → (octet == 10) ≡ false
within-first octet rest all = not-true (octet == 10) (and_parts (is_within octet) (list_all is_within rest) all).0

pub not_feed : (octet : ℕ) (rest : List ℕ) → (octet == 10) ≡ false → ends_block (octet ∷ rest) ≡ false
not_feed octet rest is = rw is refl

pub whole-within : (tail : List ℕ) → list_all is_within tail ≡ true → whole_part tail ≡ []
whole-within [] all = whole-none
whole-within (octet ∷ rest) all =
    whole-nothing octet rest (whole-within rest (and_parts (is_within octet) (list_all is_within rest) all).1) (not_feed octet rest (within-first octet rest all))

begins-tail : (rest tail : List ℕ) → list_all is_within tail ≡ true → begins_with_feed (rest ++ tail) ≡ begins_with_feed rest
begins-tail [] [] all = refl
begins-tail [] (octet ∷ tail) all = within-first octet tail all
begins-tail (octet ∷ rest) tail all = refl

before-tail : (octet : ℕ) (rest other found : List ℕ) → begins_with_feed other ≡ begins_with_feed rest → whole_before octet other found ≡ whole_before octet rest found
before-tail octet rest other [] same = rw same refl
before-tail octet rest other (first ∷ found) same = refl

pub whole-tail : (text tail : List ℕ) → list_all is_within tail ≡ true → whole_part (text ++ tail) ≡ whole_part text
unfolding whole_part
whole-tail [] tail all = whole-within tail all
whole-tail (octet ∷ rest) tail all =
    ap (whole_before octet (rest ++ tail)) (whole-tail rest tail all) ∙ before-tail octet rest (rest ++ tail) (whole_part rest) (begins-tail rest tail all)
