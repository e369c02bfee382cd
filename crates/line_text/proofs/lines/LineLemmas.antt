-- Lemmas on the lines of a text.
use Rattle.std.proofs.Common.{◌≡◌, not, ℕ, suc, ◌+◌, ◌<◌, ◌==◌, ◌∙◌, ap, cond, refl, arith, Bool, true, false, List, [], ◌∷◌, length}
use Rattle.std.specs.List.{onto_first, position_or_len, before_first, after_first}
use Rattle.std.proofs.lemmas.List.Splits.{slice_split_first, length-slice_split}
use Rattle.line_text.specs.Lines.{without_last, last_part, parts_of, lines_of, rest_of}

-- the first part of some is none but the last where others follow
without_last-more : (part : List ℕ) (parts : List (List ℕ)) → 0 < length parts → without_last (part ∷ parts) ≡ part ∷ without_last parts
without_last-more part [] some = absurd (omega arith)
without_last-more part (next ∷ parts) some = refl

last_part-more : (part : List ℕ) (parts : List (List ℕ)) → 0 < length parts → last_part (part ∷ parts) ≡ last_part parts
last_part-more part [] some = absurd (omega arith)
last_part-more part (next ∷ parts) some = refl

-- a text has a part
filled : (text : List ℕ) → 0 < length (parts_of text)
filled text = omega (arith, length-slice_split (λ octet. octet == 10) text)

-- the octet is LF
abbrev pub is_end : ℕ → Bool
is_end octet = octet == 10

-- a text with an LF: its first line, and the lines of what follows
pub lines_of-cut : (text : List ℕ) → position_or_len is_end text < length text → lines_of text ≡ before_first is_end text ∷ lines_of (after_first is_end text)
unfolding lines_of
lines_of-cut text within =
    ap without_last (slice_split_first is_end text 0 within) ∙ without_last-more (before_first is_end text) (parts_of (after_first is_end text)) (filled (after_first is_end text))

pub rest_of-cut : (text : List ℕ) → position_or_len is_end text < length text → rest_of text ≡ rest_of (after_first is_end text)
unfolding rest_of
rest_of-cut text within =
    ap last_part (slice_split_first is_end text 0 within) ∙ last_part-more (before_first is_end text) (parts_of (after_first is_end text)) (filled (after_first is_end text))

-- a text without LF is one part
whole_by : (octet : ℕ) (octets : List ℕ) (is : Bool) → (position_or_len is_end octets ≡ length octets → parts_of octets ≡ octets ∷ []) → cond (not is) (1 + position_or_len is_end octets) 0 ≡ suc (length octets) → cond is ([] ∷ parts_of octets) (onto_first octet (parts_of octets)) ≡ (octet ∷ octets) ∷ []
whole_by octet octets true rest none = absurd (omega arith)
whole_by octet octets false rest none = ap (onto_first octet) (rest (omega arith))

whole : (text : List ℕ) → position_or_len is_end text ≡ length text → parts_of text ≡ text ∷ []
whole [] none = refl
whole (octet ∷ octets) none = whole_by octet octets (octet == 10) (whole octets) none

pub lines_of-none : (text : List ℕ) → position_or_len is_end text ≡ length text → lines_of text ≡ []
unfolding lines_of
lines_of-none text none = ap without_last (whole text none)

pub rest_of-none : (text : List ℕ) → position_or_len is_end text ≡ length text → rest_of text ≡ text
unfolding rest_of
rest_of-none text none = ap last_part (whole text none)
