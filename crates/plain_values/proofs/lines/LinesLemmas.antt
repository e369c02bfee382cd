-- Lemmas on the lines of a text, by its first line feed.
use Rattle.std.proofs.Common.{get_or, ◌≢◌, ◌++◌, ◌≡◌, ℕ, ◌<◌, ◌==◌, ◌∙◌, ap, refl, arith, false, List, [], ◌∷◌, length}
use Rattle.std.specs.List.{position_or_len, slice_split, All, before_first, after_first}
use Rattle.std.specs.Str.Lines.{lines, lines_of_parts, strip_carriage_return}
use Rattle.std.proofs.lemmas.Bool.{ne_eqb}
use Rattle.std.proofs.lemmas.Bool.Decides.{nat_tests}
use Rattle.std.proofs.lemmas.List.Elements.{All-from_get_or}
use Rattle.std.proofs.lemmas.List.Splits.{slice_split_at, slice_split_first, slice_split_none, length-slice_split}
use Rattle.std.proofs.lemmas.List.Sums.{fails_before_first}

-- the part before others is a line that ended
lines_of_parts-cons : (part : List ℕ) (parts : List (List ℕ)) → 0 < length parts
    → lines_of_parts (part ∷ parts) ≡ strip_carriage_return part ∷ lines_of_parts parts
lines_of_parts-cons part [] more = absurd (omega arith)
lines_of_parts-cons part (next ∷ parts) more = refl

-- the first line is what stands before the first line feed
pub lines-first : (text : List ℕ) → position_or_len (λ octet. octet == 10) text < length text
    → lines text ≡ strip_carriage_return (before_first (λ octet. octet == 10) text) ∷ lines (after_first (λ octet. octet == 10) text)
lines-first text within =
    ap lines_of_parts (slice_split_first (λ octet. octet == 10) text 0 within)
    ∙ lines_of_parts-cons _ (slice_split (λ octet. octet == 10) (after_first (λ octet. octet == 10) text)) (omega (arith, length-slice_split (λ octet. octet == 10) (after_first (λ octet. octet == 10) text)))

-- a text with octets and no line feed is its one line
pub lines_of_parts-one : (part : List ℕ) → 0 < length part → lines_of_parts (part ∷ []) ≡ part ∷ []
lines_of_parts-one [] filled = absurd (omega arith)
lines_of_parts-one (octet ∷ octets) filled = grind (arith, nat_tests)

pub lines-last : (text : List ℕ) → 0 < length text → position_or_len (λ octet. octet == 10) text ≡ length text
    → lines text ≡ text ∷ []
lines-last text filled none =
    ap lines_of_parts (slice_split_none (λ octet. octet == 10) text (All-from_get_or (λ octet. (octet == 10) ≡ false) text 0 (λ i within. fails_before_first (λ octet. octet == 10) text i 0 (omega arith))))
    ∙ lines_of_parts-one text filled

-- octets other than line feeds don't pass the test
no_feed : (octets : List ℕ) → All (λ octet. octet ≢ 10) octets → All (λ octet. (octet == 10) ≡ false) octets
no_feed octets other = λ k d within. ne_eqb (get_or octets k d) 10 (other k d within)

pub lines-unended : (line : List ℕ) → line ≢ [] → All (λ octet. octet ≢ 10) line → lines line ≡ line ∷ []
lines-unended [] filled other = absurd (filled refl)
lines-unended (octet ∷ octets) filled other =
    ap lines_of_parts (slice_split_none (λ octet. octet == 10) (octet ∷ octets) (no_feed (octet ∷ octets) other)) ∙ lines_of_parts-one (octet ∷ octets) (omega arith)

pub lines-ended : (line rest : List ℕ) → All (λ octet. octet ≢ 10) line → lines (line ++ 10 ∷ rest) ≡ strip_carriage_return line ∷ lines rest
lines-ended line rest other =
    ap lines_of_parts (slice_split_at (λ octet. octet == 10) line 10 rest (no_feed line other) refl)
    ∙ lines_of_parts-cons line (slice_split (λ octet. octet == 10) rest) (omega (arith, length-slice_split (λ octet. octet == 10) rest))
