-- Lemmas on the lines of a text as they stand.
use Rattle.std.proofs.Common.{◌≡◌, ℕ, zero, suc, ◌+◌, ◌-◌, ◌<◌, ◌==◌, ◌∙◌, sym, ap, refl, arith, Bool, true, false, List, [], ◌∷◌, length, take, drop, if◌then◌else◌}
use Rattle.std.specs.Prelude.{slice_index}
use Rattle.std.specs.List.{slice_split, onto_first}
use Rattle.std.specs.Str.Lines.{lines, lines_of_parts, strip_carriage_return}
use Rattle.std.proofs.lemmas.Bool.Decides.{nat_tests}
use Rattle.std.proofs.lemmas.List.{drop-drop}
use Rattle.std.proofs.lemmas.List.Splits.{length-slice_split}
use Rattle.dir_tree.proofs.plain_values_proofs.Theorems.{lines_of_parts-one}
use Rattle.ldif_records.specs.declared.types.Position.{Position}
use Rattle.ldif_records.specs.lines.Lines.{numbered, begins_with}
use Rattle.ldif_records.specs.lines.Places.{physical_from}
use Rattle.ldif_records.specs.reading.Steps.{goes_on}

-- a line feed is no space
other_octet : (first : ℕ) → (first == 10) ≡ true → (first == 32) ≡ false
other_octet first is = grind (arith, nat_tests)

-- a line feed aside, the first octet of a text is that of its first line
begins_with-cut : (first : ℕ) (rest : List ℕ) (is_cut : Bool) (most : ℕ) → 0 < most → begins_with 32 (if is_cut then take most (first ∷ rest) else first ∷ rest) ≡ (first == 32)
begins_with-cut first rest true zero some = absurd (omega arith)
begins_with-cut first rest true (suc most) some = refl
begins_with-cut first rest false most some = refl

begins_with-one : (first : ℕ) → begins_with 32 (strip_carriage_return (first ∷ [])) ≡ (first == 32)
begins_with-one first = grind (arith, nat_tests)

begins_with-strip : (first : ℕ) (rest : List ℕ) → begins_with 32 (strip_carriage_return (first ∷ rest)) ≡ (first == 32)
begins_with-strip first [] = begins_with-one first
begins_with-strip first (next ∷ rest) =
    begins_with-cut first (next ∷ rest) (slice_index (first ∷ next ∷ rest) (length (first ∷ next ∷ rest) - 1) == 13) (length (first ∷ next ∷ rest) - 1) (omega arith)

-- the first line continues another exactly where the first octet is a space
goes_on-part : (number first : ℕ) (part : List ℕ) (parts : List (List ℕ)) → goes_on (numbered number (lines_of_parts ((first ∷ part) ∷ parts))) ≡ (first == 32)
goes_on-part number first part [] = ap (λ parts. goes_on (numbered number parts)) (lines_of_parts-one (first ∷ part) (omega arith))
goes_on-part number first part (next ∷ parts) = begins_with-strip first part

goes_on-onto : (number first : ℕ) (parts : List (List ℕ)) → goes_on (numbered number (lines_of_parts (onto_first first parts))) ≡ (first == 32)
goes_on-onto number first [] = goes_on-part number first [] []
goes_on-onto number first (part ∷ parts) = goes_on-part number first part parts

goes_on-feed : (number : ℕ) (parts : List (List ℕ)) → 0 < length parts → goes_on (numbered number (lines_of_parts ([] ∷ parts))) ≡ false
goes_on-feed number [] some = absurd (omega arith)
goes_on-feed number (part ∷ parts) some = refl

goes_on-first : (number first : ℕ) (rest : List ℕ) (is_feed : Bool) → (first == 10) ≡ is_feed
    → goes_on (numbered number (lines_of_parts (if is_feed then [] ∷ slice_split (λ octet. octet == 10) rest else onto_first first (slice_split (λ octet. octet == 10) rest)))) ≡ (first == 32)
goes_on-first number first rest true is = goes_on-feed number (slice_split (λ octet. octet == 10) rest) (omega (arith, length-slice_split (λ octet. octet == 10) rest)) ∙ sym (other_octet first is)
goes_on-first number first rest false is = goes_on-onto number first (slice_split (λ octet. octet == 10) rest)

goes_on-lines : (number : ℕ) (text : List ℕ) → goes_on (numbered number (lines text)) ≡ begins_with 32 text
goes_on-lines number [] = refl
goes_on-lines number (first ∷ rest) = goes_on-first number first rest (first == 10) refl

pub goes_on-from : (text : List ℕ) (at : Position) → goes_on (physical_from text at) ≡ begins_with 32 (drop at.offset text)
unfolding physical_from
goes_on-from text at = goes_on-lines at.line (drop at.offset text)

-- a text that begins with an octet is not empty
pub begins_with-filled : (octet : ℕ) (text : List ℕ) → begins_with octet text ≡ true → 0 < length text
begins_with-filled octet [] is = cc is
begins_with-filled octet (first ∷ rest) is = omega arith

-- the first line from a place on, and the lines from the place after it
pub physical_from-cut : (text line : List ℕ) (at : Position) (taken : ℕ) → lines (drop at.offset text) ≡ line ∷ lines (drop taken (drop at.offset text))
    → physical_from text at ≡ record { number = at.line; octets = line } ∷ physical_from text (record { offset = at.offset + taken; line = at.line + 1 })
unfolding physical_from
physical_from-cut text line at taken is =
    ap (λ found. numbered at.line found) is
    ∙ ap (λ rest. record { number = at.line; octets = line } ∷ numbered (at.line + 1) (lines rest)) (drop-drop taken at.offset text)
