-- Lemmas on the text of rows with empty lines between them: its lines, and which of them are content.
use Rattle.std.proofs.Common.{◌≡◌, ℕ, ◌+◌, ◌==◌, not, ◌∙◌, ap, refl, arith, false, List, [], ◌∷◌, ◌++◌, length}
use Rattle.std.specs.List.{flat_map, AllByRecursion}
use Rattle.std.specs.Str.Lines.{lines}
use Rattle.std.proofs.lemmas.Bool.Decides.{nat_tests}
use Rattle.std.proofs.lemmas.List.{append_assoc, append-nil}
use Rattle.dir_tree.proofs.base_laws_proofs.Theorems.{choose, other_choice}
use Rattle.whole_blocks.specs.Blocks.{ended, block_text}
use Rattle.ldif_records.specs.declared.types.Position.{Position}
use Rattle.ldif_records.specs.lines.Lines.{Line, numbered, is_continuation, continued, beginning, logical}
use Rattle.ldif_records.specs.reading.Records.{is_comment, is_blank, without_comments}
use Rattle.ldif_records.specs.lines.Places.{physical_from, logical_from, content_from}
use Rattle.ldif_records.proofs.Theorems.{lines-inside, IsRow}
use Rattle.change_records.proofs.laws.LineLemmas.{IsWrittenRow}

-- numbered lines, one list behind another
pub numbered-append : (number : ℕ) (xs ys : List (List ℕ)) → numbered number (xs ++ ys) ≡ numbered number xs ++ numbered (number + length xs) ys
numbered-append number [] ys = ap (λ n. numbered n ys) (omega arith)
numbered-append number (x ∷ xs) ys =
    ap (λ rest. record { number = number; octets = x } ∷ rest)
    (numbered-append (number + 1) xs ys ∙ ap (λ n. numbered (number + 1) xs ++ numbered n ys) (omega arith))

-- the lines of a text of rows
pub rows-read : (rows : List (List ℕ)) (rest : List ℕ) → AllByRecursion IsWrittenRow rows → lines (flat_map ended rows ++ rest) ≡ rows ++ lines rest
rows-read [] rest are = refl
rows-read (row ∷ rows) rest are =
    ap lines (append_assoc (row ++ 10 ∷ []) (flat_map ended rows) rest ∙ append_assoc row (10 ∷ []) (flat_map ended rows ++ rest))
    ∙ lines-inside row (flat_map ended rows ++ rest) are.0.inside
    ∙ ap (λ later. row ∷ later) (rows-read rows rest are.1)

-- and of rows with an empty line behind them
pub block-read : (rows : List (List ℕ)) (rest : List ℕ) → AllByRecursion IsWrittenRow rows → lines (block_text rows ++ rest) ≡ rows ++ [] ∷ lines rest
block-read rows rest are =
    ap lines (append_assoc (flat_map ended rows) (10 ∷ []) rest)
    ∙ rows-read rows (10 ∷ rest) are
    ∙ ap (λ later. rows ++ later) (lines-inside [] rest refl)

-- ---- lines that continue none and are no comments are content

pub numbered-rows : (number : ℕ) (rows : List (List ℕ)) → AllByRecursion IsWrittenRow rows → AllByRecursion IsRow (numbered number rows)
numbered-rows number [] are = tt
numbered-rows number (row ∷ rows) are = (record { begins = are.0.space; says = are.0.sign }, numbered-rows (number + 1) rows are.1)

no_continuation : (lines : List Line) → AllByRecursion IsRow lines → continued lines ≡ []
unfolding continued
no_continuation [] rows = refl
no_continuation (line ∷ rest) rows = other_choice (is_continuation line) _ [] rows.0.begins

alone-row : (line : Line) (rest : List Line) → AllByRecursion IsRow rest → record { number = line.number; octets = line.octets ++ continued rest } ≡ line
alone-row line rest rows = ap (λ more. record { number = line.number; octets = line.octets ++ more }) (no_continuation rest rows) ∙ ap (λ octets. record { number = line.number; octets = octets }) (append-nil line.octets)

beginning-rows : (lines : List Line) → AllByRecursion IsRow lines → beginning lines ≡ lines
unfolding beginning
beginning-rows [] rows = refl
beginning-rows (line ∷ rest) rows =
    other_choice (is_continuation line) _ _ rows.0.begins
    ∙ ap (λ first. first ∷ beginning rest) (alone-row line rest rows.1)
    ∙ ap (λ later. line ∷ later) (beginning-rows rest rows.1)

logical-rows : (lines : List Line) → AllByRecursion IsRow lines → logical lines ≡ lines
unfolding logical
logical-rows [] rows = refl
logical-rows (line ∷ rest) rows =
    ap (λ first. first ∷ beginning rest) (alone-row line rest rows.1) ∙ ap (λ later. line ∷ later) (beginning-rows rest rows.1)

content-rows : (lines : List Line) → AllByRecursion IsRow lines → without_comments lines ≡ lines
unfolding without_comments
content-rows [] rows = refl
content-rows (line ∷ rest) rows =
    choose (not (is_comment line)) _ _ (ap not rows.0.says) ∙ ap (λ later. line ∷ later) (content-rows rest rows.1)

pub content-read : (text : List ℕ) (at : Position) (rows : List Line) → physical_from text at ≡ rows → AllByRecursion IsRow rows → content_from text at ≡ rows
unfolding content_from logical_from
content-read text at rows read are = ap (λ found. without_comments (logical found)) read ∙ ap without_comments (logical-rows rows are) ∙ content-rows rows are

-- a row isn't empty
pub row-filled : (number : ℕ) (line : List ℕ) → IsWrittenRow line → is_blank (record { number = number; octets = line }) ≡ false
row-filled number [] is = absurd (omega (arith, is.filled))
row-filled number (first ∷ rest) is = filled first rest
  where
    filled : (first : ℕ) (rest : List ℕ) → (length (first ∷ rest) == 0) ≡ false
    filled first rest = grind (arith, nat_tests)
