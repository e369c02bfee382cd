-- Lemmas on records, read line by line.
use Rattle.std.proofs.Common.{◌≡◌, ℕ, ◌==◌, sym, ◌∙◌, ap, refl, arith, Bool, true, false, List, [], ◌∷◌, ◌++◌, length, Option, Some, None, Result, Ok, Err}
use Rattle.std.specs.Prelude.{IfNone, IfErr}
use Rattle.std.specs.List.{slice_split, filter_map}
use Rattle.std.proofs.lemmas.Bool.Decides.{nat_tests}
use Rattle.std.proofs.lemmas.List.{append-nil, append_assoc}
use Rattle.std.proofs.lemmas.List.Splits.{slice_split-cons_yes, slice_split-cons_no}
use Rattle.ldif_records.specs.declared.types.RecordLine.{RecordLine}
use Rattle.ldif_records.specs.declared.types.BadLine.{BadLine}
use Rattle.ldif_records.specs.declared.types.BadLine.TheVariants as bad_line
use Rattle.dir_tree.specs.plain_values.Answers.{IsFaultOf}
use Rattle.ldif_records.specs.reading.Faults.{LineFault, Bad, fault_of}
use Rattle.ldif_records.specs.lines.Lines.{Line}
use Rattle.ldif_records.specs.Fields.{attribute_line, name_line}
use Rattle.ldif_records.specs.reading.Records.{◌>>=◌, is_blank, attribute_lines, record_of, record_between, records}
use Rattle.ldif_records.specs.reading.Steps.{ahead, ends_ahead, before_blank, after_blank, after_these}
use Rattle.dir_tree.proofs.base_laws_proofs.Theorems.{choose, other_choice}

-- the lines before the first empty one and after it, by the first line
pub before-blank : (line : Line) (rest : List Line) → is_blank line ≡ true → before_blank (line ∷ rest) ≡ []
unfolding before_blank
before-blank line rest blank = choose (is_blank line) [] _ blank

pub before-line : (line : Line) (rest : List Line) → is_blank line ≡ false → before_blank (line ∷ rest) ≡ line ∷ before_blank rest
unfolding before_blank
before-line line rest says = other_choice (is_blank line) [] _ says

pub after-blank : (line : Line) (rest : List Line) → is_blank line ≡ true → after_blank (line ∷ rest) ≡ rest
unfolding after_blank
after-blank line rest blank = choose (is_blank line) rest _ blank

pub after-line : (line : Line) (rest : List Line) → is_blank line ≡ false → after_blank (line ∷ rest) ≡ after_blank rest
unfolding after_blank
after-line line rest says = other_choice (is_blank line) rest _ says

pub before-nil : before_blank [] ≡ []
unfolding before_blank
before-nil = refl

pub after-nil : after_blank [] ≡ []
unfolding after_blank
after-nil = refl

-- where no line of the record is ahead, none is before the first empty one
pub ends-before : (line : Option Line) (rest : List Line) → ends_ahead line ≡ true → IfNone line (rest ≡ []) → before_blank (ahead line rest) ≡ []
ends-before None rest ends none = ap before_blank none ∙ before-nil
ends-before (Some line) rest ends none = before-blank line rest ends

pub ends-after : (line : Option Line) (rest : List Line) → ends_ahead line ≡ true → IfNone line (rest ≡ []) → after_blank (ahead line rest) ≡ rest
ends-after None rest ends none = ap after_blank none ∙ after-nil ∙ sym none
ends-after (Some line) rest ends none = after-blank line rest ends

-- and otherwise there is one
some_line : (line : Line) (lines : List Line) → (length (line ∷ lines) == 0) ≡ false
some_line line lines = grind (arith, nat_tests)

alone-line : (line : Line) (rest : List Line) (ends : Bool) → is_blank line ≡ ends → (length (before_blank (line ∷ rest)) == 0) ≡ ends
alone-line line rest true is = ap (λ lines. length lines == 0) (before-blank line rest is)
alone-line line rest false is = ap (λ lines. length lines == 0) (before-line line rest is) ∙ some_line line (before_blank rest)

pub alone : (line : Option Line) (rest : List Line) → IfNone line (rest ≡ []) → (length (before_blank (ahead line rest)) == 0) ≡ ends_ahead line
alone None rest none = ap (λ lines. length lines == 0) (ap before_blank none ∙ before-nil)
alone (Some line) rest none = alone-line line rest (is_blank line) refl

-- no line is left
lines-nil : attribute_lines [] ≡ Ok []
unfolding attribute_lines
lines-nil = refl

pub lines-done : (found : List RecordLine) (lines : List Line) → lines ≡ [] → after_these found (attribute_lines lines) ≡ Ok found
lines-done found lines none = ap (λ rest. after_these found (attribute_lines rest)) none ∙ ap (after_these found) lines-nil ∙ ap Ok (append-nil found)

-- a good line
then-these : (found : List RecordLine) (first : RecordLine) (reading : Result (List RecordLine) LineFault)
    → after_these (found ++ first ∷ []) reading ≡ after_these found (reading >>= λ others. Ok (first ∷ others))
then-these found first (Ok others) = ap Ok (append_assoc found (first ∷ []) others)
then-these found first (Err bad) = refl

pub lines-cons : (line : Line) (rest : List Line) (first : RecordLine) → attribute_line line ≡ Ok first → attribute_lines (line ∷ rest) ≡ (attribute_lines rest >>= λ others. Ok (first ∷ others))
unfolding attribute_lines
lines-cons line rest first good = ap (λ reading. reading >>= λ found. attribute_lines rest >>= λ others. Ok (found ∷ others)) good

pub lines-good : (found : List RecordLine) (line : Line) (rest : List Line) (first : RecordLine) → attribute_line line ≡ Ok first
    → after_these (found ++ first ∷ []) (attribute_lines rest) ≡ after_these found (attribute_lines (line ∷ rest))
lines-good found line rest first good = then-these found first (attribute_lines rest) ∙ ap (after_these found) (sym (lines-cons line rest first good))

-- a bad one
lines-bad : (line : Line) (rest : List Line) (bad : LineFault) → attribute_line line ≡ Err bad → attribute_lines (line ∷ rest) ≡ Err bad
unfolding attribute_lines
lines-bad line rest bad is = ap (λ reading. reading >>= λ found. attribute_lines rest >>= λ others. Ok (found ∷ others)) is

pub lines-fault : (found : List RecordLine) (line : Line) (rest : List Line) (bad : BadLine) → IsFaultOf (fault_of bad) (attribute_line line) → IsFaultOf (fault_of bad) (after_these found (attribute_lines (line ∷ rest)))
lines-fault found line rest (bad_line.Bad number cause) is = ap (after_these found) (lines-bad line rest (Bad number cause) is)
lines-fault found line rest bad_line.NoMemory is = tt

-- a fault of what a call answered
pub fault-same : {A B : Type 0} (result : Result A BadLine) (found given : BadLine) (reading : Result B LineFault) → result ≡ Err found → found ≡ given → IsFaultOf (fault_of given) reading → IfErr result (λ bad. IsFaultOf (fault_of bad) reading)
fault-same result found given reading answered same is = rw (answered, same) is

pub fault-of : {A : Type 0} (bad : BadLine) (reading whole : Result A LineFault) → whole ≡ reading → IsFaultOf (fault_of bad) reading → IsFaultOf (fault_of bad) whole
fault-of (bad_line.Bad number cause) reading whole same is = same ∙ is
fault-of bad_line.NoMemory reading whole same is = tt

-- a record by its first line and its others
record-name : (first : Line) (rest : List Line) (alone : Bool) (name : List ℕ) → (length rest == 0) ≡ alone → name_line alone first ≡ Ok name
    → record_of first rest ≡ (attribute_lines rest >>= λ lines. Ok (record { line = first.number; name = name; lines = lines }))
unfolding record_of
record-name first rest alone name is good =
    ap (λ single. name_line single first >>= λ name. attribute_lines rest >>= λ lines. Ok (record { line = first.number; name = name; lines = lines })) is
    ∙ ap (λ reading. reading >>= λ name. attribute_lines rest >>= λ lines. Ok (record { line = first.number; name = name; lines = lines })) good

pub record-good : (first : Line) (rest : List Line) (alone : Bool) (name : List ℕ) (lines : List RecordLine) → (length rest == 0) ≡ alone → name_line alone first ≡ Ok name → attribute_lines rest ≡ Ok lines
    → record_of first rest ≡ Ok (record { line = first.number; name = name; lines = lines })
record-good first rest alone name lines is good others =
    record-name first rest alone name is good ∙ ap (λ reading. reading >>= λ lines. Ok (record { line = first.number; name = name; lines = lines })) others

pub record-fault_name : (first : Line) (rest : List Line) (alone : Bool) (bad : BadLine) → (length rest == 0) ≡ alone → IsFaultOf (fault_of bad) (name_line alone first) → IsFaultOf (fault_of bad) (record_of first rest)
unfolding record_of
record-fault_name first rest alone (bad_line.Bad number cause) is fault =
    ap (λ single. name_line single first >>= λ name. attribute_lines rest >>= λ lines. Ok (record { line = first.number; name = name; lines = lines })) is
    ∙ ap (λ reading. reading >>= λ name. attribute_lines rest >>= λ lines. Ok (record { line = first.number; name = name; lines = lines })) fault
record-fault_name first rest alone bad_line.NoMemory is fault = tt

pub record-fault_line : (first : Line) (rest : List Line) (alone : Bool) (name : List ℕ) (bad : BadLine) → (length rest == 0) ≡ alone → name_line alone first ≡ Ok name → IsFaultOf (fault_of bad) (attribute_lines rest)
    → IsFaultOf (fault_of bad) (record_of first rest)
record-fault_line first rest alone name (bad_line.Bad number cause) is good fault =
    record-name first rest alone name is good ∙ ap (λ reading. reading >>= λ lines. Ok (record { line = first.number; name = name; lines = lines })) fault
record-fault_line first rest alone name bad_line.NoMemory is good fault = tt

-- lines are cut at the first empty one
pub record SplitsOff (lines : List Line) : Type 0 where
  pub others : List (List Line)
  pub split : slice_split is_blank lines ≡ before_blank lines ∷ others
  pub later : filter_map record_between others ≡ records (after_blank lines)

splits-blank : (line : Line) (rest : List Line) → is_blank line ≡ true → SplitsOff (line ∷ rest)
unfolding records
splits-blank line rest blank = record {
  others = slice_split is_blank rest;
  split = slice_split-cons_yes is_blank line rest blank ∙ ap (λ front. front ∷ slice_split is_blank rest) (sym (before-blank line rest blank));
  later = ap records (sym (after-blank line rest blank));
}

splits-line : (line : Line) (rest : List Line) → is_blank line ≡ false → SplitsOff rest → SplitsOff (line ∷ rest)
splits-line line rest says off = record {
  others = off.others;
  split = slice_split-cons_no is_blank line rest says ∙ rw off.split (ap (λ front. front ∷ off.others) (sym (before-line line rest says)));
  later = off.later ∙ ap records (sym (after-line line rest says));
}

splits-by : (line : Line) (rest : List Line) (blank : Bool) → is_blank line ≡ blank → SplitsOff rest → SplitsOff (line ∷ rest)
splits-by line rest true is off = splits-blank line rest is
splits-by line rest false is off = splits-line line rest is off

splits : (lines : List Line) → SplitsOff lines
unfolding records
splits [] = record { others = []; split = ap (λ front. front ∷ []) (sym before-nil); later = ap records (sym after-nil) }
splits (line ∷ rest) = splits-by line rest (is_blank line) refl (splits rest)

-- the first record is of the lines before the first empty one, and the others of those after it
pub records-first : (line : Line) (rest : List Line) → is_blank line ≡ false → records (line ∷ rest) ≡ record_of line (before_blank rest) ∷ records (after_blank rest)
unfolding records
records-first line rest says =
    let off = splits (line ∷ rest) in
    ap (λ parts. filter_map record_between parts) (off.split ∙ ap (λ front. front ∷ off.others) (before-line line rest says))
    ∙ ap (λ later. record_of line (before_blank rest) ∷ later) (off.later ∙ ap records (after-line line rest says))

-- no line, no record
pub records-nil : records [] ≡ []
unfolding records
records-nil = refl

-- a line that was read, by whether it is empty
pub ends-some : (line : Option Line) (this : Line) → line ≡ Some this → is_blank this ≡ true → ends_ahead line ≡ true
ends-some line this is blank = ap ends_ahead is ∙ blank

pub before-some : (line : Option Line) (this : Line) (rest : List Line) → line ≡ Some this → is_blank this ≡ false → before_blank (ahead line rest) ≡ this ∷ before_blank rest
before-some line this rest is says = ap (λ found. before_blank (ahead found rest)) is ∙ before-line this rest says

pub after-some : (line : Option Line) (this : Line) (rest : List Line) → line ≡ Some this → is_blank this ≡ false → after_blank (ahead line rest) ≡ after_blank rest
after-some line this rest is says = ap (λ found. after_blank (ahead found rest)) is ∙ after-line this rest says

-- one more good line
pub lines-step : (found : List RecordLine) (line : Option Line) (this : Line) (rest next : List Line) (first : RecordLine) (whole : Result (List RecordLine) LineFault)
    → line ≡ Some this → is_blank this ≡ false → rest ≡ next → attribute_line this ≡ Ok first
    → after_these found (attribute_lines (before_blank (ahead line rest))) ≡ whole
    → after_these (found ++ first ∷ []) (attribute_lines (before_blank next)) ≡ whole
lines-step found line this rest next first whole is says same good was =
    ap (λ lines. after_these (found ++ first ∷ []) (attribute_lines (before_blank lines))) (sym same)
    ∙ lines-good found this (before_blank rest) first good
    ∙ ap (λ lines. after_these found (attribute_lines lines)) (sym (before-some line this rest is says))
    ∙ was

pub rest-step : (line : Option Line) (this : Line) (rest next whole : List Line) → line ≡ Some this → is_blank this ≡ false → rest ≡ next → whole ≡ after_blank (ahead line rest) → whole ≡ after_blank next
rest-step line this rest next whole is says same was = was ∙ after-some line this rest is says ∙ ap after_blank same

-- a bad line
pub lines-stop : (found : List RecordLine) (line : Option Line) (this : Line) (rest : List Line) (bad : BadLine) (whole : Result (List RecordLine) LineFault)
    → line ≡ Some this → is_blank this ≡ false → IsFaultOf (fault_of bad) (attribute_line this)
    → after_these found (attribute_lines (before_blank (ahead line rest))) ≡ whole
    → IsFaultOf (fault_of bad) whole
lines-stop found line this rest bad whole is says fault was =
    fault-of bad _ whole (sym was ∙ ap (λ lines. after_these found (attribute_lines lines)) (before-some line this rest is says))
    (lines-fault found this (before_blank rest) bad fault)

-- an empty line that was read, by its octets as a call lent them
pub blank-by : (line : Line) (octets : List ℕ) (empty answer : Bool) → octets ≡ line.octets → empty ≡ (length octets == 0) → empty ≡ answer → is_blank line ≡ answer
blank-by line octets empty answer lent tested is = ap (λ found. length found == 0) (sym lent) ∙ sym tested ∙ is

-- a record of lines that were read, the first of them alone or not
pub one-alone : (line : Option Line) (left rest : List Line) (ends : Bool) → left ≡ ahead line rest → IfNone line (rest ≡ []) → ends ≡ ends_ahead line → (length (before_blank left) == 0) ≡ ends
one-alone line left rest ends same none is = ap (λ lines. length (before_blank lines) == 0) same ∙ alone line rest none ∙ sym is
