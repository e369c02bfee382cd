-- The changes of lines, read one record after the other.
use Rattle.std.proofs.Common.{◌≡◌, ℕ, ◌+◌, ◌≤◌, sym, ◌∙◌, ap, refl, arith, false, List, [], ◌∷◌, ◌++◌, length, take, drop, Option, Some, None, Result, Ok, Err, inl, inr}
use Rattle.std.specs.List.{slice_split, position_or_len, before_first, after_first}
use Rattle.std.proofs.lemmas.Bool.{cases_lt}
use Rattle.std.proofs.lemmas.List.{append_assoc, append-nil, take_all, drop_all, drop-drop}
use Rattle.std.proofs.lemmas.List.Elements.{All-from_get_or}
use Rattle.std.proofs.lemmas.List.Splits.{slice_split_first, slice_split_none}
use Rattle.std.proofs.lemmas.List.Sums.{fails_before_first}
use Rattle.dir_tree.specs.plain_values.Results.{◌>>=◌}
use Rattle.dir_tree.specs.plain_values.Answers.{IsFaultOf}
use Rattle.ldif_records.specs.declared.types.BadLine.{BadLine}
use Rattle.ldif_records.specs.reading.Faults.{LineFault, fault_of}
use Rattle.ldif_records.specs.reading.Records.{is_blank}
use Rattle.ldif_records.specs.lines.Lines.{Line}
use Rattle.change_records.specs.declared.types.RecordedChange.{RecordedChange}
use Rattle.change_records.specs.Reading.{record_in, and_others, changes_of, changes_from}
use Rattle.change_records.proofs.JoinLemmas.{joined, fault-first}

pub changes-nil : changes_from [] ≡ Ok []
unfolding changes_from changes_of
changes-nil = refl

-- the change of the first lines, and those of the lines behind the first empty one
abbrev read_on : Result (Option RecordedChange) LineFault → Result (List RecordedChange) LineFault → Result (List RecordedChange) LineFault
read_on first later = first >>= λ found. later >>= λ others. Ok (and_others found others)

no_blank : Line
no_blank = record { number = 0; octets = [] }

first-part : (lines : List Line) → position_or_len is_blank lines ≤ length lines → changes_from lines ≡ read_on (record_in (before_first is_blank lines)) (changes_from (after_first is_blank lines))
unfolding changes_from changes_of
first-part lines within =
    elim (cases_lt (position_or_len is_blank lines) (length lines)) [
      | inl inside ↦ ap changes_of (slice_split_first is_blank lines no_blank inside)
      | inr past ↦
          let place : position_or_len is_blank lines ≡ length lines = omega arith in
          ap changes_of (slice_split_none is_blank lines (All-from_get_or (λ line. is_blank line ≡ false) lines no_blank (λ i inside. fails_before_first is_blank lines i no_blank (omega arith))))
          ∙ ap (λ front. read_on (record_in front) (Ok [])) (sym (ap (λ n. take n lines) place ∙ take_all (length lines) lines (omega arith)))
          ∙ ap (λ rest. read_on (record_in (before_first is_blank lines)) (changes_of (slice_split is_blank rest))) (sym (ap (λ n. drop (n + 1) lines) place ∙ drop_all (length lines + 1) lines (omega arith)))
    ]

joined-others : (done : List RecordedChange) (found : Option RecordedChange) (later : Result (List RecordedChange) LineFault)
    → joined done (later >>= λ others. Ok (and_others found others)) ≡ joined (done ++ and_others found []) later
joined-others done None (Ok others) = ap (λ front. Ok (front ++ others)) (sym (append-nil done))
joined-others done (Some change) (Ok others) = ap Ok (sym (append_assoc done (change ∷ []) others))
joined-others done found (Err bad) = refl

-- the lines of the next record, as the calls lent them
pub record IsPart (lines : List Line) (at count : ℕ) (part : List Line) : Type 0 where
  pub is : part ≡ before_first is_blank (drop at lines)
  pub rest : drop (at + (count + 1)) lines ≡ after_first is_blank (drop at lines)
  pub within : position_or_len is_blank (drop at lines) ≤ length (drop at lines)

pub part-of : (lines : List Line) (at count : ℕ) (left part : List Line) → left ≡ drop at lines → count ≡ position_or_len is_blank left → count ≤ length left → part ≡ take count left → IsPart lines at count part
part-of lines at count left part lent place within cut = record {
  is = cut ∙ ap (λ n. take n left) place ∙ ap (before_first is_blank) lent;
  rest = sym (drop-drop (count + 1) at lines) ∙ ap (drop (count + 1)) (sym lent) ∙ ap (λ n. drop (n + 1) left) place ∙ ap (after_first is_blank) lent;
  within = let same = ap (position_or_len is_blank) lent in let size = ap length lent in omega (arith, same, size, place, within);
}

pub records-step : (done : List RecordedChange) (lines : List Line) (at count : ℕ) (part : List Line) (found : Option RecordedChange) → IsPart lines at count part → record_in part ≡ Ok found
    → joined done (changes_from (drop at lines)) ≡ joined (done ++ and_others found []) (changes_from (drop (at + (count + 1)) lines))
records-step done lines at count part found is good =
    let left = drop at lines in
    ap (joined done) (first-part left is.within)
    ∙ ap (λ front. joined done (read_on (record_in front) (changes_from (after_first is_blank left)))) (sym is.is)
    ∙ ap (λ first. joined done (read_on first (changes_from (after_first is_blank left)))) good
    ∙ joined-others done found (changes_from (after_first is_blank left))
    ∙ ap (λ rest. joined (done ++ and_others found []) (changes_from rest)) (sym is.rest)

pub records-fault : (done : List RecordedChange) (lines : List Line) (at count : ℕ) (part : List Line) (bad : BadLine) (all : Result (List RecordedChange) LineFault)
    → IsPart lines at count part → all ≡ joined done (changes_from (drop at lines)) → IsFaultOf (fault_of bad) (record_in part) → IsFaultOf (fault_of bad) all
records-fault done lines at count part bad all is was says =
    let left = drop at lines in
    fault-first bad (record_in part) (λ found. changes_from (after_first is_blank left) >>= λ others. Ok (and_others found others)) done all
    (was ∙ ap (joined done) (first-part left is.within) ∙ ap (λ front. joined done (read_on (record_in front) (changes_from (after_first is_blank left)))) (sym is.is)) says

pub records-done : (done : List RecordedChange) (left : List Line) → left ≡ [] → joined done (changes_from left) ≡ Ok done
records-done done left none = ap (λ left. joined done (changes_from left)) none ∙ ap (joined done) changes-nil ∙ ap Ok (append-nil done)
