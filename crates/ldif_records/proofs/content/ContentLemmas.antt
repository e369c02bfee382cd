-- Lemmas on the lines that are no comments, and on what stands before the first record.
use Rattle.std.proofs.Common.{◌≡◌, ℕ, ◌<◌, ◌≤◌, ◌==◌, not, sym, ◌∙◌, ap, refl, arith, Bool, true, false, List, [], ◌∷◌, length, if◌then◌else◌, Option, Some, None}
use Rattle.std.specs.Prelude.{IfSome, IfNone}
use Rattle.std.specs.List.{filter_map}
use Rattle.std.specs.Str.Lines.{lines}
use Rattle.std.proofs.lemmas.Bool.{eq-eqb, ne_eqb}
use Rattle.std.proofs.lemmas.List.{drop_all}
use Rattle.std.proofs.lemmas.List.Splits.{slice_split-cons_yes}
use Rattle.ldif_records.specs.declared.types.Position.{Position}
use Rattle.ldif_records.specs.lines.Lines.{Line, numbered, logical}
use Rattle.ldif_records.specs.reading.Records.{is_comment, without_comments, is_version, without_version, is_blank, record_between, records}
use Rattle.ldif_records.specs.lines.Places.{IsLinesAfter, physical_from, logical_from, content_from, body_from}
use Rattle.ldif_records.specs.reading.Steps.{ahead, is_blank_ahead, is_version_ahead, IsRead}
use Rattle.ldif_records.proofs.content.AfterLemmas.{after_both}
use Rattle.dir_tree.proofs.base_laws_proofs.Theorems.{choose, other_choice}

-- at the end no line is left
pub content-none : (text : List ℕ) (at : Position) → length text ≤ at.offset → content_from text at ≡ []
unfolding content_from logical_from physical_from logical without_comments
content-none text at past = ap (λ rest. without_comments (logical (numbered at.line (lines rest)))) (drop_all at.offset text past)

-- a first line that is a comment is left out
comment-first : (line : Line) (rest : List Line) (says : Bool) → is_comment line ≡ says → without_comments (line ∷ rest) ≡ (if says then without_comments rest else line ∷ without_comments rest)
unfolding without_comments
comment-first line rest true is = other_choice (not (is_comment line)) _ _ (ap not is)
comment-first line rest false is = choose (not (is_comment line)) _ _ (ap not is)

pub content-comment : (text : List ℕ) (at after : Position) (line : Line) → logical_from text at ≡ line ∷ logical_from text after → is_comment line ≡ true
    → content_from text at ≡ content_from text after
unfolding content_from
content-comment text at after line first is = ap without_comments first ∙ comment-first line (logical_from text after) true is

-- another one stays
pub content-line : (text : List ℕ) (at after : Position) (line : Line) → logical_from text at ≡ line ∷ logical_from text after → is_comment line ≡ false
    → content_from text at ≡ line ∷ content_from text after
unfolding content_from
content-line text at after line first is = ap without_comments first ∙ comment-first line (logical_from text after) false is

-- past the start of the file there is no version
pub body-later : (text : List ℕ) (from : Position) → 0 < from.offset → body_from text from ≡ content_from text from
unfolding body_from
body-later text from past = other_choice (from.offset == 0) _ _ (ne_eqb from.offset 0 (λ start. omega arith))

-- at its start the version is left out
pub body-first : (text : List ℕ) (from : Position) → from.offset ≡ 0 → body_from text from ≡ without_version (content_from text from)
unfolding body_from
body-first text from start = choose (from.offset == 0) _ _ (eq-eqb from.offset 0 start)

pub no_version : (line : Option Line) (rest : List Line) → is_version_ahead line ≡ false → IfNone line (rest ≡ []) → without_version (ahead line rest) ≡ ahead line rest
unfolding without_version
no_version None rest is none = ap without_version none ∙ sym none
no_version (Some line) rest is none = other_choice (is_version line) _ _ is

pub after_version : (line : Option Line) (rest : List Line) → is_version_ahead line ≡ true → without_version (ahead line rest) ≡ rest
unfolding without_version
after_version None rest is = cc is
after_version (Some line) rest is = choose (is_version line) _ _ is

-- the same was read of an equal list
pub IsRead-same : (left whole : List Line) (text : List ℕ) (from : Position) (found : Option Line) (to : Position) → whole ≡ left → IsRead left text from found to → IsRead whole text from found to
IsRead-same left whole text from found to same read =
    record { lines = same ∙ read.lines; end = read.end; later = read.later; after = read.after; place = read.place; passed = read.passed }

-- the same was read from an earlier place
pub later-still : (found : Option Line) (from at to : ℕ) → from ≤ at → IfSome found (λ _. at < to) → IfSome found (λ _. from < to)
later-still None from at to within later = tt
later-still (Some line) from at to within later = omega arith

pub IsRead-before : (left whole : List Line) (text : List ℕ) (from at : Position) (found : Option Line) (to : Position) → whole ≡ left → from.offset ≤ at.offset → IsLinesAfter text from at → IsRead left text at found to → IsRead whole text from found to
IsRead-before left whole text from at found to same within passed read = record {
  lines = same ∙ read.lines;
  end = read.end;
  later = later-still found from.offset at.offset to.offset within read.later;
  after = omega (arith, read.after);
  place = read.place;
  passed = after_both text from at to passed read.passed;
}

-- an empty line before records changes nothing
pub records-blank : (line : Line) (rest : List Line) → is_blank line ≡ true → records (line ∷ rest) ≡ records rest
unfolding records
records-blank line rest blank = ap (λ parts. filter_map record_between parts) (slice_split-cons_yes is_blank line rest blank)

pub records-blank_ahead : (line : Option Line) (rest : List Line) → is_blank_ahead line ≡ true → records (ahead line rest) ≡ records rest
records-blank_ahead None rest blank = refl
records-blank_ahead (Some line) rest blank = records-blank line rest blank

-- after an empty line a further line is later still
pub IsRead-blank : (line found : Option Line) (from at to : ℕ) → is_blank_ahead line ≡ true → IfSome line (λ _. from < at) → IfSome found (λ _. at < to) → IfSome found (λ _. from < to)
IsRead-blank None found from at to blank before later = cc blank
IsRead-blank (Some line) found from at to blank before later = later-still found from at to (omega arith) later
