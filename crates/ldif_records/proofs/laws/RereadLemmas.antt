-- Lemmas on the records of a written file.
use Rattle.std.proofs.Common.{◌≡◌, ℕ, ◌+◌, ◌<◌, ◌==◌, sym, ◌∙◌, ap, refl, arith, true, false, List, [], ◌∷◌, ◌++◌, length, Some, Result, Ok, Err}
use Rattle.std.specs.Prelude.{codes, ◌↔◌}
use Rattle.std.specs.List.{AllByRecursion}
use Rattle.std.specs.Result.{result_ok}
use Rattle.std.specs.Str.Lines.{lines}
use Rattle.std.proofs.lemmas.Bool.Decides.{nat_tests}
use Rattle.std.proofs.lemmas.List.{append-nil, append_assoc, append_cancel_right}
use Rattle.base64.specs.Engines.{standard}
use Rattle.base64.specs.GeneralPurpose.{IsBytes, encode_of, decode_of}
use Rattle.base64.specs.declared.decode.DecodeError.{DecodeError}
use Rattle.base64.proofs.EngineFacts.{decode_of_iff}
use Rattle.dir_tree.specs.schema_tables.Naming.{is_keystring}
use Rattle.dir_tree.specs.dn_names.Printing.{print_name}
use Rattle.dir_tree.specs.Entry.{EntryInformation}
use Rattle.ldif_records.specs.lines.Lines.{Line, numbered}
use Rattle.ldif_records.specs.Fields.{Field, field_of, decoded, value_of}
use Rattle.ldif_records.specs.reading.Records.{◌>>=◌, is_version, without_version, attribute_lines, records}
use Rattle.ldif_records.specs.lines.Places.{file_start, content_from, body_from, records_from}
use Rattle.ldif_records.specs.reading.Steps.{before_blank, after_blank}
use Rattle.ldif_records.specs.writing.Written.{written_value, written_line, written_entry}
use Rattle.ldif_records.specs.writing.WrittenFile.{TypeAndOctets, values_in, IsWritable, lines_from, record_from, written_records, written_file, entry_records}
use Rattle.ldif_records.proofs.reading.RecordLemmas.{before-line, after-line, before-blank, after-blank, before-nil, after-nil, lines-cons, record-good, records-first, records-nil}
use Rattle.ldif_records.proofs.content.ContentLemmas.{records-blank}
use Rattle.ldif_records.proofs.laws.WrittenLineLemmas.{says, attribute-says, name-says, lines-inside, IsRow, row-of, filled-of}
use Rattle.ldif_records.proofs.laws.WrittenFileLemmas.{IsGiven, row_at, value_rows, name_row, entry_rows, file_rows, given-entry, entry_rows-read, file_rows-read, content-read}

-- the lines of a written file continue none and are no comments
value_rows-are : (number : ℕ) (values : List TypeAndOctets) (more : List Line) → AllByRecursion IsGiven values → AllByRecursion IsRow more → AllByRecursion IsRow (value_rows number values ++ more)
value_rows-are number [] more given rows = rows
value_rows-are number (found ∷ values) more given rows =
    (row-of number found.kind (written_value found.value) given.0.kind, value_rows-are (number + 1) values more given.1 rows)

entry_rows-are : (number : ℕ) (entry : EntryInformation) (more : List Line) → IsWritable entry → AllByRecursion IsRow more → AllByRecursion IsRow (entry_rows number entry ++ more)
entry_rows-are number entry more is rows =
    (row-of number (codes "dn") (written_value (print_name entry.name)) refl, value_rows-are (number + 1) (values_in entry.attributes) more (given-entry entry is) rows)

file_rows-are : (number : ℕ) (entries : List EntryInformation) → AllByRecursion IsWritable entries → AllByRecursion IsRow (file_rows number entries)
file_rows-are number [] are = tt
file_rows-are number (entry ∷ rest) are =
    (record { begins = refl; says = refl }, entry_rows-are (number + 1) entry (file_rows (number + 1 + 1 + length (values_in entry.attributes)) rest) are.0 (file_rows-are (number + 1 + 1 + length (values_in entry.attributes)) rest are.1))

-- the lines of values end where an empty line, or no line, follows
before-values : (number : ℕ) (values : List TypeAndOctets) (more : List Line) → AllByRecursion IsGiven values → before_blank more ≡ [] → before_blank (value_rows number values ++ more) ≡ value_rows number values
before-values number [] more given ends = ends
before-values number (found ∷ values) more given ends =
    before-line (row_at number found) (value_rows (number + 1) values ++ more) (filled-of number found.kind (written_value found.value) given.0.kind)
    ∙ ap (λ later. row_at number found ∷ later) (before-values (number + 1) values more given.1 ends)

after-values : (number : ℕ) (values : List TypeAndOctets) (more : List Line) → AllByRecursion IsGiven values → after_blank (value_rows number values ++ more) ≡ after_blank more
after-values number [] more given = refl
after-values number (found ∷ values) more given =
    after-line (row_at number found) (value_rows (number + 1) values ++ more) (filled-of number found.kind (written_value found.value) given.0.kind)
    ∙ after-values (number + 1) values more given.1

-- they are read as the values
lines-nil : attribute_lines [] ≡ Ok []
unfolding attribute_lines
lines-nil = refl

values-read : (number : ℕ) (values : List TypeAndOctets) → AllByRecursion IsGiven values → attribute_lines (value_rows number values) ≡ Ok (lines_from number values)
values-read number [] given = lines-nil
values-read number (found ∷ values) given =
    lines-cons (row_at number found) (value_rows (number + 1) values) _ (attribute-says number found.kind found.value (found.kind ++ written_value found.value) (says found.kind found.value given.0.kind given.0.octets) given.0.other)
    ∙ ap (λ reading. reading >>= λ others. Ok (record { line = number; kind = found.kind; value = found.value } ∷ others)) (values-read (number + 1) values given.1)

some_rows : (number : ℕ) (values : List TypeAndOctets) → 0 < length values → (length (value_rows number values) == 0) ≡ false
some_rows number [] filled = absurd (omega arith)
some_rows number (found ∷ values) filled = grind (arith, nat_tests)

-- the record of an entry
records-entry : (number : ℕ) (entry : EntryInformation) (more : List Line) → IsWritable entry → before_blank more ≡ []
    → records (entry_rows number entry ++ more) ≡ Ok (record_from number entry) ∷ records (after_blank more)
records-entry number entry more is ends =
    let given = given-entry entry is in
    let values = values_in entry.attributes in
    let front = before-values (number + 1) values more given ends in
    records-first (name_row number entry) (value_rows (number + 1) values ++ more) (filled-of number (codes "dn") (written_value (print_name entry.name)) refl)
    ∙ ap (λ first. first ∷ records (after_blank (value_rows (number + 1) values ++ more)))
    (record-good (name_row number entry) (before_blank (value_rows (number + 1) values ++ more)) false (print_name entry.name) (lines_from (number + 1) values)
    (ap (λ rows. length rows == 0) front ∙ some_rows (number + 1) values is.filled)
    (name-says number (print_name entry.name) (codes "dn" ++ written_value (print_name entry.name)) (says (codes "dn") (print_name entry.name) refl is.name))
    (ap attribute_lines front ∙ values-read (number + 1) values given))
    ∙ ap (λ rows. Ok (record_from number entry) ∷ records rows) (after-values (number + 1) values more given)

-- the records of the entries of a file
file-ends : (number : ℕ) (entries : List EntryInformation) → before_blank (file_rows number entries) ≡ []
file-ends number [] = before-nil
file-ends number (entry ∷ rest) = before-blank (record { number = number; octets = [] }) _ refl

file-after : (number : ℕ) (entries : List EntryInformation) → records (after_blank (file_rows number entries)) ≡ records (file_rows number entries)
file-after number [] = ap records after-nil
file-after number (entry ∷ rest) =
    ap records (after-blank (record { number = number; octets = [] }) _ refl) ∙ sym (records-blank (record { number = number; octets = [] }) _ refl)

file-records : (number : ℕ) (entries : List EntryInformation) → AllByRecursion IsWritable entries → records (file_rows number entries) ≡ entry_records number entries
file-records number [] are = records-nil
file-records number (entry ∷ rest) are =
    let next = number + 1 + 1 + length (values_in entry.attributes) in
    records-blank (record { number = number; octets = [] }) (entry_rows (number + 1) entry ++ file_rows next rest) refl
    ∙ records-entry (number + 1) entry (file_rows next rest) are.0 (file-ends next rest)
    ∙ ap (λ later. Ok (record_from (number + 1) entry) ∷ later) (file-after next rest ∙ file-records next rest are.1)

body-version : (rows : List Line) → without_version (record { number = 1; octets = codes "version: 1" } ∷ rows) ≡ rows
unfolding without_version is_version
body-version rows = refl

body-entry : (entry : EntryInformation) (rows : List Line) → without_version (name_row 1 entry ∷ rows) ≡ name_row 1 entry ∷ rows
unfolding without_version is_version
body-entry entry rows = refl

body-start : (text : List ℕ) (rows : List Line) → content_from text file_start ≡ rows → body_from text file_start ≡ without_version rows
unfolding body_from
body-start text rows is = ap without_version is

-- a written file gives the records of its entries
pub file-reread : (entries : List EntryInformation) → AllByRecursion IsWritable entries → records_from (written_file entries) file_start ≡ entry_records 2 entries
unfolding records_from written_file
file-reread entries are =
    let rows = record { number = 1; octets = codes "version: 1" } ∷ file_rows 2 entries in
    let read = ap (numbered 1) (lines-inside (codes "version: 1") (written_records entries) refl) ∙ ap (λ later. record { number = 1; octets = codes "version: 1" } ∷ later) (file_rows-read 2 entries are) in
    ap records (body-start (written_file entries) rows (content-read (written_file entries) rows read (record { begins = refl; says = refl }, file_rows-are 2 entries are)) ∙ body-version (file_rows 2 entries))
    ∙ file-records 2 entries are

-- the record of one entry gives it alone
pub entry-reread : (entry : EntryInformation) → IsWritable entry → records_from (written_entry entry) file_start ≡ Ok (record_from 1 entry) ∷ []
unfolding records_from
entry-reread entry is =
    let rows = entry_rows 1 entry ++ [] in
    let read = ap (λ text. numbered 1 (lines text)) (sym (append-nil (written_entry entry))) ∙ entry_rows-read 1 entry [] is in
    ap records (body-start (written_entry entry) rows (content-read (written_entry entry) rows read (entry_rows-are 1 entry [] is tt)) ∙ body-entry entry (value_rows (1 + 1) (values_in entry.attributes) ++ []))
    ∙ records-entry 1 entry [] is before-nil
    ∙ ap (λ later. Ok (record_from 1 entry) ∷ later) (ap records after-nil ∙ records-nil)

-- no written value is read as another
pub value-reread : (kind one other : List ℕ) → is_keystring kind ≡ true → IsBytes one → IsBytes other → written_line kind one ≡ written_line kind other → one ≡ other
value-reread kind one other is bytes others same =
    let lines_same = append_cancel_right (kind ++ written_value one) (kind ++ written_value other) (10 ∷ []) (append_assoc kind (written_value one) (10 ∷ []) ∙ same ∙ sym (append_assoc kind (written_value other) (10 ∷ []))) in
    let first = says kind one is bytes in
    let second = says kind other is others in
    same_value first.field second.field one other (sym first.found ∙ ap field_of lines_same ∙ second.found) first.octets second.octets
  where
    same_value : (a b : Field) (one other : List ℕ) → Some a ≡ Some b → value_of a ≡ Some one → value_of b ≡ Some other → one ≡ other
    same_value a b one other same first second =
        let fields : a ≡ b = cc same in
        let both = sym first ∙ ap value_of fields ∙ second in
        cc both

-- strict base64 decodes the encoding alone
decoded-ok : (read : Result (List ℕ) DecodeError) (value : List ℕ) → result_ok read ≡ Some value → read ≡ Ok value
decoded-ok (Ok found) value is = cc is
decoded-ok (Err error) value is = cc is

pub decoded-exact : (text value : List ℕ) → IsBytes text → IsBytes value → (decoded text ≡ Some value) ↔ (text ≡ encode_of standard value)
unfolding decoded
decoded-exact text value octets bytes =
    let exact = decode_of_iff standard text value (refl, refl) octets bytes in
    (λ is. exact.0 (decoded-ok (decode_of standard text) value is), λ is. ap result_ok (exact.1 is))
