-- Lemmas on a written file, read again.
use Rattle.std.proofs.Common.{◌≡◌, ℕ, ◌+◌, not, sym, ◌∙◌, ap, refl, arith, true, false, List, [], ◌∷◌, ◌++◌, length, map}
use Rattle.std.specs.Prelude.{codes}
use Rattle.std.specs.List.{flat_map, AllByRecursion}
use Rattle.std.specs.Str.Lines.{lines}
use Rattle.std.proofs.lemmas.Grind.{flat_map-append}
use Rattle.std.proofs.lemmas.List.{append-nil, append_assoc}
use Rattle.base64.specs.GeneralPurpose.{IsBytes}
use Rattle.dir_tree.specs.schema_tables.Attributes.{IsAttrId, name_of}
use Rattle.dir_tree.specs.schema_tables.Naming.{is_keystring}
use Rattle.dir_tree.proofs.schema_tables_proofs.Theorems.{is_keystring-name_of}
use Rattle.dir_tree.specs.dn_names.name.Names.{Keyed}
use Rattle.dir_tree.specs.dn_names.Printing.{print_name}
use Rattle.dir_tree.specs.Entry.{Attribute, EntryInformation}
use Rattle.ldif_records.specs.lines.Lines.{Line, numbered, is_continuation, continued, beginning, logical}
use Rattle.ldif_records.specs.Fields.{is_changetype}
use Rattle.ldif_records.specs.reading.Records.{is_comment, without_comments}
use Rattle.ldif_records.specs.lines.Places.{file_start, physical_from, logical_from, content_from}
use Rattle.ldif_records.specs.writing.Written.{written_value, written_line, written_values, written_attributes, written_entry, AreInTable}
use Rattle.ldif_records.specs.writing.WrittenFile.{TypeAndOctets, values_in, IsWritable, written_records}
use Rattle.ldif_records.proofs.laws.TableNames.{not_changetype-name_of}
use Rattle.ldif_records.proofs.laws.WrittenLineLemmas.{lines-inside, lines-written, IsRow}
use Rattle.dir_tree.proofs.base_laws_proofs.Theorems.{other_choice, choose}

-- a type and octets that are written and read again
pub record IsGiven (found : TypeAndOctets) : Type 0 where
  pub kind : is_keystring found.kind ≡ true
  pub other : is_changetype found.kind ≡ false
  pub octets : IsBytes found.value

-- the line of one value, and the lines of values from a number on
abbrev pub row_at : ℕ → TypeAndOctets → Line
row_at number found = record { number = number; octets = found.kind ++ written_value found.value }

abbrev pub value_rows : ℕ → List TypeAndOctets → List Line
value_rows number [] = []
value_rows number (found ∷ rest) = row_at number found ∷ value_rows (number + 1) rest

-- the first line of an entry, and all its lines
abbrev pub name_row : ℕ → EntryInformation → Line
name_row number entry = record { number = number; octets = codes "dn" ++ written_value (print_name entry.name) }

abbrev pub entry_rows : ℕ → EntryInformation → List Line
entry_rows number entry = name_row number entry ∷ value_rows (number + 1) (values_in entry.attributes)

-- the lines of the entries of a file
abbrev pub file_rows : ℕ → List EntryInformation → List Line
file_rows number [] = []
file_rows number (entry ∷ rest) =
    record { number = number; octets = [] } ∷ (entry_rows (number + 1) entry ++ file_rows (number + 1 + 1 + length (values_in entry.attributes)) rest)

-- the written lines of values
abbrev lines_text : List TypeAndOctets → List ℕ
lines_text values = flat_map (λ found. written_line found.kind found.value) values

pub value_rows-read : (number : ℕ) (values : List TypeAndOctets) (rest : List ℕ) → AllByRecursion IsGiven values
    → numbered number (lines (lines_text values ++ rest)) ≡ value_rows number values ++ numbered (number + length values) (lines rest)
value_rows-read number [] rest given = ap (λ n. numbered n (lines rest)) (omega arith)
value_rows-read number (found ∷ values) rest given =
    ap (λ text. numbered number (lines text)) (append_assoc (written_line found.kind found.value) (lines_text values) rest)
    ∙ ap (numbered number) (lines-written found.kind found.value (lines_text values ++ rest) given.0.kind)
    ∙ ap (λ later. row_at number found ∷ later)
    (value_rows-read (number + 1) values rest given.1 ∙ ap (λ n. value_rows (number + 1) values ++ numbered n (lines rest)) (omega arith))

-- the attributes of an entry are written value by value
values-text : (kind : List ℕ) (values : List Keyed) → written_values kind values ≡ lines_text (map (λ value. record { kind = kind; value = value.octets }) values)
values-text kind [] = refl
values-text kind (value ∷ rest) = ap (λ later. written_line kind value.octets ++ later) (values-text kind rest)

attributes-text : (attributes : List Attribute) → written_attributes attributes ≡ lines_text (values_in attributes)
attributes-text [] = refl
attributes-text (attribute ∷ rest) =
    ap (λ first. first ++ written_attributes rest) (values-text (name_of attribute.kind) attribute.values)
    ∙ ap (λ later. lines_text (map (λ value. record { kind = name_of attribute.kind; value = value.octets }) attribute.values) ++ later) (attributes-text rest)
    ∙ sym (flat_map-append (λ found. written_line found.kind found.value) (map (λ value. record { kind = name_of attribute.kind; value = value.octets }) attribute.values) (values_in rest))

-- the values of an entry that may be written
given-values : (kind : ℕ) (values : List Keyed) (others : List TypeAndOctets) → IsAttrId kind
    → (AllByRecursion (λ (found : TypeAndOctets). IsBytes found.value) others → AllByRecursion IsGiven others)
    → AllByRecursion (λ (found : TypeAndOctets). IsBytes found.value) (map (λ value. record { kind = name_of kind; value = value.octets }) values ++ others)
    → AllByRecursion IsGiven (map (λ value. record { kind = name_of kind; value = value.octets }) values ++ others)
given-values kind [] others is later bytes = later bytes
given-values kind (value ∷ values) others is later bytes =
    (record { kind = is_keystring-name_of kind is; other = not_changetype-name_of kind is; octets = bytes.0 }, given-values kind values others is later bytes.1)

given-attributes : (attributes : List Attribute) → AreInTable attributes → AllByRecursion (λ (found : TypeAndOctets). IsBytes found.value) (values_in attributes) → AllByRecursion IsGiven (values_in attributes)
given-attributes [] in_table bytes = tt
given-attributes (attribute ∷ rest) in_table bytes =
    given-values attribute.kind attribute.values (values_in rest) in_table.0 (given-attributes rest in_table.1) bytes

pub given-entry : (entry : EntryInformation) → IsWritable entry → AllByRecursion IsGiven (values_in entry.attributes)
given-entry entry is = given-attributes entry.attributes is.in_table is.values

-- the lines of a written entry
pub entry_rows-read : (number : ℕ) (entry : EntryInformation) (rest : List ℕ) → IsWritable entry
    → numbered number (lines (written_entry entry ++ rest)) ≡ entry_rows number entry ++ numbered (number + 1 + length (values_in entry.attributes)) (lines rest)
unfolding written_entry
entry_rows-read number entry rest is =
    ap (λ text. numbered number (lines text)) (append_assoc (written_line (codes "dn") (print_name entry.name)) (written_attributes entry.attributes) rest)
    ∙ ap (numbered number) (lines-written (codes "dn") (print_name entry.name) (written_attributes entry.attributes ++ rest) refl)
    ∙ ap (λ later. name_row number entry ∷ later)
    (ap (λ text. numbered (number + 1) (lines (text ++ rest))) (attributes-text entry.attributes)
    ∙ value_rows-read (number + 1) (values_in entry.attributes) rest (given-entry entry is))

-- the lines of the written entries of a file
pub file_rows-read : (number : ℕ) (entries : List EntryInformation) → AllByRecursion IsWritable entries → numbered number (lines (written_records entries)) ≡ file_rows number entries
file_rows-read number [] are = refl
file_rows-read number (entry ∷ rest) are =
    ap (numbered number) (lines-inside [] (written_entry entry ++ written_records rest) refl)
    ∙ ap (λ later. record { number = number; octets = [] } ∷ later)
    (entry_rows-read (number + 1) entry (written_records rest) are.0
    ∙ ap (λ later. entry_rows (number + 1) entry ++ later) (file_rows-read (number + 1 + 1 + length (values_in entry.attributes)) rest are.1))

-- lines of which none continues another stand for themselves
no_continuation : (lines : List Line) → AllByRecursion IsRow lines → continued lines ≡ []
unfolding continued
no_continuation [] rows = refl
no_continuation (line ∷ rest) rows = other_choice (is_continuation line) _ [] rows.0.begins

alone-row : (line : Line) (rest : List Line) → AllByRecursion IsRow rest → record { number = line.number; octets = line.octets ++ continued rest } ≡ line
alone-row line rest rows = ap (λ more. record { number = line.number; octets = line.octets ++ more }) (no_continuation rest rows) ∙ ap (λ octets. record { number = line.number; octets = octets }) (append-nil line.octets)

beginning-rows : (lines : List Line) → AllByRecursion IsRow lines → beginning lines ≡ lines
unfolding beginning
beginning-rows [] rows = refl
beginning-rows (line ∷ rest) rows =
    other_choice (is_continuation line) (beginning rest) _ rows.0.begins
    ∙ ap (λ first. first ∷ beginning rest) (alone-row line rest rows.1)
    ∙ ap (λ later. line ∷ later) (beginning-rows rest rows.1)

logical-rows : (lines : List Line) → AllByRecursion IsRow lines → logical lines ≡ lines
unfolding logical
logical-rows [] rows = refl
logical-rows (line ∷ rest) rows =
    ap (λ first. first ∷ beginning rest) (alone-row line rest rows.1) ∙ ap (λ later. line ∷ later) (beginning-rows rest rows.1)

-- and lines that are no comments stay
content-rows : (lines : List Line) → AllByRecursion IsRow lines → without_comments lines ≡ lines
unfolding without_comments
content-rows [] rows = refl
content-rows (line ∷ rest) rows =
    choose (not (is_comment line)) _ _ (ap not rows.0.says) ∙ ap (λ later. line ∷ later) (content-rows rest rows.1)

pub content-read : (text : List ℕ) (rows : List Line) → numbered 1 (lines text) ≡ rows → AllByRecursion IsRow rows → content_from text file_start ≡ rows
unfolding content_from logical_from physical_from
content-read text rows read are = ap (λ found. without_comments (logical found)) read ∙ ap without_comments (logical-rows rows are) ∙ content-rows rows are
