-- Lemmas on the types in the lines of a record: each has the form of a type, so it is ASCII.
use Rattle.std.proofs.Common.{◌≡◌, ℕ, ◌==◌, ◌||◌, ◌&&◌, nat_lt, sym, ◌∙◌, ap, subst, refl, arith, Bool, true, false, List, [], ◌∷◌, Option, Some, None, Result, Ok, Err, length, if◌then◌else◌, inl, inr}
use Rattle.std.specs.Char.{is_ascii_alphabetic, is_ascii_alphanumeric, is_ascii_digit}
use Rattle.std.specs.List.{AllByRecursion, filter_map, slice_split, onto_first, list_all, list_any, before_first, after_first}
use Rattle.std.specs.Str.{IsAscii}
use Rattle.std.proofs.lemmas.Bool.{and_parts, and_from, or_cases, ltb-true}
use Rattle.std.proofs.lemmas.Bool.Decides.{nat_tests}
use Rattle.dir_tree.specs.schema_tables.Naming.{is_keystring}
use Rattle.dir_tree.specs.schema_tables.Oids.{is_number, parts, is_dotted_oid}
use Rattle.ldif_records.specs.declared.types.Position.{Position}
use Rattle.ldif_records.specs.declared.types.Record.{Record}
use Rattle.ldif_records.specs.declared.types.RecordLine.{RecordLine}
use Rattle.ldif_records.specs.reading.Faults.{LineFault, Bad}
use Rattle.ldif_records.specs.declared.types.LineCause.TheVariants.{Changetype}
use Rattle.ldif_records.specs.lines.Lines.{Line, begins_with}
use Rattle.ldif_records.specs.Fields.{Field, is_colon, is_kind, is_changetype, field_after, field_of, value_of, with_value, attribute_of, attribute_line, name_line}
use Rattle.ldif_records.specs.reading.Records.{◌>>=◌, is_blank, attribute_lines, record_of, record_between, records}
use Rattle.ldif_records.specs.lines.Places.{IsNext, body_from, records_from}
use Rattle.ldif_records.proofs.laws.OctetLemmas.{list_all-weaker, passes-at}
use Rattle.dir_tree.proofs.plain_values_proofs.Theorems.{both_given}

-- the type of a line has the form of a type
abbrev pub HasKind : RecordLine → Type 0
HasKind line = is_kind line.kind ≡ true

-- the field of a line has the type that stands before the colon
after-kind : (kind after : List ℕ) (elsewhere coded : Bool) (one other field : Field) → one.kind ≡ kind → other.kind ≡ kind
    → (if elsewhere then None else if coded then Some one else Some other) ≡ Some field → field.kind ≡ kind
after-kind kind after true coded one other field p q is = cc is
after-kind kind after false true one other field p q is = let same : one ≡ field = cc is in ap (λ (found : Field). found.kind) (sym same) ∙ p
after-kind kind after false false one other field p q is = let same : other ≡ field = cc is in ap (λ (found : Field). found.kind) (sym same) ∙ q

field-kind : (line kind after : List ℕ) (colon good : Bool) (field : Field) → is_kind kind ≡ good → (if colon && good then field_after kind after else None) ≡ Some field → is_kind field.kind ≡ true
field-kind line kind after true true field is found = ap is_kind (after-kind kind after (begins_with 60 after) (begins_with 58 after) _ _ field refl refl found) ∙ is
field-kind line kind after true false field is found = cc found
field-kind line kind after false good field is found = cc found

field_of-kind : (line : List ℕ) (field : Field) → field_of line ≡ Some field → is_kind field.kind ≡ true
unfolding field_of
field_of-kind line field found =
    field-kind line (before_first is_colon line) (after_first is_colon line) (list_any is_colon line) (is_kind (before_first is_colon line)) field refl found

-- an attribute line that is read has it
value-kind : (number : ℕ) (kind : List ℕ) (value : Option (List ℕ)) (line : RecordLine) → with_value number kind value ≡ Ok line → line.kind ≡ kind
value-kind number kind None line is = cc is
value-kind number kind (Some value) line is =
    let same : record { line = number; kind = kind; value = value } ≡ line = cc is in ap (λ (found : RecordLine). found.kind) (sym same)

change-kind : (number : ℕ) (field : Field) (change : Bool) (line : RecordLine) → (if change then Err (Bad number Changetype) else with_value number field.kind (value_of field)) ≡ Ok line → line.kind ≡ field.kind
change-kind number field true line is = cc is
change-kind number field false line is = value-kind number field.kind (value_of field) line is

attribute-kind : (number : ℕ) (found : Option Field) (line : RecordLine) → ((field : Field) → found ≡ Some field → is_kind field.kind ≡ true) → attribute_of number found ≡ Ok line → HasKind line
attribute-kind number None line forms is = cc is
attribute-kind number (Some field) line forms is = ap is_kind (change-kind number field (is_changetype field.kind) line is) ∙ forms field refl

line-kind : (line : Line) (read : RecordLine) → attribute_line line ≡ Ok read → HasKind read
line-kind line read is = attribute-kind line.number (field_of line.octets) read (field_of-kind line.octets) is

-- and so have the lines of a record
lines-kinds : (lines : List Line) (read : List RecordLine) → attribute_lines lines ≡ Ok read → AllByRecursion HasKind read
unfolding attribute_lines
lines-kinds [] read is = let none : [] ≡ read = cc is in subst (AllByRecursion HasKind) none tt
lines-kinds (line ∷ rest) read is =
    let first = both_given (attribute_line line) _ read is in
    let others = both_given (attribute_lines rest) _ read first.2 in
    let same : first.0 ∷ others.0 ≡ read = cc others.2 in
    subst (AllByRecursion HasKind) same (line-kind line first.0 first.1, lines-kinds rest others.0 others.1)

record-kinds : (first : Line) (rest : List Line) (read : Record) → record_of first rest ≡ Ok read → AllByRecursion HasKind read.lines
unfolding record_of
record-kinds first rest read is =
    let name = both_given (name_line (length rest == 0) first) _ read is in
    let lines = both_given (attribute_lines rest) _ read name.2 in
    let same : record { line = first.number; name = name.0; lines = lines.0 } ≡ read = cc lines.2 in
    subst (λ (found : Record). AllByRecursion HasKind found.lines) same (lines-kinds rest lines.0 lines.1)

first-kinds : (parts : List (List Line)) (read : Record) (rest : List (Result Record LineFault)) → filter_map record_between parts ≡ Ok read ∷ rest → AllByRecursion HasKind read.lines
first-kinds [] read rest is = cc is
first-kinds ([] ∷ parts) read rest is = first-kinds parts read rest is
first-kinds ((line ∷ lines) ∷ parts) read rest is =
    let same : record_of line lines ≡ Ok read = cc is in record-kinds line lines read same

records-kinds : (lines : List Line) (read : Record) (rest : List (Result Record LineFault)) → records lines ≡ Ok read ∷ rest → AllByRecursion HasKind read.lines
unfolding records
records-kinds lines read rest is = first-kinds (slice_split is_blank lines) read rest is

pub IsNext-kinds : (text : List ℕ) (from to : Position) (read : Record) → IsNext text from read to → AllByRecursion HasKind read.lines
unfolding records_from
IsNext-kinds text from to read next = records-kinds (body_from text from) read _ next.record_read

-- the octets of a type are ASCII
abbrev is_low : ℕ → Bool
is_low octet = nat_lt octet 128

alphabetic-low : (octet : ℕ) → is_ascii_alphabetic octet ≡ true → is_low octet ≡ true
alphabetic-low octet is = grind (arith, nat_tests)

key-low : (octet : ℕ) → (is_ascii_alphanumeric octet || octet == 45) ≡ true → is_low octet ≡ true
key-low octet is = grind (arith, nat_tests)

digit-low : (octet : ℕ) → is_ascii_digit octet ≡ true → is_low octet ≡ true
digit-low octet is = grind (arith, nat_tests)

dot-low : (octet : ℕ) → (octet == 46) ≡ true → is_low octet ≡ true
dot-low octet is = grind (arith, nat_tests)

keystring-low : (kind : List ℕ) → is_keystring kind ≡ true → list_all is_low kind ≡ true
keystring-low [] is = refl
keystring-low (first ∷ rest) is =
    let both = and_parts (is_ascii_alphabetic first) (list_all (λ octet. is_ascii_alphanumeric octet || octet == 45) rest) is in
    and_from (is_low first) (list_all is_low rest) (alphabetic-low first both.0) (list_all-weaker (λ octet. is_ascii_alphanumeric octet || octet == 45) is_low key-low rest both.1)

-- parts of digits between dots
numbers-digits : (parts : List (List ℕ)) → list_all is_number parts ≡ true → list_all (list_all is_ascii_digit) parts ≡ true
numbers-digits [] all = refl
numbers-digits (part ∷ parts) all =
    let both = and_parts (is_number part) (list_all is_number parts) all in
    and_from (list_all is_ascii_digit part) _ (and_parts _ _ (and_parts _ _ both.0).0).1 (numbers-digits parts both.1)

onto-digits : (octet : ℕ) (parts : List (List ℕ)) → list_all (list_all is_ascii_digit) (onto_first octet parts) ≡ true → (is_ascii_digit octet ≡ true) × (list_all (list_all is_ascii_digit) parts ≡ true)
onto-digits octet [] all = ((and_parts _ _ (and_parts _ _ all).0).0, refl)
onto-digits octet (part ∷ parts) all =
    let both = and_parts (list_all is_ascii_digit (octet ∷ part)) (list_all (list_all is_ascii_digit) parts) all in
    let first = and_parts (is_ascii_digit octet) (list_all is_ascii_digit part) both.0 in
    (first.0, and_from (list_all is_ascii_digit part) _ first.1 both.1)

dotted-by : (octet : ℕ) (rest : List ℕ) (dot : Bool) → (octet == 46) ≡ dot → (list_all (list_all is_ascii_digit) (parts rest) ≡ true → list_all is_low rest ≡ true)
    → list_all (list_all is_ascii_digit) (if dot then [] ∷ parts rest else onto_first octet (parts rest)) ≡ true → list_all is_low (octet ∷ rest) ≡ true
dotted-by octet rest true is later all = and_from (is_low octet) (list_all is_low rest) (dot-low octet is) (later all)
dotted-by octet rest false is later all =
    let both = onto-digits octet (parts rest) all in
    and_from (is_low octet) (list_all is_low rest) (digit-low octet both.0) (later both.1)

dotted-low : (text : List ℕ) → list_all (list_all is_ascii_digit) (parts text) ≡ true → list_all is_low text ≡ true
dotted-low [] all = refl
dotted-low (octet ∷ rest) all = dotted-by octet rest (octet == 46) refl (dotted-low rest) all

kind-low : (kind : List ℕ) → is_kind kind ≡ true → list_all is_low kind ≡ true
unfolding is_kind is_dotted_oid
kind-low kind is =
    elim (or_cases (is_keystring kind) (is_dotted_oid kind) is) [
      | inl word ↦ keystring-low kind word
      | inr dotted ↦ dotted-low kind (numbers-digits (parts kind) (and_parts _ _ dotted).1)
    ]

pub is_kind-ascii : (kind : List ℕ) → is_kind kind ≡ true → IsAscii kind
is_kind-ascii kind is = λ k. ltb-true _ 128 (passes-at is_low refl kind (kind-low kind is) k)
